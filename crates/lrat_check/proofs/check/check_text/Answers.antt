use Rattle.std.proofs.Common.{Result, Ok, Err}
use Rattle.std.specs.Prelude.{OnOk}
use Rattle.lrat_check.proofs.Refutes.{refutes}
use Rattle.lrat_check.proofs.check.check_text.Goals as goal

mapped : {T E : Type 0} {P Q : Type 0} (r : Result T E) → (P → Q) → OnOk r P → OnOk r Q
mapped (Ok x) f p = f p
mapped (Err e) f p = p

pub returns-clause-refutes : goal.returns-clause-refutes
returns-clause-refutes c =
    mapped c.check_lines.result (refutes c.readings_are_sound.ensures c.denials_are_sound.ensures c.args.cnf.now c.args.bytes.now) c.check_lines.ensures.ok
