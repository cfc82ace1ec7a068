use Rattle.std.proofs.Common.{◌≡◌, ◌∙◌, inl, inr, sym, true, false, Result, Ok, Err, IfOk, IfErr}
use Rattle.aiger_read.specs.Both.{is_ascii}
use Rattle.aiger_read.proofs.AsciiFiles.{ascii_in_order}
use Rattle.aiger_read.proofs.BinaryFiles.{binary_read}
use Rattle.aiger_read.proofs.Both.{none_in_lines, none_in_bytes}
use Rattle.aiger_read.proofs.forms.read_aiger.Goals as goal

ok_then : {T E : Type 0} (r : Result T E) (P Q R : T → Type 0) → IfOk r P → IfOk r Q → ((x : T) → P x → Q x → R x) → IfOk r R
ok_then (Ok x) P Q R p q then = then x p q
ok_then (Err e) P Q R p q then = tt

err_then : {T E : Type 0} (r : Result T E) (P Q : E → Type 0) → IfErr r P → ((e : E) → P e → Q e) → IfErr r Q
err_then (Ok x) P Q p then = tt
err_then (Err e) P Q p then = then e p

pub returns-then-starts_with-clause-spelled : goal.returns-then-starts_with-clause-spelled
returns-then-starts_with-clause-spelled c =
    ok_then c.read_ascii.result _ _ _ c.read_ascii.ensures.graph c.read_ascii.ensures.order (λ aig graph lists. inl (ascii_in_order c.args.bytes.now aig graph lists))

pub returns-then-starts_with-clause-none : goal.returns-then-starts_with-clause-none
returns-then-starts_with-clause-none c =
    let ascii : is_ascii c.args.bytes.now ≡ true = sym c.starts_with.ensures.value ∙ c.if-starts_with.true in
    err_then c.read_ascii.result _ _ c.read_ascii.ensures.fault (λ e refusal. none_in_lines c.args.bytes.now e ascii refusal)

pub returns-else-starts_with-clause-spelled : goal.returns-else-starts_with-clause-spelled
returns-else-starts_with-clause-spelled c =
    ok_then c.read_binary.result _ _ _ c.read_binary.ensures.graph c.read_binary.ensures.reads (λ aig graph reads. inr (binary_read c.args.bytes.now aig reads))

pub returns-else-starts_with-clause-none : goal.returns-else-starts_with-clause-none
returns-else-starts_with-clause-none c =
    let other : is_ascii c.args.bytes.now ≡ false = sym c.starts_with.ensures.value ∙ c.if-starts_with.false in
    err_then c.read_binary.result _ _ c.read_binary.ensures.fault (λ e refusal. none_in_bytes c.args.bytes.now e other refusal)
