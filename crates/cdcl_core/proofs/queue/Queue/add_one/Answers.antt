use Rattle.std.proofs.Common.{◌≡◌, ◌∙◌, ◌<◌, ℕ, List, false, length, sym, ap, subst}
use Rattle.std.specs.List.{Contains}
use Rattle.std.specs.Prelude.{OnOk}
use Rattle.std.proofs.lemmas.Result.{IfOk-weaker}
use Rattle.rsfq_ids.specs.Formula.{opposite}
use Rattle.proof_arena.specs.Table.{falses_of}
use Rattle.cdcl_core.specs.Oldest.{IsAt}
use Rattle.cdcl_core.proofs.queue.Queue.add_one.Goals as goal

pub returns-clause-added : goal.returns-clause-added
returns-clause-added c = IfOk-weaker c.push.result (λ _. Contains c.push.new.self c.place_of.result)
    (λ _. falses_of c.args.marks.now c.args.lit ≡ false → (n : ℕ) → n < length c.args.trail.now.trail → IsAt c.args.trail.now.trail n (opposite c.args.lit) → Contains c.push.new.self n)
    (λ _ has off n l at. subst (Contains c.push.new.self) (c.place_of.ensures n l (subst (IsAt c.args.trail.now.trail n) (sym c.opposite.ensures) at)) has)
    c.push.ensures.here
