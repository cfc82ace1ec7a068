use Rattle.std.proofs.Common.{◌≡◌, ◌<◌, ◌/◌, ℕ, Some}
use Rattle.std.specs.Prelude.{slice_get}
use Rattle.golden_aig.specs.declared.graph.And.{And}
use Rattle.aiger_order.specs.Numbers.{Known}
use Rattle.aiger_order.proofs.ring.find_left.Given as goal

abbrev pub invariant-loop-place : goal.invariant-loop-place
invariant-loop-place l = (line : ℕ) (one : And) → line < l.place → slice_get l.lines line ≡ Some one → Known l.numbering.names.items (one.lhs / 2)
