use Rattle.std.proofs.Common.{◌≡◌, ◌++◌, ◌∷◌, [], ℕ, length, Some}
use Rattle.std.specs.Prelude.{slice_get, is_none}
use Rattle.std.specs.List.{count_by}
use Rattle.golden_aig.specs.declared.graph.And.{And}
use Rattle.aiger_order.specs.Numbers.{HoldsOnce}
use Rattle.aiger_order.specs.Ring.{IsLeft, IsChain}
use Rattle.aiger_order.proofs.ring.find_ring.Given as goal

abbrev pub invariant-walk : goal.invariant-walk
invariant-walk l = record {
  left : IsLeft l.numbering.names.items l.lines l.place;
  size : length l.met.items ≡ length l.lines;
  chain : (one : And) → slice_get l.lines l.place ≡ Some one → IsChain l.lines (l.path.items ++ one.lhs ∷ []);
  met : (line at : ℕ) (one : And) → slice_get l.met.items line ≡ Some (Some at) → slice_get l.lines line ≡ Some one → slice_get l.path.items at ≡ Some one.lhs;
  seen : (line at : ℕ) (one : And) → slice_get l.path.items at ≡ Some one.lhs → slice_get l.lines line ≡ Some one → slice_get l.met.items line ≡ Some (Some at);
  once : HoldsOnce l.path.items;
}

abbrev pub decreases-walk : goal.decreases-walk
decreases-walk l = count_by is_none l.met.items
