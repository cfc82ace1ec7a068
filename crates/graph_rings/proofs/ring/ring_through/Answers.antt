use Rattle.std.proofs.Common.{◌≡◌, ◌-◌, ℕ, List, Some, None, length, sym, subst}
use Rattle.std.specs.Prelude.{slice_get}
use Rattle.graph_rings.proofs.Touring.{at_end, none_last, no_way}
use Rattle.graph_rings.proofs.ring.ring_through.Goals as goal

pub step-requires-clause-last : goal.step-requires-clause-last
step-requires-clause-last c =
    at_end c.args.graph.now c.args.node c.tour.tour c.in-Some.field-0.now c.tour.invariant
    (subst (λ (l : List ℕ). slice_get l (length l - 1) ≡ Some c.in-Some.field-0.now) c.deref.ensures.value (sym c.in-Some.ensures.value))

pub unreachable-requires : goal.unreachable-requires
unreachable-requires c =
    no_way c.args.graph.now c.args.node c.tour.tour.left.items c.tour.tour.seen.items c.tour.tour.path.items c.tour.invariant
    (none_last c.tour.tour.path.items (subst (λ (l : List ℕ). None ≡ slice_get l (length l - 1)) c.deref.ensures.value c.in_default.ensures.value)) c.requires.on_ring
