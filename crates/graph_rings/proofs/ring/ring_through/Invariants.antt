use Rattle.graph_rings.specs.Tour.{IsTourOf, tour_work}
use Rattle.graph_rings.proofs.ring.ring_through.Given as goal

abbrev pub invariant-tour : goal.invariant-tour
invariant-tour l = IsTourOf l.graph l.node l.tour

abbrev pub decreases-tour : goal.decreases-tour
decreases-tour l = tour_work l.tour
