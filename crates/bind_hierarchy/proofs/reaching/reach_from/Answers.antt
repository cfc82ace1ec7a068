use Rattle.std.proofs.Common.{◌≡◌, ℕ, List, Vec, Global}
use Rattle.std.specs.Option.{option_map}
use Rattle.graph_rings.specs.Graph.{Leads, Reaches, IsFirstRing}
use Rattle.bind_hierarchy.proofs.Chains.{reach_is, found_by}
use Rattle.bind_hierarchy.proofs.reaching.reach_from.Goals as goal

pub returns : goal.returns
returns c = λ modules m.
    reach_is modules c.args.graph.now m c.args.top c.in_ok-survey.survey.reached.items c.in_ok-survey.survey.on_ring.items c.in_ok-survey.survey.order.items (option_map (λ (ring : Vec ℕ Global). ring.items) c.in_ok-ring.ring) c.in_ok-survey.ensures
    (found_by (λ (ring : Vec ℕ Global). ring.items) ((node : ℕ) → Reaches c.args.graph.now c.args.top node → Leads c.args.graph.now node node → ⊥) (IsFirstRing c.args.graph.now c.args.top) c.in_ok-ring.ring c.in_ok-ring.ensures.none c.in_ok-ring.ensures.ring)
