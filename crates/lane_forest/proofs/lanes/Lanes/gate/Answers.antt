use Rattle.std.proofs.Common.{sym, ap, ◌∙◌, subst}
use Rattle.std.specs.Prelude.{Option}
use Rattle.lane_forest.specs.declared.node.PassedGate.{PassedGate}
use Rattle.lane_forest.specs.Forest.{arcs_at}
use Rattle.lane_forest.specs.Gates.{IsGateOf, gate_in}
use Rattle.lane_forest.specs.Table.{LaneTable}
use Rattle.lane_forest.proofs.lanes.Lanes.gate.Goals as goal

pub returns-clause-exact : goal.returns-clause-exact
returns-clause-exact c = λ design are.
    subst (λ (gate : Option PassedGate). IsGateOf design (arcs_at c.args.self.now.arcs c.args.lane) gate) (sym (c.gate.ensures ∙ ap (λ (t : LaneTable). gate_in t.gates c.args.lane) c.self.view_is)) (are.gates c.args.lane c.requires)
