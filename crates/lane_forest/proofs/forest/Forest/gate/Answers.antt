use Rattle.lane_forest.proofs.Holds.{gate_at}
use Rattle.lane_forest.proofs.forest.Forest.gate.Goals as goal

pub returns : goal.returns
returns c = gate_at c.self.inside c.args.self.now c.self.view_is c.args.lane c.index.result c.index-2.result.now c.index.ensures.number c.requires c.index-2.ensures
