use Rattle.std.proofs.Common.{refl}
use Rattle.clock_tree.specs.Clock.{design_of}
use Rattle.lane_forest.proofs.Through.{made_from_port}
use Rattle.lane_forest.proofs.growth.Growth.begin_at.Goals as goal

pub returns : goal.returns
returns c =
    made_from_port (design_of c.args.graph.now c.args.bench.now) c.requires.ready c.args.net c.args.port c.interval_of-delay.result c.args.self.now (record { forest = c.plant.new.self; spans = c.args.self.now.spans }) c.requires.driven c.requires.safe c.interval_of-delay.ensures refl
    c.in_ok-plant.ensures.nodes c.in_ok-plant.ensures.arcs c.in_ok-plant.ensures.gates
