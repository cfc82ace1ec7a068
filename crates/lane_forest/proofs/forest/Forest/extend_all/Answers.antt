use Rattle.std.proofs.Common.{arith}
use Rattle.lane_forest.proofs.Behind.{behind_none, behind_next, gates_none, gates_next}
use Rattle.lane_forest.proofs.forest.Forest.extend_all.Goals as goal

pub loop-lane-init : goal.loop-lane-init
loop-lane-init c = record {
  lanes = behind_none c.args.self.now c.args.from c.args.last.now c.args.delay.now.low c.args.delay.now.high;
  gates = gates_none c.args.self.now c.args.from c.args.last.now c.args.gated;
}

pub loop-lane-preserved : goal.loop-lane-preserved
loop-lane-preserved c =
    let near = c.loop-lane.auto.lane in
    let even = c.requires.even_gates in
    record {
      lanes = behind_next c.args.self.now c.args.from c.args.last.now c.args.delay.now.low c.args.delay.now.high c.loop-lane.self c.extend.new.self c.loop-lane.lane c.of.result c.of.ensures c.loop-lane.invariant.lanes (omega arith) (omega arith) c.requires.even c.in_ok-extend.ensures.nodes c.in_ok-extend.ensures.arcs;
      gates = gates_next c.args.self.now c.args.from c.args.last.now c.args.gated c.loop-lane.self c.extend.new.self c.loop-lane.lane c.of.result c.of.ensures c.loop-lane.invariant.gates (omega arith) (omega arith) c.in_ok-extend.ensures.gates;
    }
