use Rattle.std.proofs.Common.{sym, subst, arith}
use Rattle.clock_tree.specs.Clock.{design_of}
use Rattle.lane_forest.specs.Table.{LaneTable, AreLanes}
use Rattle.lane_forest.specs.Pulses.{RunsGoAlong}
use Rattle.lane_forest.proofs.AllGrown.{ordered_of, lanes_are}
use Rattle.lane_forest.proofs.PulseLaws.{runs_along}
use Rattle.lane_forest.proofs.growing.grow.Goals as goal

pub add_pin-requires-clause-ready : goal.add_pin-requires-clause-ready
add_pin-requires-clause-ready c = ordered_of c.args.graph.now c.args.bench.now c.args.clocked.now c.graphs_are_ready.ensures c.facts.ensures c.requires

pub returns-clause-lanes : goal.returns-clause-lanes
returns-clause-lanes c =
    let ordered = ordered_of c.args.graph.now c.args.bench.now c.args.clocked.now c.graphs_are_ready.ensures c.facts.ensures c.requires in
    subst (λ (t : LaneTable). AreLanes (design_of c.args.graph.now c.args.bench.now) t) (sym c.in_ok-lanes.ensures)
    (lanes_are c.args.graph.now c.args.bench.now ordered c.requires.shape c.in_ok-pins.pins.items c.in_ok-pins.ensures c.pins.place (let n = c.len-place-end.ensures in let f = c.pins-test.false in omega arith) c.pins.growth c.pins.invariant c.facts-2.ensures c.facts.ensures)

pub returns-clause-pulses : goal.returns-clause-pulses
returns-clause-pulses c =
    let ordered = ordered_of c.args.graph.now c.args.bench.now c.args.clocked.now c.graphs_are_ready.ensures c.facts.ensures c.requires in
    let are = lanes_are c.args.graph.now c.args.bench.now ordered c.requires.shape c.in_ok-pins.pins.items c.in_ok-pins.ensures c.pins.place (let n = c.len-place-end.ensures in let f = c.pins-test.false in omega arith) c.pins.growth c.pins.invariant c.facts-2.ensures c.facts.ensures in
    subst (λ (t : LaneTable). RunsGoAlong (design_of c.args.graph.now c.args.bench.now) t) (sym c.in_ok-lanes.ensures) (runs_along (design_of c.args.graph.now c.args.bench.now) _ are c.runs_have_tags.ensures ordered)
