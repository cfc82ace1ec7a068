use Rattle.std.proofs.Common.{ap}
use Rattle.lane_forest.specs.Forest.{arcs_at}
use Rattle.lane_forest.specs.Table.{LaneTable}
use Rattle.lane_forest.proofs.Tables.{spread_is, spread_bounded}
use Rattle.lane_forest.proofs.PulseLaws.{keep_apart}
use Rattle.lane_forest.proofs.lanes.Lanes.spread.Goals as goal

pub returns-clause-spread : goal.returns-clause-spread
returns-clause-spread c = λ design are. spread_is design c.args.self.now are c.self.inside.forest c.args.same c.args.a c.args.b c.spread.result.0 c.spread.result.1 (ap (λ (t : LaneTable). t.nodes) c.self.view_is) (ap (λ (t : LaneTable). t.arcs) c.self.view_is) c.spread.ensures

pub returns-clause-pulses : goal.returns-clause-pulses
returns-clause-pulses c = λ design are.
    keep_apart design c.args.self.now are c.runs_keep_spreads.ensures c.args.a c.args.b c.args.same c.spread.result.0 c.spread.result.1
    (spread_is design c.args.self.now are c.self.inside.forest c.args.same c.args.a c.args.b c.spread.result.0 c.spread.result.1 (ap (λ (t : LaneTable). t.nodes) c.self.view_is) (ap (λ (t : LaneTable). t.arcs) c.self.view_is) c.spread.ensures)

pub returns-clause-every : goal.returns-clause-every
returns-clause-every c = λ design difference are within.
    c.spreads_fill.ensures design c.args.same (arcs_at c.args.self.now.arcs c.args.a) (arcs_at c.args.self.now.arcs c.args.b) c.spread.result.0 c.spread.result.1 difference
    (spread_is design c.args.self.now are c.self.inside.forest c.args.same c.args.a c.args.b c.spread.result.0 c.spread.result.1 (ap (λ (t : LaneTable). t.nodes) c.self.view_is) (ap (λ (t : LaneTable). t.arcs) c.self.view_is) c.spread.ensures) within

pub returns-clause-bounded : goal.returns-clause-bounded
returns-clause-bounded c = λ design are.
    spread_bounded design c.args.self.now are c.self.inside.forest c.args.same c.args.a c.args.b c.spread.result.0 c.spread.result.1 (ap (λ (t : LaneTable). t.nodes) c.self.view_is) (ap (λ (t : LaneTable). t.arcs) c.self.view_is) c.spread.ensures
