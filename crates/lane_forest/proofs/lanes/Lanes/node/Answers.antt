use Rattle.std.proofs.Common.{◌≡◌, List, Some, ap, subst}
use Rattle.std.specs.Prelude.{slice_get}
use Rattle.lane_forest.specs.declared.node.LaneNode.{LaneNode}
use Rattle.lane_forest.specs.Table.{LaneTable}
use Rattle.lane_forest.proofs.Tables.{bounded_lane}
use Rattle.lane_forest.proofs.lanes.Lanes.node.Goals as goal

pub returns-clause-bounded : goal.returns-clause-bounded
returns-clause-bounded c = λ design are.
    bounded_lane design c.args.self.now are c.args.lane c.node.result.now (subst (λ (xs : List LaneNode). slice_get xs c.args.lane ≡ Some c.node.result.now) (ap (λ (t : LaneTable). t.nodes) c.self.view_is) c.node.ensures.node)
