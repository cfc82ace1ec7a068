-- What the fields of lanes hold.
use Rattle.std.specs.Prelude.{◌≡◌, map, length}
use Rattle.std.specs.List.{All, range_with_len}
use Rattle.lane_forest.specs.declared.lanes.Lanes.TheInside.{Inside}
use Rattle.lane_forest.specs.Table.{LaneTable}
use Rattle.lane_forest.specs.Growth.{IsSpan, span_lanes}

abbrev pub table_of : Inside → LaneTable
table_of a = record { nodes = a.forest.nodes; arcs = a.forest.arcs; gates = a.forest.gates; pins = map span_lanes a.spans.items }

pub record AreKept (a : Inside) : Type 0 where
  pub ids : a.ids.items ≡ range_with_len 0 (length a.forest.nodes)
  pub fit : All (IsSpan (length a.forest.nodes)) a.spans.items
