-- What contracts see of the lanes of a circuit, and what they are.
use Rattle.std.specs.Prelude.{◌≡◌, ℕ, ◌+◌, ◌*◌, ◌<◌, ◌≤◌, ◌↔◌, ℤ, pos, ◌≤ℤ◌, ◌-ℤ◌, List, [], ◌∷◌, ◌++◌, map, length, slice_get, slice_index_or, Option, Some, None}
use Rattle.std.specs.List.{Contains, sum_by}
use Rattle.rsfq_ids.specs.declared.limits.TheConstants.{CELL_LIMIT, TIME_LIMIT, PIN_LANE_LIMIT, LANE_LIMIT}
use Rattle.rsfq_ids.specs.declared.id.PinId.{PinId}
use Rattle.rsfq_ids.specs.declared.id.LaneId.{LaneId}
use Rattle.rsfq_ids.specs.declared.circuit.Pin.{Pin}
use Rattle.rsfq_ids.specs.declared.offence.PathArc.{PathArc}
use Rattle.rsfq_ids.specs.Design.{Design}
use Rattle.lane_forest.specs.declared.node.LaneNode.{LaneNode}
use Rattle.lane_forest.specs.declared.node.PassedGate.{PassedGate}
use Rattle.lane_forest.specs.Gates.{IsGateOf, gate_in}
use Rattle.lane_forest.specs.Forest.{arcs_at, arcs_before, IsSummed, DifferInArcs}
use Rattle.lane_forest.specs.Paths.{ArePathsTo}
use Rattle.lane_forest.specs.Lanes.{FollowsParent, HasSums}

-- Lanes by their ids: what is stored of each, its arcs, and the gate that it passes; and by pins, the lanes of each.
pub record LaneTable : Type 0 where
  pub nodes : List LaneNode
  pub arcs : List (List PathArc)
  pub gates : List (Option PassedGate)
  pub pins : List (List LaneId)

-- the lanes of a pin
abbrev pub lanes_of : LaneTable → PinId → List LaneId
lanes_of lanes pin = slice_index_or lanes.pins pin []

-- the arcs of the lanes of a pin
abbrev pub paths_of : LaneTable → PinId → List (List PathArc)
paths_of lanes pin = map (arcs_at lanes.arcs) (lanes_of lanes pin)

-- What is stored of a lane tells of its arcs: the last of them, the lane of those before, their number, at most that of the cells and one, and the sums of their least and greatest delays, at most 10^9 fs for each.
pub record IsLaneNode (design : Design) (lanes : LaneTable) (lane : LaneId) (node : LaneNode) : Type 0 where
  pub arcs : arcs_at lanes.arcs lane ≡ arcs_before lanes.arcs node.parent ++ node.last ∷ []
  pub length_is : length (arcs_at lanes.arcs lane) ≡ node.length
  pub root : (node.parent ≡ None) ↔ (node.length ≡ 1)
  pub parent : FollowsParent design (lanes_of lanes) node.last node.parent
  pub sums : HasSums design (arcs_at lanes.arcs lane) node.low node.high
  pub short : node.length ≤ length design.flat.cells + 1
  pub summed : IsSummed node

-- The lanes of a circuit: for each pin exactly its timing paths, each once, in order, and no more than a pin may have; each lane at one pin; the gate that each passes; and no more in all than a circuit may have.
pub record AreLanes (design : Design) (lanes : LaneTable) : Type 0 where
  pub pins_many : length lanes.pins ≡ length design.flat.pins
  pub paths : (pin : PinId) (end : Pin) → slice_get design.flat.pins pin ≡ Some end → ArePathsTo design end.net (paths_of lanes pin)
  pub few : (pin : PinId) → length (lanes_of lanes pin) ≤ PIN_LANE_LIMIT
  pub inside : (pin : PinId) (lane : LaneId) → Contains (lanes_of lanes pin) lane → lane < length lanes.nodes
  pub home : (lane : LaneId) → lane < length lanes.nodes → (pin : PinId) × (pin < length design.flat.pins) × Contains (lanes_of lanes pin) lane
  pub even : length lanes.arcs ≡ length lanes.nodes
  pub nodes : (lane : LaneId) (node : LaneNode) → slice_get lanes.nodes lane ≡ Some node → IsLaneNode design lanes lane node
  pub gates : (lane : LaneId) → lane < length lanes.nodes → IsGateOf design (arcs_at lanes.arcs lane) (gate_in lanes.gates lane)
  pub distinct : DifferInArcs lanes.arcs
  pub total : length lanes.nodes ≡ sum_by (λ of. length of) lanes.pins
  pub small : length lanes.nodes ≤ LANE_LIMIT
  pub cells : length design.flat.cells ≤ CELL_LIMIT

-- ---- bounds in numbers

-- the greatest sum of delays of a path, in femtoseconds: that of one arc for each cell, and one from a port
abbrev pub most_sum : ℕ
most_sum = (CELL_LIMIT + 1) * TIME_LIMIT

-- a lane of at most 100,001 arcs, with sums that are natural and in order, and at most 100,001 * 10^9 fs
pub record IsBoundedLane (node : LaneNode) : Type 0 where
  pub short : node.length ≤ CELL_LIMIT + 1
  pub natural : pos 0 ≤ℤ node.low
  pub order : node.low ≤ℤ node.high
  pub small : node.high ≤ℤ pos most_sum

-- a least and a greatest difference of two such sums, in order
pub record IsBoundedSpread (low high : ℤ) : Type 0 where
  pub from : (pos 0 -ℤ pos most_sum) ≤ℤ low
  pub order : low ≤ℤ high
  pub to : high ≤ℤ pos most_sum
