-- Lanes while they grow. It serves the proofs.
use Rattle.std.specs.Prelude.{◌≡◌, ◌≢◌, ℕ, ◌+◌, ◌-◌, ◌*◌, ◌<◌, ◌≤◌, List, [], ◌∷◌, ◌++◌, map, length, take, slice_get, slice_index_or, Some, None}
use Rattle.std.specs.List.{All, AllPairs, AllZip, Contains, range_with_len, sum_by}
use Rattle.std.specs.Prelude.{option_to_list}
use Rattle.rsfq_ids.specs.declared.limits.TheConstants.{PIN_LANE_LIMIT, LANE_LIMIT}
use Rattle.rsfq_ids.specs.declared.id.PinId.{PinId}
use Rattle.rsfq_ids.specs.declared.id.NetId.{NetId}
use Rattle.rsfq_ids.specs.declared.id.CellId.{CellId}
use Rattle.rsfq_ids.specs.declared.id.LaneId.{LaneId}
use Rattle.rsfq_ids.specs.declared.table.CellRow.{CellRow}
use Rattle.rsfq_ids.specs.declared.circuit.Pin.{Pin}
use Rattle.rsfq_ids.specs.declared.circuit.Driver.TheVariants as driver
use Rattle.rsfq_ids.specs.declared.circuit.Reader.TheVariants as reader
use Rattle.rsfq_ids.specs.declared.offence.PathArc.{PathArc}
use Rattle.rsfq_ids.specs.declared.offence.PathArc.TheVariants as arc
use Rattle.rsfq_ids.specs.Design.{Design}
use Rattle.rsfq_ids.specs.Circuit.{IsDrivenBy, IsPin, Reads, IsOf, is_gate}
use Rattle.rsfq_ids.specs.Path.{IsPassedFrom}
use Rattle.rsfq_ids.specs.Ready.{IsReady}
use Rattle.lane_forest.specs.declared.node.LaneNode.{LaneNode}
use Rattle.lane_forest.specs.declared.node.DelayRange.{DelayRange}
use Rattle.lane_forest.specs.declared.growth.Span.{Span}
use Rattle.lane_forest.specs.declared.growth.Growth.{Growth}
use Rattle.lane_forest.specs.Gates.{gate_along}
use Rattle.lane_forest.specs.Forest.{Grove, arcs_at, IsBounded}
use Rattle.lane_forest.specs.Paths.{ArePathsTo, readers_along}
use Rattle.lane_forest.specs.Lanes.{IsLeastDelay, IsGreatestDelay, IsNode}

-- the pins from which pulses pass are these, one after the other
pub record IsPassedRange (row : CellRow) (first count : ℕ) : Type 0 where
  pub passed : (pin : ℕ) → first ≤ pin → pin < first + count → IsPassedFrom (is_gate row.kind) row pin
  pub only : (pin : ℕ) → IsPassedFrom (is_gate row.kind) row pin → (first ≤ pin) × (pin < first + count)
  pub few : count ≤ 2
  pub small : first ≤ 3
  pub within : first + count ≤ length row.inputs + length (option_to_list row.clock)

-- the least and the greatest delay of an arc
pub record HasDelayRange (design : Design) (through : PathArc) (delay : DelayRange) : Type 0 where
  pub least : IsLeastDelay design through delay.low
  pub greatest : IsGreatestDelay design through delay.high
  pub bounded : IsBounded delay

-- a design that is ready, with an order of its cells
abbrev pub HasReadyRank : Design → Type 0
HasReadyRank design = (rank : CellId → ℕ) × IsReady design rank

-- the lanes of a pin
abbrev pub span_lanes : Span → List LaneId
span_lanes s = range_with_len s.from (s.to - s.from)

abbrev pub lanes_in : List Span → PinId → List LaneId
lanes_in spans pin = span_lanes (slice_index_or spans pin (record { from = 0; to = 0 }))

-- the timing paths that the lanes of a pin are
abbrev pub paths_at : Growth → PinId → List (List PathArc)
paths_at growth pin = map (arcs_at growth.forest.arcs) (lanes_in growth.spans.items pin)

-- what is stored of each lane
abbrev pub AreNodes : Design → List Span → Grove → Type 0
AreNodes design spans grove = (lane : LaneId) (node : LaneNode) → slice_get grove.nodes lane ≡ Some node → IsNode design (lanes_in spans) grove.arcs lane node

-- at most 64 lanes that there are
pub record IsSpan (many : ℕ) (span : Span) : Type 0 where
  pub order : span.from ≤ span.to
  pub inside : span.to ≤ many
  pub few : span.to ≤ span.from + PIN_LANE_LIMIT

-- the gate of each lane is that of its arcs
abbrev pub AreGatesAlong : Design → Grove → Type 0
AreGatesAlong design grove = grove.gates ≡ map (gate_along design None) grove.arcs

-- what growing needs to go on
pub record IsSafe (design : Design) (growth : Growth) : Type 0 where
  pub spans_many : length growth.spans.items ≡ length design.flat.pins
  pub spans_fit : All (IsSpan (length growth.forest.nodes)) growth.spans.items
  pub even : length growth.forest.arcs ≡ length growth.forest.nodes
  pub nodes : AreNodes design growth.spans.items growth.forest
  pub gates : AreGatesAlong design growth.forest
  pub small : length growth.forest.nodes ≤ LANE_LIMIT

-- the pins of a cell from which pulses pass have their lanes
abbrev pub IsServed : Design → CellId → Growth → Type 0
IsServed design cell growth =
    (row : CellRow) (pin : ℕ) (at : PinId) (net : NetId) → IsOf design cell row → IsPassedFrom (is_gate row.kind) row pin → IsPin design.flat at (reader.Pin cell pin) net → ArePathsTo design net (paths_at growth at)

-- the lanes to a net were added
pub record IsMade (design : Design) (net : NetId) (old new : Growth) : Type 0 where
  pub paths : List (List PathArc)
  pub are : ArePathsTo design net paths
  pub spans : new.spans.items ≡ old.spans.items
  pub arcs : new.forest.arcs ≡ old.forest.arcs ++ paths
  pub even : length new.forest.arcs ≡ length new.forest.nodes
  pub nodes : AreNodes design old.spans.items new.forest
  pub gates : AreGatesAlong design new.forest
  pub few : length paths ≤ 2 * PIN_LANE_LIMIT

abbrev pub through : CellId → ℕ → ℕ → List PathArc → List PathArc
through cell pin out arcs = arcs ++ arc.Through cell pin out ∷ []

-- the paths to some pins of a cell, which follow each other from this one on, go on through the cell
abbrev pub joined : CellId → ℕ → ℕ → List (List (List PathArc)) → List (List PathArc)
joined cell out pin [] = []
joined cell out pin (paths ∷ groups) = map (through cell pin out) paths ++ joined cell out (pin + 1) groups

-- the paths to these pins
abbrev pub AreGroups : Design → CellId → ℕ → List (List (List PathArc)) → Type 0
AreGroups design cell pin [] = Unit {0}
AreGroups design cell pin (paths ∷ groups) = ((mid : NetId) × Reads design.flat (reader.Pin cell pin) mid × ArePathsTo design mid paths) × AreGroups design cell (pin + 1) groups

-- the lanes through a cell from its pins up to this one were added
pub record IsThrough (design : Design) (cell : CellId) (out first pin : ℕ) (old new : Growth) : Type 0 where
  pub groups : List (List (List PathArc))
  pub many : first + length groups ≡ pin
  pub are : AreGroups design cell first groups
  pub spans : new.spans.items ≡ old.spans.items
  pub arcs : new.forest.arcs ≡ old.forest.arcs ++ joined cell out first groups
  pub even : length new.forest.arcs ≡ length new.forest.nodes
  pub nodes : AreNodes design old.spans.items new.forest
  pub gates : AreGatesAlong design new.forest
  pub few : length (joined cell out first groups) ≤ PIN_LANE_LIMIT * length groups

-- All pins in the order in which they are looked at.
pub record IsPinOrder (design : Design) (order : List CellId) (pins : List PinId) : Type 0 where
  pub along : AllZip (λ by pin. (net : NetId) × IsPin design.flat pin by net) (readers_along design order) pins
  pub inside : All (λ pin. pin < length design.flat.pins) pins
  pub each : (pin : PinId) → pin < length design.flat.pins → Contains pins pin
  pub once : AllPairs (λ one other. one ≢ other) pins
  pub served : (place : ℕ) (pin : PinId) (end : Pin) (cell : CellId) (out input : ℕ) (at : PinId) (net : NetId) → slice_get pins place ≡ Some pin → slice_get design.flat.pins pin ≡ Some end → IsDrivenBy design.flat end.net (driver.Out cell out) →
      IsPin design.flat at (reader.Pin cell input) net → Contains (take place pins) at

abbrev pub count_in : List Span → PinId → ℕ
count_in spans pin = length (lanes_in spans pin)

-- the lanes of the first pins of the list have grown
pub record IsGrown (design : Design) (pins : List PinId) (place : ℕ) (growth : Growth) : Type 0 where
  pub safe : IsSafe design growth
  pub paths : (pin : PinId) (end : Pin) → Contains (take place pins) pin → slice_get design.flat.pins pin ≡ Some end → ArePathsTo design end.net (paths_at growth pin)
  pub later : (pin : PinId) → (Contains (take place pins) pin → ⊥) → lanes_in growth.spans.items pin ≡ []
  pub home : (lane : LaneId) → lane < length growth.forest.nodes → (pin : PinId) × Contains (take place pins) pin × Contains (lanes_in growth.spans.items pin) lane
  pub total : length growth.forest.nodes ≡ sum_by (count_in growth.spans.items) (take place pins)
  pub whole : length growth.forest.nodes ≡ sum_by (λ s. s.to - s.from) growth.spans.items
