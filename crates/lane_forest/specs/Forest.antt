-- Lanes by their ids: what is stored of each, the arcs of each, and the gate that each passes.
use Rattle.std.specs.Prelude.{◌≡◌, ℕ, ◌⊎◌, Bool, true, ◌+◌, ◌-◌, ◌*◌, ◌<◌, ◌≤◌, ◌^◌, ℤ, pos, ◌≤ℤ◌, ◌+ℤ◌, ◌-ℤ◌, List, [], ◌∷◌, ◌++◌, map, length, take, slice_index_or, slice_get, Option, Some, None}
use Rattle.std.specs.List.{range_with_len}
use Rattle.rsfq_ids.specs.declared.limits.TheConstants.{TIME_LIMIT}
use Rattle.rsfq_ids.specs.declared.id.LaneId.{LaneId}
use Rattle.rsfq_ids.specs.declared.offence.PathArc.{PathArc}
use Rattle.lane_forest.specs.declared.node.LaneNode.{LaneNode}
use Rattle.lane_forest.specs.declared.node.DelayRange.{DelayRange}
use Rattle.lane_forest.specs.declared.node.PassedGate.{PassedGate}
use Rattle.lane_forest.specs.Gates.{gate_in, gate_after}

pub record Grove : Type 0 where
  pub nodes : List LaneNode
  pub arcs : List (List PathArc)
  pub gates : List (Option PassedGate)

-- the arcs of a lane
abbrev pub arcs_at : List (List PathArc) → LaneId → List PathArc
arcs_at arcs lane = slice_index_or arcs lane []

-- the arcs of a parent, and none where there is no parent
abbrev pub arcs_before : List (List PathArc) → Option LaneId → List PathArc
arcs_before arcs None = []
arcs_before arcs (Some parent) = arcs_at arcs parent

-- the arcs of all lanes with one lane more
abbrev pub with_lane : List (List PathArc) → LaneNode → List (List PathArc)
with_lane arcs node = arcs ++ (arcs_before arcs node.parent ++ node.last ∷ []) ∷ []

-- a delay of at most a microsecond
pub record IsBounded (delay : DelayRange) : Type 0 where
  pub natural : pos 0 ≤ℤ delay.low
  pub order : delay.low ≤ℤ delay.high
  pub small : delay.high ≤ℤ pos TIME_LIMIT

-- a lane of one arc with this least and greatest delay
abbrev pub rooted : PathArc → ℤ → ℤ → LaneNode
rooted last low high = record { last = last; parent = None; length = 1; low = low; high = high }

-- a lane of one arc more
abbrev pub extended : LaneNode → LaneId → PathArc → ℤ → ℤ → LaneNode
extended before parent last low high = record { last = last; parent = Some parent; length = before.length + 1; low = before.low +ℤ low; high = before.high +ℤ high }

-- sums of at most a microsecond for each arc
pub record IsSummed (node : LaneNode) : Type 0 where
  pub natural : pos 0 ≤ℤ node.low
  pub order : node.low ≤ℤ node.high
  pub small : node.high ≤ℤ pos (node.length * TIME_LIMIT)
  pub few : node.length < 2 ^ 32

-- A lane is its last arc behind its parent, which has a lower id.
pub record IsStoredLane (arcs : List (List PathArc)) (lane : LaneId) (node : LaneNode) : Type 0 where
  pub arcs_are : arcs_at arcs lane ≡ arcs_before arcs node.parent ++ node.last ∷ []
  pub length_is : length (arcs_at arcs lane) ≡ node.length
  pub short : node.length ≤ lane + 1
  pub parent_in : (parent : LaneId) → node.parent ≡ Some parent → parent < lane
  pub parent_some : (parent : LaneId) → node.parent ≡ Some parent → 0 < length (arcs_at arcs parent)
  pub summed : IsSummed node

-- each lane is stored so
abbrev pub AreAllLanes : Grove → Type 0
AreAllLanes grove = (lane : LaneId) (node : LaneNode) → slice_get grove.nodes lane ≡ Some node → IsStoredLane grove.arcs lane node

-- a lane of the first arcs of another, or the other itself
pub record IsFirstPart (arcs : List (List PathArc)) (lane other : LaneId) : Type 0 where
  pub inside : other ≤ lane
  pub some : 0 < length (arcs_at arcs other)
  pub first : arcs_at arcs other ≡ take (length (arcs_at arcs other)) (arcs_at arcs lane)

-- a lane of fewer first arcs, where the other has two or more
pub record IsAncestor (arcs : List (List PathArc)) (lane other : LaneId) : Type 0 where
  pub part : IsFirstPart arcs lane other
  pub back : 1 < length (arcs_at arcs lane) → length (arcs_at arcs other) < length (arcs_at arcs lane)

-- no two lanes have the same arcs
abbrev pub DifferInArcs : List (List PathArc) → Type 0
DifferInArcs arcs = (one other : LaneId) → one < length arcs → other < length arcs → arcs_at arcs one ≡ arcs_at arcs other → one ≡ other

-- two lists of arcs begin alike with at most so many
abbrev pub AreAlikeUpTo : List PathArc → List PathArc → ℕ → Type 0
AreAlikeUpTo one other most = (count : ℕ) → count ≤ length one → count ≤ length other → take count one ≡ take count other → count ≤ most

-- first parts of two lanes that are as long as each other
pub record IsPairOf (arcs : List (List PathArc)) (a b one other : LaneId) : Type 0 where
  pub first : IsFirstPart arcs a one
  pub second : IsFirstPart arcs b other
  pub same : length (arcs_at arcs one) ≡ length (arcs_at arcs other)
  pub most : DifferInArcs arcs → AreAlikeUpTo (arcs_at arcs a) (arcs_at arcs b) (length (arcs_at arcs one))

-- and shorter
pub record IsShorterPair (arcs : List (List PathArc)) (a b one other : LaneId) : Type 0 where
  pub pair : IsPairOf arcs a b one other
  pub shorter : length (arcs_at arcs one) < length (arcs_at arcs a)

-- the lane of the arcs with which two lanes begin alike
pub record IsMeeting (arcs : List (List PathArc)) (a b lane : LaneId) : Type 0 where
  pub first : IsFirstPart arcs a lane
  pub second : IsFirstPart arcs b lane
  pub most : DifferInArcs arcs → AreAlikeUpTo (arcs_at arcs a) (arcs_at arcs b) (length (arcs_at arcs lane))

-- two lanes that begin with different arcs
abbrev pub HasNoMeeting : List (List PathArc) → LaneId → LaneId → Type 0
HasNoMeeting arcs a b = DifferInArcs arcs → AreAlikeUpTo (arcs_at arcs a) (arcs_at arcs b) 0

-- the sums of the delays of these arcs, which are none or those of a lane
abbrev pub AreSumsOf : Grove → List PathArc → ℤ → ℤ → Type 0
AreSumsOf grove arcs low high =
    ((arcs ≡ []) × (low ≡ pos 0) × (high ≡ pos 0)) ⊎ ((lane : LaneId) × (node : LaneNode) × (slice_get grove.nodes lane ≡ Some node) × (arcs_at grove.arcs lane ≡ arcs) × (low ≡ node.low) × (high ≡ node.high))

-- the sums of the delays of the arcs with which two lanes begin alike
pub record IsShare (grove : Grove) (a b : LaneId) (low high : ℤ) : Type 0 where
  pub count : ℕ
  pub in_first : count ≤ length (arcs_at grove.arcs a)
  pub in_second : count ≤ length (arcs_at grove.arcs b)
  pub alike : take count (arcs_at grove.arcs a) ≡ take count (arcs_at grove.arcs b)
  pub most : DifferInArcs grove.arcs → AreAlikeUpTo (arcs_at grove.arcs a) (arcs_at grove.arcs b) count
  pub sums : AreSumsOf grove (take count (arcs_at grove.arcs a)) low high

-- sums that fit
pub record AreFitting (low high : ℤ) : Type 0 where
  pub natural : pos 0 ≤ℤ low
  pub order : low ≤ℤ high
  pub small : high ≤ℤ pos 4294967295000000000

-- the least and the greatest difference of the sums of two lanes, where those of shared arcs are left out
abbrev pub AreDifferenceEnds : LaneNode → LaneNode → ℤ → ℤ → ℤ → ℤ → Type 0
AreDifferenceEnds one other low high least most = (least ≡ ((one.low -ℤ low) -ℤ (other.high -ℤ high))) × (most ≡ ((one.high -ℤ high) -ℤ (other.low -ℤ low)))

-- what is answered for two lanes: where the arcs with which they begin alike are to be left out, those
pub record IsSpreadOf (grove : Grove) (same : Bool) (a b : LaneId) (least most : ℤ) : Type 0 where
  pub one : LaneNode
  pub other : LaneNode
  pub one_is : slice_get grove.nodes a ≡ Some one
  pub other_is : slice_get grove.nodes b ≡ Some other
  pub low : ℤ
  pub high : ℤ
  pub shared : (same ≡ true → IsShare grove a b low high) × ((same ≡ true → ⊥) → (low ≡ pos 0) × (high ≡ pos 0))
  pub difference : AreDifferenceEnds one other low high least most

-- a lane that was added behind one of these
pub record IsNewLane (old new : Grove) (from to : ℕ) (last : PathArc) (low high : ℤ) (lane : LaneId) (node : LaneNode) : Type 0 where
  pub parent : LaneId
  pub before : LaneNode
  pub low_end : from ≤ parent
  pub high_end : parent < to
  pub old_is : slice_get old.nodes parent ≡ Some before
  pub node_is : node ≡ extended before parent last low high
  pub arcs_are : arcs_at new.arcs lane ≡ arcs_at old.arcs parent ++ last ∷ []

-- Lanes that were added behind these, in order, each of one arc more.
pub record AreBehind (old new : Grove) (from to : ℕ) (last : PathArc) (low high : ℤ) : Type 0 where
  pub arcs : new.arcs ≡ old.arcs ++ map (λ lane. arcs_at old.arcs lane ++ last ∷ []) (range_with_len from (to - from))
  pub many : length new.nodes ≡ length old.nodes + (to - from)
  pub kept : (lane : LaneId) (node : LaneNode) → slice_get old.nodes lane ≡ Some node → slice_get new.nodes lane ≡ Some node
  pub each : (lane : LaneId) (node : LaneNode) → slice_get new.nodes lane ≡ Some node → (slice_get old.nodes lane ≡ Some node) ⊎ IsNewLane old new from to last low high lane node

-- and the gates that they pass
abbrev pub AreGatesBehind : Grove → Grove → ℕ → ℕ → PathArc → Bool → Type 0
AreGatesBehind old new from to last gated = new.gates ≡ old.gates ++ map (λ lane. gate_after gated last (gate_in old.gates lane)) (range_with_len from (to - from))
