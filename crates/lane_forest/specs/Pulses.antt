-- What the lanes of a circuit say of the pulses of its runs.
use Rattle.std.specs.Prelude.{◌≡◌, ◌≢◌, ◌⊎◌, ℕ, ◌<◌, Bool, true, false, ℤ, pos, ◌-ℤ◌, List, [], length, slice_get, slice_index_or, Some}
use Rattle.std.specs.List.{All, Contains}
use Rattle.rsfq_ids.specs.declared.id.PinId.{PinId}
use Rattle.rsfq_ids.specs.declared.id.LaneId.{LaneId}
use Rattle.rsfq_ids.specs.declared.circuit.Pin.{Pin}
use Rattle.rsfq_ids.specs.declared.offence.PathPick.{PathPick}
use Rattle.rsfq_ids.specs.Design.{Design}
use Rattle.rsfq_ids.specs.Time.{IsWithin}
use Rattle.rsfq_ids.specs.Bench.{tick_at}
use Rattle.rsfq_ids.specs.Run.{Run, IsRun, times_of}
use Rattle.pulse_laws.specs.Tags.{AreTags, AreInOrder}
use Rattle.lane_forest.specs.Forest.{arcs_at}
use Rattle.lane_forest.specs.Table.{LaneTable, lanes_of}

-- a pulse at a pin goes along one of the lanes of the pin
abbrev pub GoesAlong : LaneTable → PinId → PathPick → Type 0
GoesAlong lanes pin tag = (lane : LaneId) × Contains (lanes_of lanes pin) lane × (arcs_at lanes.arcs lane ≡ tag.arcs)

-- Tags of a run on the lanes: each pulse at each pin is a pulse on a lane of the pin, different pulses of one pin differ in lane or number, and all of them agree.
pub record AreLaneTags (design : Design) (lanes : LaneTable) (run : Run) (tags : List (List PathPick)) : Type 0 where
  pub tags_are : AreTags design run tags
  pub in_order : AreInOrder design run tags
  pub along : (pin : PinId) (end : Pin) → slice_get design.flat.pins pin ≡ Some end → All (GoesAlong lanes pin) (slice_index_or tags pin [])

-- Each run has such tags. No rule of timing is asked.
abbrev pub RunsGoAlong : Design → LaneTable → Type 0
RunsGoAlong design lanes = (run : Run) → IsRun design run → (tags : List (List PathPick)) × AreLaneTags design lanes run tags

-- Whether two pulses may be told to be the same as far as their paths are one: only where they have one number, and told not to be only where they have two numbers or two sources.
abbrev pub MayBeTold : Bool → PathPick → PathPick → Type 0
MayBeTold true x y = x.number ≡ y.number
MayBeTold false x y = (x.number ≢ y.number) ⊎ (slice_get x.arcs 0 ≢ slice_get y.arcs 0)

-- The times of any two pulses on two lanes, less the ticks of their numbers, differ by an amount from `low` to `high`, whichever of these two they are told to be.
abbrev pub PulsesKeepApart : Design → LaneTable → LaneId → LaneId → Bool → ℤ → ℤ → Type 0
PulsesKeepApart design lanes a b same low high =
    (run : Run) (tags : List (List PathPick)) (pin other : PinId) (end stop : Pin) (i k : ℕ) (x y : PathPick) → IsRun design run → AreTags design run tags →
    slice_get design.flat.pins pin ≡ Some end → slice_get design.flat.pins other ≡ Some stop → i < length (times_of run.pulses end.net) → k < length (times_of run.pulses stop.net) →
    x ≡ slice_index_or (slice_index_or tags pin []) i x → y ≡ slice_index_or (slice_index_or tags other []) k y →
    x.arcs ≡ arcs_at lanes.arcs a → y.arcs ≡ arcs_at lanes.arcs b → MayBeTold same x y →
    IsWithin low high ((slice_index_or (times_of run.pulses end.net) i (pos 0) -ℤ slice_index_or (times_of run.pulses stop.net) k (pos 0)) -ℤ (tick_at design.bench x.number -ℤ tick_at design.bench y.number))
