-- Tags of the pulses of a run, and what follows from them: the run is clean.
use Rattle.std.specs.Prelude.{◌≡◌, ℕ, ◌<◌, true, false, ◌+ℤ◌, List, [], length, slice_get, slice_index_or, Some}
use Rattle.std.specs.List.{All, AllPairs, AllZip}
use Rattle.rsfq_ids.specs.declared.id.NetId.{NetId}
use Rattle.rsfq_ids.specs.declared.id.CellId.{CellId}
use Rattle.rsfq_ids.specs.declared.id.PinId.{PinId}
use Rattle.rsfq_ids.specs.declared.table.CellRow.{CellRow}
use Rattle.rsfq_ids.specs.declared.circuit.Pin.{Pin}
use Rattle.rsfq_ids.specs.declared.circuit.Reader.TheVariants as reader
use Rattle.rsfq_ids.specs.declared.offence.PathPick.{PathPick}
use Rattle.rsfq_ids.specs.Design.{Design}
use Rattle.rsfq_ids.specs.Time.{total}
use Rattle.rsfq_ids.specs.Circuit.{IsPin, IsOf, is_gate, clock_pin}
use Rattle.rsfq_ids.specs.Run.{Run, times_of, ArePassivesClean, AreClocksClean, AreWindowsClean, AreStrobesClean}
use Rattle.rsfq_ids.specs.Path.{IsPick, Agree}
use Rattle.rsfq_ids.specs.Offence.{Differ, HasNoDead, HasNoWindow}

-- Tags of a run: a list of picks for each pin, one for each pulse of the net that the pin reads, at the time of that pulse. The tags at one pin differ in arcs or number, and all tags of the run agree: pulses that share a start share its delays.
pub record AreTags (design : Design) (run : Run) (tags : List (List PathPick)) : Type 0 where
  pub timed : (pin : PinId) (end : Pin) → slice_get design.flat.pins pin ≡ Some end →
      AllZip (λ tag time. IsPick design tag × (tag.ends ≡ pin) × (time ≡ (run.tick tag.number +ℤ total tag.delays))) (slice_index_or tags pin []) (times_of run.pulses end.net)
  pub distinct : (pin : PinId) → AllPairs Differ (slice_index_or tags pin [])
  pub agree : (pin other : PinId) → All (λ x. All (Agree x) (slice_index_or tags other [])) (slice_index_or tags pin [])

-- At a gate's clock pin there are as many pulses as the clock has, and pulse k has the number k.
pub record AreInOrder (design : Design) (run : Run) (tags : List (List PathPick)) : Type 0 where
  pub numbers : (cell : CellId) (row : CellRow) (net : NetId) (pin : PinId) → IsOf design cell row → is_gate row.kind ≡ true → IsPin design.flat pin (reader.Pin cell (clock_pin row)) net →
      (k : ℕ) (d : PathPick) → k < length (times_of run.pulses net) → (slice_index_or (slice_index_or tags pin []) k d).number ≡ k
  pub count : (cell : CellId) (row : CellRow) (net : NetId) (pin : PinId) → IsOf design cell row → is_gate row.kind ≡ true → IsPin design.flat pin (reader.Pin cell (clock_pin row)) net → length (times_of run.pulses net) ≡ run.clocks

-- Where no offence of dead times exists, the run has no pulses too near, at gates and at passive cells apart; where none of windows exists, it has none in a zone.
pub record CleanLaw (design : Design) (run : Run) : Type 0 where
  pub passives : HasNoDead false design → ArePassivesClean design run
  pub clocks : HasNoDead true design → AreClocksClean design run
  pub windows : HasNoWindow design → AreWindowsClean design run
  pub strobes : HasNoWindow design → AreStrobesClean design run
