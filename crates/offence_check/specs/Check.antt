-- What is looked at while an offence is held against its rule.
use Rattle.std.specs.Prelude.{◌≡◌, ◌<◌, ◌^◌, true, length, ℕ, ℤ, pos, neg_ℤ}
use Rattle.rsfq_ids.specs.declared.id.NetId.{NetId}
use Rattle.rsfq_ids.specs.declared.id.CellId.{CellId}
use Rattle.rsfq_ids.specs.declared.id.PinId.{PinId}
use Rattle.rsfq_ids.specs.declared.circuit.Flat.{Flat}
use Rattle.rsfq_ids.specs.declared.circuit.Driver.TheVariants as driver
use Rattle.rsfq_ids.specs.declared.circuit.Reader.TheVariants as reader
use Rattle.rsfq_ids.specs.Time.{IsWithin}
use Rattle.rsfq_ids.specs.Circuit.{IsDrivenBy, IsPin, Reads, is_gate, clock_pin}
use Rattle.rsfq_ids.specs.Path.{IsPick, Agree}
use Rattle.rsfq_ids.specs.declared.table.CellRow.{CellRow}
use Rattle.rsfq_ids.specs.declared.offence.PathPick.{PathPick}
use Rattle.rsfq_ids.specs.declared.offence.Offence.{Offence}
use Rattle.rsfq_ids.specs.declared.offence.Offence.TheVariants as offence
use Rattle.rsfq_ids.specs.Design.{Design}

-- a pin of a cell, by its number, reads an output of another cell
abbrev pub ReadsFromAt : Flat → CellId → CellId → ℕ → Type 0
ReadsFromAt flat cell before at = (out : ℕ) × (net : NetId) × IsDrivenBy flat net (driver.Out before out) × Reads flat (reader.Pin cell at) net

-- no cell has more than four pins that read
abbrev pub HasFewPins : Flat → Type 0
HasFewPins flat = (place : PinId) (cell : CellId) (at : ℕ) (net : NetId) → IsPin flat place (reader.Pin cell at) net → at < 4

-- a time of which two may be added or subtracted in 128 bits
abbrev pub IsSpan : ℤ → Type 0
IsSpan time = IsWithin (neg_ℤ (pos (2 ^ 125))) (pos (2 ^ 125)) time

-- a pick ends at the clock pin of a cell
abbrev pub EndsAtClock : Flat → CellId → CellRow → PathPick → Type 0
EndsAtClock flat cell row pick = (net : NetId) × IsPin flat pick.ends (reader.Pin cell (clock_pin row)) net

-- A clock pulse at a gate, as a pulse at a data pin of that gate may find it.
pub record IsClockOf (design : Design) (cell : CellId) (at : ℕ) (row : CellRow) (pulse clock : PathPick) : Type 0 where
  pub gate : is_gate row.kind ≡ true
  pub input : at < length row.inputs
  pub pick : IsPick design clock
  pub ends : EndsAtClock design.flat cell row clock
  pub agree : Agree pulse clock

-- the kinds of offences that are decided here
abbrev pub IsDecided : Offence → Type 0
IsDecided (offence.Unequal to first second) = ⊥
IsDecided (offence.Differ output word netlist golden) = ⊥
IsDecided found = Unit {0}
