-- Where the rules of timing hold: everywhere, or at the gates before a place in the order of the cells.
use Rattle.std.specs.Prelude.{◌≡◌, ℕ, ◌<◌, true}
use Rattle.rsfq_ids.specs.declared.table.CellRow.{CellRow}
use Rattle.rsfq_ids.specs.declared.circuit.Flat.{Flat}
use Rattle.rsfq_ids.specs.declared.circuit.Reader.{Reader}
use Rattle.rsfq_ids.specs.declared.circuit.Reader.TheVariants as reader
use Rattle.rsfq_ids.specs.declared.offence.PathPick.{PathPick}
use Rattle.rsfq_ids.specs.declared.offence.Against.{Against}
use Rattle.rsfq_ids.specs.declared.offence.Trail.{Trail}
use Rattle.rsfq_ids.specs.Path.{EndsAt}
use Rattle.rsfq_ids.specs.declared.circuit.Driver.TheVariants as driver
use Rattle.rsfq_ids.specs.declared.offence.Offence.TheVariants as offence
use Rattle.rsfq_ids.specs.Circuit.{IsDrivenBy, IsOf, is_gate}
use Rattle.rsfq_ids.specs.Design.{Design}
use Rattle.rsfq_ids.specs.Offence.{OffenceExists, HasNoDead, HasNoWindow, HasNoAhead, HasNoUnequal}

-- No offence exists of the rules that values rest on: dead times at clock pins, windows, pulses ahead, unequal sums. The dead times of passive cells are not among them.
pub record IsTimed (design : Design) : Type 0 where
  pub no_dead : HasNoDead true design
  pub no_window : HasNoWindow design
  pub no_ahead : HasNoAhead design
  pub no_unequal : HasNoUnequal design

-- At one gate, written as its pin 0, or one output no offence exists of windows, of pulses ahead, of unequal sums.
pub record IsTimedAt (design : Design) (to : Reader) : Type 0 where
  pub no_window : (pin : ℕ) → EndsAt design pin to → (pulse : PathPick) (held : Against) → ¬ OffenceExists design (offence.Window pin pulse held)
  pub no_ahead : (pin : ℕ) → EndsAt design pin to → (pulse : PathPick) (held : Against) → ¬ OffenceExists design (offence.Ahead pin pulse held)
  pub no_unequal : (first second : Trail) → ¬ OffenceExists design (offence.Unequal to first second)

-- The same at a gate, and no offence of dead times at its clock pin.
pub record IsTimedGate (design : Design) (cell : ℕ) : Type 0 where
  pub at : IsTimedAt design (reader.Pin cell 0)
  pub no_dead : (first second : PathPick) → ¬ OffenceExists design (offence.Dead cell first second)

-- The same at all gates before a place in the order: those whose rank is below it.
abbrev pub IsTimedBelow : Design → (ℕ → ℕ) → ℕ → Type 0
IsTimedBelow design rank top = (cell : ℕ) (row : CellRow) → IsOf design cell row → is_gate row.kind ≡ true → rank cell < top → IsTimedGate design cell

-- A net that no cell from that place on drives.
abbrev pub IsBefore : Flat → (ℕ → ℕ) → ℕ → ℕ → Type 0
IsBefore flat rank top net = (cell out : ℕ) → IsDrivenBy flat net (driver.Out cell out) → rank cell < top
