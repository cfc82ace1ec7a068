-- What an offence shows: the negation of the rule that it is named after.
use Rattle.std.specs.Prelude.{◌≡◌, ◌≢◌, ◌⊎◌, ℕ, ◌<◌, Bool, true, false, not, ℤ, ◌≤ℤ◌, List, [], ◌∷◌, length, slice_get, Some}
use Rattle.std.specs.List.{count_by}
use Rattle.rsfq_ids.specs.declared.id.NetId.{NetId}
use Rattle.rsfq_ids.specs.declared.id.CellId.{CellId}
use Rattle.rsfq_ids.specs.declared.id.PinId.{PinId}
use Rattle.rsfq_ids.specs.declared.id.PortId.{PortId}
use Rattle.rsfq_ids.specs.declared.table.CellRow.{CellRow}
use Rattle.rsfq_ids.specs.declared.table.Kind.TheVariants as kind
use Rattle.rsfq_ids.specs.declared.circuit.Flat.{Flat}
use Rattle.rsfq_ids.specs.declared.circuit.Pin.{Pin}
use Rattle.rsfq_ids.specs.declared.circuit.Strobe.{Strobe}
use Rattle.rsfq_ids.specs.declared.circuit.PortUse.TheVariants as port_use
use Rattle.rsfq_ids.specs.declared.circuit.Driver.TheVariants as driver
use Rattle.rsfq_ids.specs.declared.circuit.Reader.{Reader}
use Rattle.rsfq_ids.specs.declared.circuit.Reader.TheVariants as reader
use Rattle.rsfq_ids.specs.declared.offence.PathArc.{PathArc}
use Rattle.rsfq_ids.specs.declared.offence.PathPick.{PathPick}
use Rattle.rsfq_ids.specs.declared.offence.Against.{Against}
use Rattle.rsfq_ids.specs.declared.offence.Trail.{Trail}
use Rattle.rsfq_ids.specs.declared.offence.Against.TheVariants as against
use Rattle.rsfq_ids.specs.declared.offence.Offence.{Offence}
use Rattle.rsfq_ids.specs.declared.offence.Offence.TheVariants as offence
use Rattle.rsfq_ids.specs.Time.{IsNear, IsInZone}
use Rattle.rsfq_ids.specs.Circuit.{IsDrivenBy, IsPin, Reads, IsOf, is_gate, is_copying, clock_pin}
use Rattle.rsfq_ids.specs.Bench.{IsUsed}
use Rattle.rsfq_ids.specs.Path.{passes, IsFromData, IsRoute, IsClockRoute, IsPick, Agree, pick_time, strobe_at, IsTrail, steps_of}
use Rattle.rsfq_ids.specs.Design.{Design}

-- one cell has a pin that reads an output of another
abbrev pub ReadsFrom : Flat → CellId → CellId → Type 0
ReadsFrom flat cell before = (pin out : ℕ) × (net : NetId) × IsDrivenBy flat net (driver.Out before out) × Reads flat (reader.Pin cell pin) net

-- each of the cells reads from the one before it, the first from `before`; and `first` reads from the last
abbrev pub Closes : Flat → CellId → CellId → List CellId → Type 0
Closes flat first before [] = ReadsFrom flat first before
Closes flat first before (cell ∷ cells) = ReadsFrom flat cell before × Closes flat first cell cells

-- cells in a ring
abbrev pub IsLoop : Flat → List CellId → Type 0
IsLoop flat [] = ⊥
IsLoop flat (cell ∷ cells) = Closes flat cell cell cells

-- the clock pin of a gate
abbrev pub IsClockPin : Design → CellId → ℕ → Type 0
IsClockPin design cell pin = (row : CellRow) × IsOf design cell row × (is_gate row.kind ≡ true) × (pin ≡ clock_pin row)

-- a data pin of a gate
abbrev pub IsDataPin : Design → CellId → ℕ → Type 0
IsDataPin design cell pin = (row : CellRow) × IsOf design cell row × (is_gate row.kind ≡ true) × (pin < length row.inputs)

-- a pin of a merger
abbrev pub IsMergerPin : Design → CellId → ℕ → Type 0
IsMergerPin design cell pin = (row : CellRow) × IsOf design cell row × (row.kind ≡ kind.Merge) × (pin < length row.inputs)

-- A route leads to a gate's clock pin from a data input, or through a merger or a gate.
pub record IsDataOnClock (design : Design) (cell : CellId) (at : ℕ) (arcs : List PathArc) (net : NetId) : Type 0 where
  pub clock_pin : IsClockPin design cell at
  pub route : IsRoute design arcs net
  pub foreign : IsFromData design.bench arcs ⊎ (0 < count_by (passes (λ k. not (is_copying k)) design) arcs)

-- A clock route leads to a pin of this sort, as a data pin or a merger's.
pub record IsClockOn (Pins : CellId → ℕ → Type 0) (design : Design) (pin : PinId) (arcs : List PathArc) : Type 0 where
  pub place : (cell : CellId) × (at : ℕ) × (net : NetId) × Pins cell at × IsPin design.flat pin (reader.Pin cell at) net × IsClockRoute design arcs net

-- where two picks meet at one cell that has a dead time: at inputs of a cell that is no gate, or both at the clock pin of a gate
abbrev pub IsDeadPin : Bool → CellRow → ℕ → Type 0
IsDeadPin true row at = at ≡ clock_pin row
IsDeadPin false row at = at < length row.inputs

-- a pick ends where pulses meet at the cell
abbrev pub EndsAtCell : Flat → CellId → CellRow → PathPick → Type 0
EndsAtCell flat cell row pick = (at : ℕ) × (net : NetId) × IsDeadPin (is_gate row.kind) row at × IsPin flat pick.ends (reader.Pin cell at) net

-- two picks that are not of one pulse: they differ in arcs or in number
abbrev pub Differ : PathPick → PathPick → Type 0
Differ x y = (x.arcs ≢ y.arcs) ⊎ (x.number ≢ y.number)

-- Two different pulses that may come together to one cell meet there: at inputs of a passive cell, or both at the clock pin of a gate.
pub record MeetAt (design : Design) (cell : CellId) (row : CellRow) (x y : PathPick) : Type 0 where
  pub of : IsOf design cell row
  pub first : IsPick design x
  pub second : IsPick design y
  pub agree : Agree x y
  pub differ : Differ x y
  pub first_ends : EndsAtCell design.flat cell row x
  pub second_ends : EndsAtCell design.flat cell row y

-- They meet, and their times differ by less than the dead time of the cell.
pub record IsDead (design : Design) (cell : CellId) (row : CellRow) (x y : PathPick) : Type 0 where
  pub meet : MeetAt design cell row x y
  pub near : IsNear row.dead (pick_time design.bench x) (pick_time design.bench y)

-- What a pulse at a gate's data pin or an output is held against: a pulse at the gate's clock pin that agrees with it, or a strobe of the output. `Breaks` gets the setup and hold that hold there, and the number and the time of that clock pulse or strobe.
abbrev pub IsHeldAgainst : Design → Reader → PathPick → Against → ((setup hold : ℤ) (number : ℕ) (time : ℤ) → Type 0) → Type 0
IsHeldAgainst design (reader.Pin cell at) pulse (against.Clock clock) Breaks =
    (row : CellRow) × (net : NetId) × IsOf design cell row × (is_gate row.kind ≡ true) × (at < length row.inputs)
    × IsPick design clock × IsPin design.flat clock.ends (reader.Pin cell (clock_pin row)) net × Agree pulse clock
    × Breaks row.setup row.hold clock.number (pick_time design.bench clock)
IsHeldAgainst design (reader.Port port) pulse (against.Strobe number) Breaks =
    (strobe : Strobe) × IsUsed design.bench port (port_use.Strobed strobe) × Breaks strobe.setup strobe.hold number (strobe_at design.bench strobe number)
IsHeldAgainst design (reader.Pin cell at) pulse (against.Strobe number) Breaks = ⊥
IsHeldAgainst design (reader.Port port) pulse (against.Clock clock) Breaks = ⊥

-- A pulse that ends at a pin, held against a clock pulse or a strobe there which it breaks in the way that `Breaks` tells.
pub record IsPulseAgainst (design : Design) (pin : PinId) (pulse : PathPick) (held : Against) (Breaks : (setup hold : ℤ) (number : ℕ) (time : ℤ) → Type 0) : Type 0 where
  pub pick : IsPick design pulse
  pub ends : pulse.ends ≡ pin
  pub against : (end : Pin) × (slice_get design.flat.pins pin ≡ Some end) × IsHeldAgainst design end.reader pulse held Breaks

-- An offence meets the negation of its rule. Of `Differ`, which speaks of another circuit too, the meaning is handed in.
abbrev pub MeetsNegation : Design → (PortId → List Bool → Bool → Bool → Type 0) → Offence → Type 0
MeetsNegation design Differs (offence.Fanout net first second) = (first ≢ second) × ((one two : Reader) × IsPin design.flat first one net × IsPin design.flat second two net)
MeetsNegation design Differs (offence.Loop cells) = IsLoop design.flat cells
MeetsNegation design Differs (offence.DataOnClock pin path) =
    (cell : CellId) × (at : ℕ) × (net : NetId) × IsPin design.flat pin (reader.Pin cell at) net × IsDataOnClock design cell at path net
MeetsNegation design Differs (offence.ClockOnData pin path) = IsClockOn (IsDataPin design) design pin path
MeetsNegation design Differs (offence.ClockMerged pin path) = IsClockOn (IsMergerPin design) design pin path
MeetsNegation design Differs (offence.ClockOut pin path) = (port : PortId) × (net : NetId) × IsPin design.flat pin (reader.Port port) net × IsClockRoute design path net
MeetsNegation design Differs (offence.Dead cell first second) = (row : CellRow) × IsDead design cell row first second
MeetsNegation design Differs (offence.Window pin pulse held) =
    IsPulseAgainst design pin pulse held (λ setup hold number time. IsInZone setup hold time (pick_time design.bench pulse))
MeetsNegation design Differs (offence.Ahead pin pulse held) =
    (pulse.number ≡ 1) × IsPulseAgainst design pin pulse held (λ setup hold number time. (number ≡ 0) × (pick_time design.bench pulse ≤ℤ time))
MeetsNegation design Differs (offence.Unequal to first second) =
    IsTrail design first.hops to × IsTrail design second.hops to × (steps_of first.hops ≢ steps_of second.hops)
MeetsNegation design Differs (offence.Differ output word netlist golden) = Differs output word netlist golden

-- an offence, other than `Differ`, that exists in the design
abbrev pub OffenceExists : Design → Offence → Type 0
OffenceExists design offence = MeetsNegation design (λ output word netlist golden. ⊥) offence

-- ---- rules that hold: no offence of one kind exists

-- no two pulses come too near at a cell: at a gate's clock pin where the first argument is true, at a passive cell where it is false
abbrev pub HasNoDead : Bool → Design → Type 0
HasNoDead gates design = (cell : CellId) (row : CellRow) (first second : PathPick) → IsOf design cell row → is_gate row.kind ≡ gates →
    ¬ OffenceExists design (offence.Dead cell first second)

-- no pulse comes in the zone around a clock pulse or a strobe
abbrev pub HasNoWindow : Design → Type 0
HasNoWindow design = (pin : PinId) (pulse : PathPick) (held : Against) → ¬ OffenceExists design (offence.Window pin pulse held)

-- no pulse of word 1 comes as early as clock pulse 0 or strobe 0
abbrev pub HasNoAhead : Design → Type 0
HasNoAhead design = (pin : PinId) (pulse : PathPick) (held : Against) → ¬ OffenceExists design (offence.Ahead pin pulse held)

-- all trails to one gate or output have one sum
abbrev pub HasNoUnequal : Design → Type 0
HasNoUnequal design = (to : Reader) (first second : Trail) → ¬ OffenceExists design (offence.Unequal to first second)
