-- How pulses come through a circuit: which pulse of a net comes from which pulse of another, and with what delay.
use Rattle.std.specs.Prelude.{◌≡◌, ℕ, ◌+◌, ◌<◌, ◌≤◌, Bool, true, false, ℤ, pos, ◌+ℤ◌, List, [], ◌∷◌, length, slice_index_or, slice_get, Some, take}
use Rattle.std.specs.List.{filter, flat_map, AllZip, count_by}
use Rattle.rsfq_ids.specs.declared.id.NetId.{NetId}
use Rattle.rsfq_ids.specs.declared.id.PinId.{PinId}
use Rattle.rsfq_ids.specs.declared.id.PortId.{PortId}
use Rattle.rsfq_ids.specs.declared.table.CellRow.{CellRow}
use Rattle.rsfq_ids.specs.declared.circuit.Pin.{Pin}
use Rattle.rsfq_ids.specs.declared.circuit.PortUse.{PortUse}
use Rattle.rsfq_ids.specs.declared.circuit.Driver.TheVariants as driver
use Rattle.rsfq_ids.specs.declared.circuit.Reader.TheVariants as reader
use Rattle.rsfq_ids.specs.declared.offence.PathArc.{PathArc}
use Rattle.rsfq_ids.specs.declared.offence.PathArc.TheVariants as arc
use Rattle.rsfq_ids.specs.declared.offence.PathPick.{PathPick}
use Rattle.rsfq_ids.specs.Design.{Design}
use Rattle.rsfq_ids.specs.Circuit.{IsDrivenBy, Reads, IsOf, InputNets, is_gate}
use Rattle.rsfq_ids.specs.Bench.{IsUsed}
use Rattle.rsfq_ids.specs.Run.{Run, times_of, truth_at, bits_at, numbers_of, IsPortDelay}
use Rattle.rsfq_ids.specs.Path.{IsPassedFrom, IsDelay, passes}

-- the time of pulse k of a net
abbrev pub time_at : List (List ℤ) → NetId → ℕ → ℤ
time_at pulses net k = slice_index_or (times_of pulses net) k (pos 0)

-- whether the output of a gate is 1 at a clock time
abbrev pub fires : List (List ℤ) → CellRow → ℕ → List NetId → NetId → ℤ → Bool
fires pulses row out nets clock at = truth_at row out (bits_at pulses nets clock at)

-- Pulse i of an output comes from pulse j at a pin: at a gate it is the firing at clock entry j, at any other cell pulse j of that pin in the joined list.
abbrev pub Causes : Bool → List (List ℤ) → CellRow → List NetId → ℕ → ℕ → NetId → ℕ → ℕ → Type 0
Causes true pulses row nets pin out net j i =
    (j < length (times_of pulses net)) × (fires pulses row out nets net (time_at pulses net j) ≡ true) × (i ≡ length (filter (fires pulses row out nets net) (take j (times_of pulses net))))
Causes false pulses row nets pin out net j i =
    (pin < length nets) × (j < length (times_of pulses net)) × (i ≡ length (flat_map (times_of pulses) (take pin nets)) + j)

-- Pulse j of a net goes on through a cell, and comes out of it as pulse i of another.
abbrev pub GoesOn : Design → List (List ℤ) → PathArc → NetId → ℕ → NetId → ℕ → Type 0
GoesOn design pulses (arc.Port port) net j next i = ⊥
GoesOn design pulses (arc.Through cell pin out) net j next i =
    (row : CellRow) × (nets : List NetId) × IsOf design cell row × InputNets design.flat cell row nets × IsPassedFrom (is_gate row.kind) row pin × Reads design.flat (reader.Pin cell pin) net
    × IsDrivenBy design.flat next (driver.Out cell out) × Causes (is_gate row.kind) pulses row nets pin out net j i

-- Pulse j of a net flows along arcs, with a delay on each, to pulse k of another.
abbrev pub Flows : Design → List (List ℤ) → NetId → ℕ → List PathArc → List ℤ → NetId → ℕ → Type 0
Flows design pulses net j [] [] last k = (net ≡ last) × (j ≡ k)
Flows design pulses net j [] (d ∷ delays) last k = ⊥
Flows design pulses net j (a ∷ arcs) [] last k = ⊥
Flows design pulses net j (a ∷ arcs) (d ∷ delays) last k =
    (next : NetId) × (i : ℕ) × GoesOn design pulses a net j next i × (time_at pulses next i ≡ (time_at pulses net j +ℤ d)) × Flows design pulses next i arcs delays last k

-- Pulse k of a net came from a port: it started there, at a place among the numbers that the port sends, with a delay behind the tick of that number, and flowed along arcs, with a delay on each that the cell allows, through at most one gate, and through one only from the clock.
pub record Came (design : Design) (run : Run) (net : NetId) (k : ℕ) : Type 0 where
  pub port : PortId
  pub used : PortUse
  pub is_used : IsUsed design.bench port used
  pub place : ℕ
  pub launched : place < length (numbers_of used design.bench port run)
  pub first : NetId
  pub driven : IsDrivenBy design.flat first (driver.Port port)
  pub delay : ℤ
  pub port_delay : IsPortDelay design.bench used delay
  pub start : time_at run.pulses first place ≡ (run.tick (slice_index_or (numbers_of used design.bench port run) place 0) +ℤ delay)
  pub arcs : List PathArc
  pub delays : List ℤ
  pub flows : Flows design run.pulses first place arcs delays net k
  pub arc_delays : AllZip (IsDelay design) arcs delays
  pub one_gate : count_by (passes is_gate design) arcs ≤ 1
  pub clocked : 0 < count_by (passes is_gate design) arcs → port ≡ design.bench.clock

-- the number of a pulse: that of its word or of its clock pulse
abbrev pub number_of : (design : Design) (run : Run) (net k : ℕ) → Came design run net k → ℕ
number_of design run net k came = slice_index_or (numbers_of came.used design.bench came.port run) came.place 0

-- the pick of a pulse at a pin
abbrev pub pick_of : (design : Design) (run : Run) (net k pin : ℕ) → Came design run net k → PathPick
pick_of design run net k pin came = record { arcs = arc.Port came.port ∷ came.arcs; delays = came.delay ∷ came.delays; number = number_of design run net k came; ends = pin }

-- Each tag tells how its pulse came.
abbrev pub TellOrigins : Design → Run → List (List PathPick) → Type 0
TellOrigins design run tags = (pin : PinId) (end : Pin) (k : ℕ) (d : PathPick) → slice_get design.flat.pins pin ≡ Some end → k < length (times_of run.pulses end.net) →
    (came : Came design run end.net k) × (slice_index_or (slice_index_or tags pin []) k d ≡ pick_of design run end.net k pin came)
