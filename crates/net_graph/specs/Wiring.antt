-- A circuit whose nets have one reader each, with the tables by which pins, nets and readers are found. For the clauses of private functions.
use Rattle.std.specs.Prelude.{◌≡◌, ◌⊎◌, ℕ, zero, suc, ◌+◌, ◌<◌, ◌≤◌, cond, List, [], ◌∷◌, length, slice_get, slice_index, Option, Some, None}
use Rattle.rsfq_ids.specs.declared.id.NetId.{NetId}
use Rattle.rsfq_ids.specs.declared.id.PinId.{PinId}
use Rattle.rsfq_ids.specs.declared.id.PortId.{PortId}
use Rattle.rsfq_ids.specs.declared.id.CellId.{CellId}
use Rattle.rsfq_ids.specs.declared.table.CellTable.{CellTable}
use Rattle.rsfq_ids.specs.declared.circuit.Flat.{Flat}
use Rattle.rsfq_ids.specs.declared.circuit.PortBit.{PortBit}
use Rattle.rsfq_ids.specs.declared.circuit.Driver.{Driver}
use Rattle.rsfq_ids.specs.declared.circuit.Driver.TheVariants as driver
use Rattle.rsfq_ids.specs.declared.circuit.Reader.{Reader}
use Rattle.rsfq_ids.specs.declared.circuit.Reader.TheVariants as reader
use Rattle.rsfq_ids.specs.declared.offence.Offence.{Offence}
use Rattle.rsfq_ids.specs.declared.offence.Offence.TheVariants as offence
use Rattle.rsfq_ids.specs.declared.offence.RuleFault.{RuleFault}
use Rattle.rsfq_ids.specs.declared.offence.RuleFault.TheVariants as fault
use Rattle.rsfq_ids.specs.Circuit.{IsDrivenBy, IsPin, Reads}
use Rattle.rsfq_ids.specs.Numbering.{IsNumbered}
use Rattle.rsfq_ids.specs.WellFormed.{IsTable, IsFlat, reading_pins, output_pins}
use Rattle.net_graph.specs.declared.readers.Held.{Held}
use Rattle.net_graph.specs.declared.readers.Held.TheVariants.{Nothing, One, Two}
use Rattle.net_graph.specs.Graph.{IsReadBy, HasNoFanout, IsFirstFanout, HasPinIn, HasOutputIn, IsInputBit, IsOutputBit}

-- What contracts see of a wiring.
pub record Wired : Type 0 where
  pub table : CellTable
  pub flat : Flat

-- what is known of it
pub record IsWiring (wired : Wired) : Type 0 where
  pub table_fits : IsTable wired.table
  pub flat_fits : IsFlat wired.table wired.flat
  pub numbered : IsNumbered wired.flat
  pub one_pin : (by : Reader) (first second : PinId) (net other : NetId) → IsPin wired.flat first by net → IsPin wired.flat second by other → first ≡ second
  pub pins : (cell : CellId) (pin : ℕ) (net : NetId) → Reads wired.flat (reader.Pin cell pin) net → HasPinIn wired.table wired.flat cell pin
  pub outputs : (net : NetId) (cell : CellId) (out : ℕ) → IsDrivenBy wired.flat net (driver.Out cell out) → HasOutputIn wired.table wired.flat cell out
  pub inputs : (net : NetId) (port : PortId) → IsDrivenBy wired.flat net (driver.Port port) → IsInputBit wired.flat port
  pub output_bits : (net : NetId) (port : PortId) → Reads wired.flat (reader.Port port) net → IsOutputBit wired.flat port
  pub fanout : HasNoFanout wired.flat

-- a pin of a cell reads an output of another
abbrev pub Feeds : Flat → CellId → CellId → ℕ → Type 0
Feeds flat before cell pin = (out : ℕ) × (net : NetId) × IsDrivenBy flat net (driver.Out before out) × Reads flat (reader.Pin cell pin) net

-- an output of a cell is read by a pin of another
abbrev pub FeedsFrom : Flat → CellId → ℕ → CellId → Type 0
FeedsFrom flat cell out after = (pin : ℕ) × (net : NetId) × IsDrivenBy flat net (driver.Out cell out) × Reads flat (reader.Pin after pin) net

-- the cell whose pin this is
abbrev pub cell_read : Reader → Option CellId
cell_read (reader.Port port) = None
cell_read (reader.Pin cell at) = Some cell

-- the cell whose output this is
abbrev pub cell_behind : Driver → Option CellId
cell_behind (driver.Port port) = None
cell_behind (driver.Out cell out) = Some cell

-- ---- where pins and nets begin

-- how many there are of the first items together
abbrev pub counted : {A : Type 0} → (A → ℕ) → List A → ℕ → ℕ
counted size xs zero = 0
counted size [] (suc k) = 0
counted size (x ∷ xs) (suc k) = size x + counted size xs k

-- how many nets a port bit drives
abbrev pub driven_by : PortBit → ℕ
driven_by port = cond port.output 0 1

-- how many pins a port bit has
abbrev pub pins_of_port : PortBit → ℕ
pins_of_port port = cond port.output 1 0

-- the list has for each port bit how many pins stand before its own, where those of the cells come first
pub record ArePortPins (flat : Flat) (first count : ℕ) (ports : List ℕ) : Type 0 where
  pub port_count : length ports ≡ count
  pub port_starts : (k : ℕ) → k < count → slice_index ports k ≡ first + counted pins_of_port flat.ports k

-- the first net that a cell drives
abbrev pub first_output : Flat → ℕ
first_output flat = counted driven_by flat.ports (length flat.ports)

-- the list has for each cell how many pins those before it have, and which net is its first
pub record AreStarts (table : CellTable) (flat : Flat) (count : ℕ) (pins nets : List ℕ) : Type 0 where
  pub pin_count : length pins ≡ count
  pub net_count : length nets ≡ count
  pub pin_starts : (k : ℕ) → k < count → slice_index pins k ≡ counted (reading_pins table) flat.cells k
  pub net_starts : (k : ℕ) → k < count → slice_index nets k ≡ first_output flat + counted (output_pins table) flat.cells k

-- ---- what reads each net

-- what is held of a net is true of the first so many pins
abbrev pub IsTrueOf : Flat → ℕ → NetId → Held → Type 0
IsTrueOf flat count net Nothing = (pin : PinId) → pin < count → ¬ IsReadBy flat net pin
IsTrueOf flat count net (One first) = (first < count) × IsReadBy flat net first × ((pin : PinId) → pin < count → IsReadBy flat net pin → pin ≡ first)
IsTrueOf flat count net (Two first second) =
    (first < second) × (second < count) × IsReadBy flat net first × IsReadBy flat net second × ((pin : PinId) → pin < count → IsReadBy flat net pin → (pin ≡ first) ⊎ (second ≤ pin))

pub record AreHeld (flat : Flat) (count : ℕ) (held : List Held) : Type 0 where
  pub nets : length held ≡ length flat.nets
  pub held_true : (net : NetId) (what : Held) → slice_get held net ≡ Some what → IsTrueOf flat count net what

-- with one more reader behind those that are known
abbrev pub with_reader : PinId → Held → Held
with_reader pin Nothing = One pin
with_reader pin (One first) = Two first pin
with_reader pin (Two first second) = Two first second

-- what the list has for a net is its one reader
abbrev pub IsOneReader : Flat → NetId → Option PinId → Type 0
IsOneReader flat net None = (pin : PinId) → ¬ IsReadBy flat net pin
IsOneReader flat net (Some only) = IsReadBy flat net only × ((pin : PinId) → IsReadBy flat net pin → pin ≡ only)

-- the list has for each of the first nets its one reader
pub record AreReaders (flat : Flat) (count : ℕ) (readers : List (Option PinId)) : Type 0 where
  pub nets : length readers ≡ count
  pub each : (net : NetId) (what : Option PinId) → slice_get readers net ≡ Some what → IsOneReader flat net what

-- a net with two readers, or want of memory
abbrev pub IsFanoutOffence : Flat → Offence → Type 0
IsFanoutOffence flat (offence.Fanout net first second) = IsFirstFanout flat net first second
IsFanoutOffence flat (offence.Loop cells) = ⊥
IsFanoutOffence flat (offence.DataOnClock pin path) = ⊥
IsFanoutOffence flat (offence.ClockOnData pin path) = ⊥
IsFanoutOffence flat (offence.ClockMerged pin path) = ⊥
IsFanoutOffence flat (offence.ClockOut pin path) = ⊥
IsFanoutOffence flat (offence.Dead cell first second) = ⊥
IsFanoutOffence flat (offence.Window pin pulse held) = ⊥
IsFanoutOffence flat (offence.Ahead pin pulse held) = ⊥
IsFanoutOffence flat (offence.Unequal to first second) = ⊥
IsFanoutOffence flat (offence.Differ output word netlist golden) = ⊥

abbrev pub IsFanoutFault : Flat → RuleFault → Type 0
IsFanoutFault flat (fault.Offends shown) = IsFanoutOffence flat shown
IsFanoutFault flat fault.Memory = Unit {0}
