-- Circuits whose nets have one reader each and whose cells form no loop, with the order of their cells.
use Rattle.std.specs.Prelude.{true, false, ◌↔◌, ◌≡◌, ◌≢◌, ◌⊎◌, ℕ, ◌+◌, ◌<◌, ◌≤◌, List, [], ◌∷◌, length, take, slice_get, Some, option_to_list}
use Rattle.std.specs.Option.{option_and_then}
use Rattle.std.specs.List.{All, AllPairs, Contains}
use Rattle.rsfq_ids.specs.declared.id.NetId.{NetId}
use Rattle.rsfq_ids.specs.declared.id.CellId.{CellId}
use Rattle.rsfq_ids.specs.declared.id.PinId.{PinId}
use Rattle.rsfq_ids.specs.declared.id.PortId.{PortId}
use Rattle.rsfq_ids.specs.declared.table.CellTable.{CellTable}
use Rattle.rsfq_ids.specs.declared.table.CellRow.{CellRow}
use Rattle.rsfq_ids.specs.declared.circuit.Flat.{Flat}
use Rattle.rsfq_ids.specs.declared.circuit.PortBit.{PortBit}
use Rattle.rsfq_ids.specs.declared.circuit.Pin.{Pin}
use Rattle.rsfq_ids.specs.declared.circuit.Driver.TheVariants as driver
use Rattle.rsfq_ids.specs.declared.circuit.Reader.{Reader}
use Rattle.rsfq_ids.specs.declared.circuit.Reader.TheVariants as reader
use Rattle.rsfq_ids.specs.declared.offence.Offence.{Offence}
use Rattle.rsfq_ids.specs.declared.offence.Offence.TheVariants as offence
use Rattle.rsfq_ids.specs.declared.offence.RuleFault.{RuleFault}
use Rattle.rsfq_ids.specs.declared.offence.RuleFault.TheVariants as fault
use Rattle.rsfq_ids.specs.Circuit.{IsDrivenBy, IsPin, Reads}
use Rattle.rsfq_ids.specs.Design.{Design}
use Rattle.rsfq_ids.specs.Offence.{ReadsFrom, IsLoop, OffenceExists}
use Rattle.rsfq_ids.specs.Order.{IsOrder}
use Rattle.rsfq_ids.specs.Numbering.{IsNumbered}
use Rattle.rsfq_ids.specs.WellFormed.{IsTable, IsFlat}

-- What contracts see of a graph: the circuit, the table of its cells, and the order of the cells.
pub record NetGraph : Type 0 where
  pub table : CellTable
  pub flat : Flat
  pub order : List CellId

-- ---- readers

-- a pin reads a net
abbrev pub IsReadBy : Flat → NetId → PinId → Type 0
IsReadBy flat net pin = (by : Reader) × IsPin flat pin by net

-- no net has two readers
abbrev pub HasNoFanout : Flat → Type 0
HasNoFanout flat = (net : NetId) (first second : PinId) → ¬ ((first ≢ second) × ((one two : Reader) × IsPin flat first one net × IsPin flat second two net))

-- The first net with two readers, and its first two readers in pin order.
pub record IsFirstFanout (flat : Flat) (net : NetId) (first second : PinId) : Type 0 where
  pub first_reads : IsReadBy flat net first
  pub second_reads : IsReadBy flat net second
  pub rising : first < second
  pub others : (pin : PinId) → IsReadBy flat net pin → (pin ≡ first) ⊎ (second ≤ pin)
  pub before : (earlier : NetId) (one other : PinId) → earlier < net → IsReadBy flat earlier one → IsReadBy flat earlier other → one ≡ other

-- ---- loops

-- no cells form a loop
abbrev pub HasNoLoop : Flat → Type 0
HasNoLoop flat = (cells : List CellId) → ¬ IsLoop flat cells

-- no cell of the list comes before its first
abbrev pub BeginsAtLeast : List CellId → Type 0
BeginsAtLeast [] = ⊥
BeginsAtLeast (cell ∷ cells) = All (λ other. cell ≤ other) cells

-- A loop as it is named: from its least cell on, each cell once.
pub record IsNamedLoop (flat : Flat) (cells : List CellId) : Type 0 where
  pub closed : IsLoop flat cells
  pub once : AllPairs (λ one other. one ≢ other) cells
  pub least : BeginsAtLeast cells

-- ---- the order

-- A cell that can come next: it is not yet taken, and each cell that it reads from is taken.
pub record CanBeNext (flat : Flat) (taken : List CellId) (cell : CellId) : Type 0 where
  pub inside : cell < length flat.cells
  pub fresh : ¬ Contains taken cell
  pub served : (before : CellId) → ReadsFrom flat cell before → Contains taken before

-- All cells in the order in which each next one is the least that can come next.
pub record IsLeastOrder (flat : Flat) (order : List CellId) : Type 0 where
  pub each : (cell : CellId) → cell < length flat.cells → Contains order cell
  pub next : (place : ℕ) (cell : CellId) → slice_get order place ≡ Some cell → CanBeNext flat (take place order) cell
  pub least : (place : ℕ) (cell other : CellId) → slice_get order place ≡ Some cell → CanBeNext flat (take place order) other → cell ≤ other

-- ---- the order of readers

-- One reader stands before another: pins of cells in cell order, the pins of a cell in their order, and output bits behind them in port order.
abbrev pub StandsBefore : Reader → Reader → Type 0
StandsBefore (reader.Pin cell pin) (reader.Pin next at) = (cell < next) ⊎ ((cell ≡ next) × (pin < at))
StandsBefore (reader.Pin cell pin) (reader.Port port) = Unit {0}
StandsBefore (reader.Port port) (reader.Pin cell pin) = ⊥
StandsBefore (reader.Port port) (reader.Port next) = port < next

-- the pins of a circuit stand in that order
abbrev pub AreInOrder : Flat → Type 0
AreInOrder flat = (first second : PinId) (one two : Pin) → first < second → slice_get flat.pins first ≡ Some one → slice_get flat.pins second ≡ Some two → StandsBefore one.reader two.reader

-- ---- numbers of pins and outputs

-- a cell is of this row of the table
abbrev pub IsRowIn : CellTable → Flat → CellId → CellRow → Type 0
IsRowIn table flat cell row = option_and_then (λ c. slice_get table.rows c.row) (slice_get flat.cells cell) ≡ Some row

abbrev pub IsRowOf : NetGraph → CellId → CellRow → Type 0
IsRowOf graph cell row = IsRowIn graph.table graph.flat cell row

-- a cell has a reading pin of this number: its inputs, and then its clock
abbrev pub HasPinIn : CellTable → Flat → CellId → ℕ → Type 0
HasPinIn table flat cell pin = (row : CellRow) × IsRowIn table flat cell row × (pin < length row.inputs + length (option_to_list row.clock))

abbrev pub HasPin : NetGraph → CellId → ℕ → Type 0
HasPin graph cell pin = HasPinIn graph.table graph.flat cell pin

-- a cell has an output of this number
abbrev pub HasOutputIn : CellTable → Flat → CellId → ℕ → Type 0
HasOutputIn table flat cell out = (row : CellRow) × IsRowIn table flat cell row × (out < length row.outputs)

abbrev pub HasOutput : NetGraph → CellId → ℕ → Type 0
HasOutput graph cell out = HasOutputIn graph.table graph.flat cell out

-- this place of the circuit is a pin of a cell
abbrev pub IsPinOf : Flat → PinId → CellId → ℕ → Type 0
IsPinOf flat place cell pin = (net : NetId) × IsPin flat place (reader.Pin cell pin) net

-- a port is an input bit
abbrev pub IsInputBit : Flat → PortId → Type 0
IsInputBit flat port = (bit : PortBit) × (slice_get flat.ports port ≡ Some bit) × (bit.output ≡ false)

-- a port is an output bit
abbrev pub IsOutputBit : Flat → PortId → Type 0
IsOutputBit flat port = (bit : PortBit) × (slice_get flat.ports port ≡ Some bit) × (bit.output ≡ true)

-- this place of the circuit is the pin of an output bit
abbrev pub IsPinOfPort : Flat → PinId → PortId → Type 0
IsPinOfPort flat place port = (net : NetId) × IsPin flat place (reader.Port port) net

-- ---- what stands in a well-formed circuit

-- What stands in a well-formed circuit: drivers and readers are numbered; a reader has one pin; the pins of cells are those that cells have, and each that a cell has is there; so are the outputs of cells, the nets of input bits, and the pins of output bits.
pub record IsWired (table : CellTable) (flat : Flat) : Type 0 where
  pub numbered : IsNumbered flat
  pub one_pin : (by : Reader) (first second : PinId) (net other : NetId) → IsPin flat first by net → IsPin flat second by other → first ≡ second
  pub pins : (cell : CellId) (pin : ℕ) → HasPinIn table flat cell pin ↔ ((net : NetId) × Reads flat (reader.Pin cell pin) net)
  pub outputs : (cell : CellId) (out : ℕ) → HasOutputIn table flat cell out ↔ ((net : NetId) × IsDrivenBy flat net (driver.Out cell out))
  pub input_bits : (port : PortId) → IsInputBit flat port ↔ ((net : NetId) × IsDrivenBy flat net (driver.Port port))
  pub output_bits : (port : PortId) → IsOutputBit flat port ↔ ((net : NetId) × Reads flat (reader.Port port) net)
  pub in_order : AreInOrder flat

-- A well-formed circuit is wired so.
abbrev pub CircuitsAreWired : Type 0
CircuitsAreWired = (table : CellTable) (flat : Flat) → IsFlat table flat → IsWired table flat

-- ---- what is known of a graph, and why there is none

-- All that is known of a graph: the circuit and its table are well formed (so drivers and readers are numbered, the pins that read are those that cells have or output bits, and what drives a net is an output that a cell has or an input bit), no net has two readers, no cells form a loop, and the order is the one of least cells.
pub record IsGraph (graph : NetGraph) : Type 0 where
  pub table_fits : IsTable graph.table
  pub flat_fits : IsFlat graph.table graph.flat
  pub numbered : IsNumbered graph.flat
  pub one_pin : (by : Reader) (first second : PinId) (net other : NetId) → IsPin graph.flat first by net → IsPin graph.flat second by other → first ≡ second
  pub pins : (cell : CellId) (pin : ℕ) (net : NetId) → Reads graph.flat (reader.Pin cell pin) net → HasPin graph cell pin
  pub outputs : (net : NetId) (cell : CellId) (out : ℕ) → IsDrivenBy graph.flat net (driver.Out cell out) → HasOutput graph cell out
  pub inputs : (net : NetId) (port : PortId) → IsDrivenBy graph.flat net (driver.Port port) → IsInputBit graph.flat port
  pub output_bits : (net : NetId) (port : PortId) → Reads graph.flat (reader.Port port) net → IsOutputBit graph.flat port
  pub fanout : HasNoFanout graph.flat
  pub loop : HasNoLoop graph.flat
  pub least : IsLeastOrder graph.flat graph.order
  pub ordered : IsOrder graph.flat graph.order

-- an offence that a circuit has no graph for: the first net with two readers; or, where there is none such, a loop
abbrev pub IsGraphOffence : Flat → Offence → Type 0
IsGraphOffence flat (offence.Fanout net first second) = IsFirstFanout flat net first second
IsGraphOffence flat (offence.Loop cells) = HasNoFanout flat × IsNamedLoop flat cells
IsGraphOffence flat (offence.DataOnClock pin path) = ⊥
IsGraphOffence flat (offence.ClockOnData pin path) = ⊥
IsGraphOffence flat (offence.ClockMerged pin path) = ⊥
IsGraphOffence flat (offence.ClockOut pin path) = ⊥
IsGraphOffence flat (offence.Dead cell first second) = ⊥
IsGraphOffence flat (offence.Window pin pulse held) = ⊥
IsGraphOffence flat (offence.Ahead pin pulse held) = ⊥
IsGraphOffence flat (offence.Unequal to first second) = ⊥
IsGraphOffence flat (offence.Differ output word netlist golden) = ⊥

-- Why there is no graph: such an offence. Want of memory is free.
abbrev pub IsGraphFault : Flat → RuleFault → Type 0
IsGraphFault flat (fault.Offends shown) = IsGraphOffence flat shown
IsGraphFault flat fault.Memory = Unit {0}

-- ---- what is named is one

-- A circuit has one order in which each next cell is the least that can come next.
abbrev pub OrdersAreOne : Type 0
OrdersAreOne = (flat : Flat) (one other : List CellId) → IsLeastOrder flat one → IsLeastOrder flat other → one ≡ other

-- A circuit has one first net with two readers, and one first pair of its readers.
abbrev pub FanoutsAreOne : Type 0
FanoutsAreOne = (flat : Flat) (net next : NetId) (first second one other : PinId) → IsFirstFanout flat net first second → IsFirstFanout flat next one other → (net ≡ next) × (first ≡ one) × (second ≡ other)

-- An offence for which a circuit has no graph meets the negation of its rule.
abbrev pub GraphOffencesExist : Type 0
GraphOffencesExist = (design : Design) (shown : Offence) → IsGraphOffence design.flat shown → OffenceExists design shown
