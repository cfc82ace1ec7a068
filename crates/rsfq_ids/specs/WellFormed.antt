-- Which cell tables, circuits and benches are well formed.
use Rattle.std.specs.Prelude.{◌≡◌, ◌≢◌, ℕ, ◌+◌, ◌<◌, ◌≤◌, ◌^◌, true, false, cond, ℤ, pos, ◌≤ℤ◌, ◌<ℤ◌, List, [], ◌∷◌, ◌++◌, map, length, slice_get, Some, None, unwrap_or, option_to_list}
use Rattle.std.specs.Option.{option_map}
use Rattle.std.specs.List.{All, AllPairs, flat_map, enumerate_from, range_with_len}
use Rattle.rsfq_ids.specs.declared.limits.TheConstants.{CELL_LIMIT, TIME_LIMIT}
use Rattle.rsfq_ids.specs.declared.id.PortId.{PortId}
use Rattle.rsfq_ids.specs.declared.table.CellTable.{CellTable}
use Rattle.rsfq_ids.specs.declared.table.CellRow.{CellRow}
use Rattle.rsfq_ids.specs.declared.table.Kind.{Kind}
use Rattle.rsfq_ids.specs.declared.table.Kind.TheVariants as kind
use Rattle.rsfq_ids.specs.declared.circuit.Flat.{Flat}
use Rattle.rsfq_ids.specs.declared.circuit.FlatCell.{FlatCell}
use Rattle.rsfq_ids.specs.declared.circuit.PortBit.{PortBit}
use Rattle.rsfq_ids.specs.declared.circuit.Bench.{Bench}
use Rattle.rsfq_ids.specs.declared.circuit.PortUse.{PortUse}
use Rattle.rsfq_ids.specs.declared.circuit.PortUse.TheVariants as port_use
use Rattle.rsfq_ids.specs.declared.circuit.Driver.{Driver}
use Rattle.rsfq_ids.specs.declared.circuit.Driver.TheVariants as driver
use Rattle.rsfq_ids.specs.declared.circuit.Reader.{Reader}
use Rattle.rsfq_ids.specs.declared.circuit.Reader.TheVariants as reader
use Rattle.rsfq_ids.specs.Time.{IsWithin}
use Rattle.rsfq_ids.specs.Bench.{IsUsed}

-- no two of the names are one
abbrev pub AreDistinct : List (List ℕ) → Type 0
AreDistinct names = AllPairs (λ one other. one ≢ other) names

-- a time that a table may hold, in femtoseconds
abbrev pub IsTime : ℤ → Type 0
IsTime time = IsWithin (pos 0) (pos TIME_LIMIT) time

-- such a time of at least 1 fs
abbrev pub IsPositiveTime : ℤ → Type 0
IsPositiveTime time = IsWithin (pos 1) (pos TIME_LIMIT) time

-- The pins, the truth string and the times that a kind of cell has. A passive cell has no truth string, setup or hold, and they are kept as 0.
abbrev pub FitsKind : Kind → CellRow → Type 0
FitsKind kind.Jtl row = (length row.inputs ≡ 1) × (row.clock ≡ None) × (length row.outputs ≡ 1) × (row.setup ≡ pos 0) × (row.hold ≡ pos 0) × (row.truth ≡ 0)
FitsKind kind.Split row = (length row.inputs ≡ 1) × (row.clock ≡ None) × (length row.outputs ≡ 2) × (row.setup ≡ pos 0) × (row.hold ≡ pos 0) × (row.truth ≡ 0)
FitsKind kind.Merge row = (length row.inputs ≡ 2) × (row.clock ≡ None) × (length row.outputs ≡ 1) × (row.setup ≡ pos 0) × (row.hold ≡ pos 0) × (row.truth ≡ 0)
FitsKind kind.Gate row = (1 ≤ length row.inputs) × (length row.inputs ≤ 3) × (length (option_to_list row.clock) ≡ 1) × (length row.outputs ≡ 1)
    × (row.truth < 2 ^ (2 ^ length row.inputs)) × IsPositiveTime row.setup × IsPositiveTime row.hold × IsPositiveTime row.dead

-- A well-formed row: what its kind has, distinct pins, and times within their limits.
pub record IsRow (row : CellRow) : Type 0 where
  pub kind : FitsKind row.kind row
  pub pins : AreDistinct (row.inputs ++ option_to_list row.clock ++ row.outputs)
  pub low : IsTime row.low
  pub high : IsTime row.high
  pub dead : IsTime row.dead
  pub delays : row.low ≤ℤ row.high

-- A well-formed table: no two rows have one name.
pub record IsTable (table : CellTable) : Type 0 where
  pub rows : All IsRow table.rows
  pub names : AreDistinct (map (λ row. row.name) table.rows)

-- how many pins of a cell read a net: its inputs and its clock
abbrev pub reading_pins : CellTable → FlatCell → ℕ
reading_pins table cell = unwrap_or (option_map (λ row. length row.inputs + length (option_to_list row.clock)) (slice_get table.rows cell.row)) 0

-- how many outputs a cell has
abbrev pub output_pins : CellTable → FlatCell → ℕ
output_pins table cell = unwrap_or (option_map (λ row. length row.outputs) (slice_get table.rows cell.row)) 0

-- the drivers in the order of nets: the input bits in port order, then the outputs in cell order
abbrev pub drivers_of : CellTable → Flat → List Driver
drivers_of table flat =
    flat_map (λ (n, port). cond port.output [] (driver.Port n ∷ [])) (enumerate_from 0 flat.ports)
    ++ flat_map (λ (n, cell). map (driver.Out n) (range_with_len 0 (output_pins table cell))) (enumerate_from 0 flat.cells)

-- the readers in the order of pins: the pins in cell order, then the output bits in port order
abbrev pub readers_of : CellTable → Flat → List Reader
readers_of table flat =
    flat_map (λ (n, cell). map (reader.Pin n) (range_with_len 0 (reading_pins table cell))) (enumerate_from 0 flat.cells)
    ++ flat_map (λ (n, port). cond port.output (reader.Port n ∷ []) []) (enumerate_from 0 flat.ports)

-- A well-formed circuit over a table: its cells are of rows, no two ports have one name, its nets and pins are those that its ports and cells have, in this order, and each pin reads a net.
pub record IsFlat (table : CellTable) (flat : Flat) : Type 0 where
  pub cells : length flat.cells ≤ CELL_LIMIT
  pub rows : All (λ cell. cell.row < length table.rows) flat.cells
  pub names : AreDistinct (map (λ port. port.name) flat.ports)
  pub nets : flat.nets ≡ drivers_of table flat
  pub pins : map (λ pin. pin.reader) flat.pins ≡ readers_of table flat
  pub read : All (λ pin. pin.net < length flat.nets) flat.pins

-- What a port bit is used for: `clock`, an input, as the clock, each other input for data, each output to be read at a strobe within the period.
abbrev pub FitsUse : Bench → PortId → PortBit → PortUse → Type 0
FitsUse bench at port port_use.Clock = (at ≡ bench.clock) × (port.output ≡ false)
FitsUse bench at port (port_use.Arrival low high) = (at ≢ bench.clock) × (port.output ≡ false) × IsTime low × IsTime high × (low ≤ℤ high)
FitsUse bench at port (port_use.Strobed strobe) =
    (port.output ≡ true) × IsTime strobe.offset × (strobe.offset <ℤ bench.period) × IsPositiveTime strobe.setup × IsPositiveTime strobe.hold

-- A well-formed bench beside a circuit: one use for each port bit.
pub record IsBench (flat : Flat) (bench : Bench) : Type 0 where
  pub ports : length bench.uses ≡ length flat.ports
  pub uses : (at : PortId) (port : PortBit) (used : PortUse) → slice_get flat.ports at ≡ Some port → IsUsed bench at used → FitsUse bench at port used
  pub clock : IsUsed bench bench.clock port_use.Clock
  pub period : IsPositiveTime bench.period
  pub jitter : IsTime bench.jitter
