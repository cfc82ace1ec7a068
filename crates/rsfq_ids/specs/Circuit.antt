-- What a circuit and its cell table say of pins, nets and cells.
use Rattle.std.specs.Prelude.{◌≡◌, ℕ, Bool, true, false, List, length, slice_get, Option, Some}
use Rattle.std.specs.List.{AllZip, range_with_len}
use Rattle.std.specs.Option.{option_and_then}
use Rattle.rsfq_ids.specs.declared.id.NetId.{NetId}
use Rattle.rsfq_ids.specs.declared.id.CellId.{CellId}
use Rattle.rsfq_ids.specs.declared.id.PinId.{PinId}
use Rattle.rsfq_ids.specs.declared.table.CellRow.{CellRow}
use Rattle.rsfq_ids.specs.declared.table.Kind.{Kind}
use Rattle.rsfq_ids.specs.declared.table.Kind.TheVariants as kind
use Rattle.rsfq_ids.specs.declared.circuit.Flat.{Flat}
use Rattle.rsfq_ids.specs.declared.circuit.Driver.{Driver}
use Rattle.rsfq_ids.specs.declared.circuit.Reader.{Reader}
use Rattle.rsfq_ids.specs.declared.circuit.Reader.TheVariants as reader
use Rattle.rsfq_ids.specs.Design.{Design}

-- a net is driven so
abbrev pub IsDrivenBy : Flat → NetId → Driver → Type 0
IsDrivenBy flat net driver = slice_get flat.nets net ≡ Some driver

-- a pin is this reader, and reads this net
abbrev pub IsPin : Flat → PinId → Reader → NetId → Type 0
IsPin flat pin reader net = slice_get flat.pins pin ≡ Some (record { reader = reader; net = net })

-- a reader reads a net
abbrev pub Reads : Flat → Reader → NetId → Type 0
Reads flat reader net = (pin : PinId) × IsPin flat pin reader net

-- the row of the cell table that a cell is of, if there is one
abbrev pub row_of : Design → CellId → Option CellRow
row_of design cell = option_and_then (λ c. slice_get design.table.rows c.row) (slice_get design.flat.cells cell)

-- a cell is of this row of the cell table
abbrev pub IsOf : Design → CellId → CellRow → Type 0
IsOf design cell row = row_of design cell ≡ Some row

-- a clocked cell
abbrev pub is_gate : Kind → Bool
is_gate kind.Gate = true
is_gate kind.Jtl = false
is_gate kind.Split = false
is_gate kind.Merge = false

-- A cell that passes each pulse of its one input on to every output: a JTL or a splitter. The others, mergers and gates, join what comes to several pins.
abbrev pub is_copying : Kind → Bool
is_copying kind.Jtl = true
is_copying kind.Split = true
is_copying kind.Merge = false
is_copying kind.Gate = false

-- a gate has its clock pin after its inputs
abbrev pub clock_pin : CellRow → ℕ
clock_pin row = length row.inputs

-- the nets that the first pins of a cell read, in pin order
abbrev pub PinsRead : Flat → CellId → ℕ → List NetId → Type 0
PinsRead flat cell count nets = AllZip (λ pin net. Reads flat (reader.Pin cell pin) net) (range_with_len 0 count) nets

-- the nets that the inputs of a cell read
abbrev pub InputNets : Flat → CellId → CellRow → List NetId → Type 0
InputNets flat cell row nets = PinsRead flat cell (length row.inputs) nets
