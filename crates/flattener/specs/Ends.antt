-- The ends of nets over a circuit's ports and cells: their places' numbers, and their printed names.
use Rattle.std.specs.Prelude.{◌≡◌, ℕ, ◌<◌, cond, List, [], ◌∷◌, ◌++◌, map, length, slice_get, Option, Some, unwrap_or, option_to_list}
use Rattle.std.specs.Option.{option_map, option_and_then}
use Rattle.std.specs.List.{flat_map, enumerate_from, range_with_len}
use Rattle.rsfq_ids.specs.declared.table.CellTable.{CellTable}
use Rattle.rsfq_ids.specs.declared.table.CellRow.{CellRow}
use Rattle.rsfq_ids.specs.declared.circuit.Driver.{Driver}
use Rattle.rsfq_ids.specs.declared.circuit.Driver.TheVariants as driver
use Rattle.rsfq_ids.specs.declared.circuit.Reader.{Reader}
use Rattle.rsfq_ids.specs.declared.circuit.Reader.TheVariants as reader
use Rattle.rsfq_ids.specs.declared.circuit.Flat.{Flat}
use Rattle.rsfq_ids.specs.declared.circuit.FlatCell.{FlatCell}
use Rattle.rsfq_ids.specs.declared.circuit.PortBit.{PortBit}
use Rattle.rsfq_ids.specs.WellFormed.{reading_pins, output_pins}
use Rattle.bind_forms.specs.declared.bound.BoundPort.{BoundPort}
use Rattle.bind_forms.specs.Bits.{width_of, bit_name}
use Rattle.flat_places.specs.Paths.{longer}

-- a circuit's ports and cells alone
abbrev pub bare : List PortBit → List FlatCell → Flat
bare ports cells = record { ports = ports; cells = cells; nets = []; pins = [] }

-- the bit of a port at a place, and all of its bits from the right
abbrev pub port_bit : BoundPort → ℕ → PortBit
port_bit port place = record { name = bit_name port.name port.range place; output = port.output }

abbrev pub bits_of_port : BoundPort → List PortBit
bits_of_port port = map (port_bit port) (range_with_len 0 (width_of port.range))

-- the input bits by their numbers, each as a place, and the output bits
abbrev pub input_place : ℕ × PortBit → List (Option ℕ)
input_place (n, port) = cond port.output [] (Some n ∷ [])

abbrev pub input_places : List PortBit → List (Option ℕ)
input_places ports = flat_map input_place (enumerate_from 0 ports)

abbrev pub output_place : ℕ × PortBit → List (Option ℕ)
output_place (n, port) = cond port.output (Some n ∷ []) []

abbrev pub output_places : List PortBit → List (Option ℕ)
output_places ports = flat_map output_place (enumerate_from 0 ports)

-- the input bits as drivers, and the output bits as readers
abbrev pub input_driver : ℕ × PortBit → List Driver
input_driver (n, port) = cond port.output [] (driver.Port n ∷ [])

abbrev pub input_drivers : List PortBit → List Driver
input_drivers ports = flat_map input_driver (enumerate_from 0 ports)

abbrev pub output_reader : ℕ × PortBit → List Reader
output_reader (n, port) = cond port.output (reader.Port n ∷ []) []

abbrev pub output_readers : List PortBit → List Reader
output_readers ports = flat_map output_reader (enumerate_from 0 ports)

-- the outputs of a cell as drivers, and its reading pins as readers
abbrev pub cell_drivers : CellTable → ℕ × FlatCell → List Driver
cell_drivers table (n, cell) = map (driver.Out n) (range_with_len 0 (output_pins table cell))

abbrev pub cell_readers : CellTable → ℕ × FlatCell → List Reader
cell_readers table (n, cell) = map (reader.Pin n) (range_with_len 0 (reading_pins table cell))

-- the pins that read, by their names
abbrev pub reading_names : CellRow → List (List ℕ)
reading_names row = row.inputs ++ option_to_list row.clock

-- a cell's row has a pin of this number among some of its pins
abbrev pub HasPin : CellTable → List FlatCell → (CellRow → List (List ℕ)) → ℕ → ℕ → Type 0
HasPin table cells pins cell pin = (found : FlatCell) × (row : CellRow) × (slice_get cells cell ≡ Some found) × (slice_get table.rows found.row ≡ Some row) × (pin < length (pins row))

-- a driver of the circuit with these ports and cells; and a reader
abbrev pub HasDriver : CellTable → List PortBit → List FlatCell → Driver → Type 0
HasDriver table ports cells (driver.Port port) = port < length ports
HasDriver table ports cells (driver.Out cell output) = HasPin table cells (λ row. row.outputs) cell output

abbrev pub HasReader : CellTable → List PortBit → List FlatCell → Reader → Type 0
HasReader table ports cells (reader.Pin cell pin) = HasPin table cells reading_names cell pin
HasReader table ports cells (reader.Port port) = port < length ports

-- printed names of ports' bits and of pins
abbrev pub printed_port : List PortBit → ℕ → List ℕ
printed_port ports port = unwrap_or (option_map (λ bit. bit.name) (slice_get ports port)) []

abbrev pub printed_pin : CellTable → List FlatCell → (CellRow → List (List ℕ)) → ℕ → ℕ → List ℕ
printed_pin table cells pins cell pin =
    unwrap_or (option_map (λ found. longer (Some found.path) (unwrap_or (option_and_then (λ row. slice_get (pins row) pin) (slice_get table.rows found.row)) [])) (slice_get cells cell)) []

abbrev pub printed_driver : CellTable → List PortBit → List FlatCell → Driver → List ℕ
printed_driver table ports cells (driver.Port port) = printed_port ports port
printed_driver table ports cells (driver.Out cell output) = printed_pin table cells (λ row. row.outputs) cell output

abbrev pub printed_reader : CellTable → List PortBit → List FlatCell → Reader → List ℕ
printed_reader table ports cells (reader.Pin cell pin) = printed_pin table cells reading_names cell pin
printed_reader table ports cells (reader.Port port) = printed_port ports port
