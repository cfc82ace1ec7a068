-- Printed names: instance names from the top down and the own name, joined by dots.
use Rattle.std.specs.Prelude.{ℕ, List, [], ◌∷◌, ◌++◌, slice_get, unwrap_or, option_to_list}
use Rattle.std.specs.Option.{option_map, option_and_then}
use Rattle.std.specs.List.{join_with_byte}
use Rattle.rsfq_ids.specs.declared.table.CellTable.{CellTable}
use Rattle.rsfq_ids.specs.declared.table.CellRow.{CellRow}
use Rattle.rsfq_ids.specs.declared.circuit.Driver.{Driver}
use Rattle.rsfq_ids.specs.declared.circuit.Driver.TheVariants as driver
use Rattle.rsfq_ids.specs.declared.circuit.Reader.{Reader}
use Rattle.rsfq_ids.specs.declared.circuit.Reader.TheVariants as reader
use Rattle.bind_forms.specs.declared.bound.Bound.{Bound}
use Rattle.bind_forms.specs.Bits.{bit_name, port_bit_names}
use Rattle.flat_places.specs.Hierarchy.{instances_of, wires_of, module_of, leads_to}
use Rattle.flat_places.specs.Places.{Place, CellAt, cells_of}

-- the names of the instances of a path that begins in a module
abbrev pub names_along : Bound → ℕ → List ℕ → List (List ℕ)
names_along bound at [] = []
names_along bound at (instance ∷ path) =
    option_to_list (option_map (λ i. i.name) (slice_get (instances_of bound at) instance))
    ++ unwrap_or (option_map (λ inner. names_along bound inner path) (option_and_then (λ i. module_of i.kind) (slice_get (instances_of bound at) instance))) []

-- names joined by dots
abbrev pub dotted : List (List ℕ) → List ℕ
dotted names = join_with_byte 46 names

-- the printed name of a place
abbrev pub place_name : Bound → Place → List ℕ
place_name bound place =
    dotted (names_along bound bound.top place.path
    ++ option_to_list (option_and_then (λ at. option_map (λ wire. bit_name wire.name wire.range place.bit) (slice_get (wires_of bound at) place.wire)) (leads_to bound bound.top place.path)))

-- the printed name of a cell
abbrev pub cell_name : Bound → CellAt → List ℕ
cell_name bound cell = dotted (names_along bound bound.top cell.path)

-- the printed names of the bits of the top's ports, in port order
abbrev pub top_bit_names : Bound → List (List ℕ)
top_bit_names bound = unwrap_or (option_map (λ top. port_bit_names top.ports) (slice_get bound.modules bound.top)) []

-- the printed name of a pin of a cell, among its inputs, its clock and its outputs
abbrev pub pin_name : CellTable → Bound → (CellRow → List (List ℕ)) → ℕ → ℕ → List ℕ
pin_name table bound pins cell pin =
    unwrap_or (option_map (λ found. dotted (names_along bound bound.top found.path ++ option_to_list (option_and_then (λ row. slice_get (pins row) pin) (slice_get table.rows found.row)))) (slice_get (cells_of bound) cell)) []

abbrev pub driver_name : CellTable → Bound → Driver → List ℕ
driver_name table bound (driver.Port port) = unwrap_or (slice_get (top_bit_names bound) port) []
driver_name table bound (driver.Out cell out) = pin_name table bound (λ row. row.outputs) cell out

abbrev pub reader_name : CellTable → Bound → Reader → List ℕ
reader_name table bound (reader.Pin cell pin) = pin_name table bound (λ row. row.inputs ++ option_to_list row.clock) cell pin
reader_name table bound (reader.Port port) = unwrap_or (slice_get (top_bit_names bound) port) []
