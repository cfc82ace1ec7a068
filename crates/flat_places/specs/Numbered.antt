-- The numbers of places, of hops and of the places at pins, where the own wires of a module begin at a start.
use Rattle.std.specs.Prelude.{ℕ, ◌+◌, List, [], ◌∷◌, map, length, slice_get, Option, None, unwrap_or}
use Rattle.std.specs.Option.{option_map, option_and_then}
use Rattle.std.specs.List.{range_with_len}
use Rattle.rsfq_ids.specs.declared.table.CellTable.{CellTable}
use Rattle.rsfq_ids.specs.declared.table.CellRow.{CellRow}
use Rattle.rsfq_ids.specs.declared.circuit.FlatCell.{FlatCell}
use Rattle.flat_aliases.specs.declared.link.Link.{Link}
use Rattle.bind_forms.specs.declared.bound.Bound.{Bound}
use Rattle.flat_places.specs.Hierarchy.{instances_of, wires_of, module_of, bits_of}
use Rattle.flat_places.specs.Places.{Place, CellAt, deeper_place}
use Rattle.flat_places.specs.Hops.{Hop}
use Rattle.flat_places.specs.Numbers.{number_in}
use Rattle.flat_places.specs.Names.{names_along, dotted}
use Rattle.flat_places.specs.Paths.{longer}
use Rattle.flat_places.specs.Bits.{offsets_from, linked_parts}
use Rattle.flat_places.specs.Pieces.{Piece, inside_piece}

-- the number of a place inside a module
abbrev pub number_from : Bound → ℕ → ℕ → ℕ → Place → ℕ
number_from bound levels at start place = start + number_in bound levels at place.path place.wire place.bit

-- a hop, as a link between numbers
abbrev pub numbered_hop : Bound → ℕ → ℕ → ℕ → Hop → Link
numbered_hop bound levels at start hop = record { from = number_from bound levels at start hop.from; to = number_from bound levels at start hop.to }

-- what is inside a module whose own wires begin at a start and come right before it
abbrev pub inside_from : CellTable → Bound → ℕ → ℕ → Option (List ℕ) → ℕ → Piece
inside_from table bound levels at path start = inside_piece table bound levels at path (offsets_from start (wires_of bound at)) (start + bits_of (wires_of bound at))

-- a cell inside a module that a path leads to, by its printed path and its row
abbrev pub printed_cell : Bound → ℕ → Option (List ℕ) → CellAt → FlatCell
printed_cell bound at path cell = record { path = longer path (dotted (names_along bound at cell.path)); row = cell.row }

-- the place at a pin of the cell that a path of instances leads to from a module, if the pin is linked
abbrev pub pin_place : Bound → ℕ → List ℕ → ℕ → Option Place
pin_place bound at [] port = None
pin_place bound at (instance ∷ []) port =
    option_and_then (λ declared. option_map (λ part. record { path = []; wire = part.wire; bit = part.bit }) (slice_get (linked_parts declared.links port) 0)) (slice_get (instances_of bound at) instance)
pin_place bound at (instance ∷ (next ∷ path)) port =
    option_and_then (λ inner. option_map (deeper_place instance) (pin_place bound inner (next ∷ path) port)) (option_and_then (λ declared. module_of declared.kind) (slice_get (instances_of bound at) instance))

-- the numbers of the places at as many pins of a cell, where its row says from which one on and how many
abbrev pub pin_numbers : CellTable → Bound → ℕ → ℕ → ℕ → (CellRow → ℕ) → (CellRow → ℕ) → CellAt → List (Option ℕ)
pin_numbers table bound levels at start first count cell =
    unwrap_or (option_map (λ row. map (λ port. option_map (number_from bound levels at start) (pin_place bound at cell.path port)) (range_with_len (first row) (count row))) (slice_get table.rows cell.row)) []

-- the reading pins of a row begin at 0, its outputs behind them
abbrev pub from_none : CellRow → ℕ
from_none row = 0

abbrev pub outputs_of : CellRow → ℕ
outputs_of row = length row.outputs
