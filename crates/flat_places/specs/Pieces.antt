-- What the walk over a bound source writes out, piece by piece.
use Rattle.std.specs.Prelude.{ℕ, zero, suc, ◌+◌, ◌-◌, List, [], ◌∷◌, ◌++◌, length, slice_get, slice_index, Option, Some, unwrap_or, option_to_list}
use Rattle.std.specs.Option.{option_map}
use Rattle.std.specs.List.{flat_map}
use Rattle.rsfq_ids.specs.declared.table.CellTable.{CellTable}
use Rattle.rsfq_ids.specs.declared.table.CellRow.{CellRow}
use Rattle.rsfq_ids.specs.declared.circuit.FlatCell.{FlatCell}
use Rattle.flat_aliases.specs.declared.link.Link.{Link}
use Rattle.bind_forms.specs.declared.bound.BoundKind.{BoundKind}
use Rattle.bind_forms.specs.declared.bound.BoundKind.TheVariants.{Module, Cell}
use Rattle.bind_forms.specs.declared.bound.BoundLink.{BoundLink}
use Rattle.bind_forms.specs.declared.bound.BoundPort.{BoundPort}
use Rattle.bind_forms.specs.declared.bound.BoundInstance.{BoundInstance}
use Rattle.bind_forms.specs.declared.bound.BoundModule.{BoundModule}
use Rattle.bind_forms.specs.declared.bound.Bound.{Bound}
use Rattle.flat_places.specs.Hierarchy.{bits_of}
use Rattle.flat_places.specs.Paths.{longer}
use Rattle.flat_places.specs.Assigns.{different}
use Rattle.flat_places.specs.Bits.{offsets_from, assign_links, port_links, linked_numbers}

-- A piece of what is written out: how many places, which follows which, the cells, and the places at their reading pins and at their outputs.
pub record Piece : Type 0 where
  pub places : ℕ
  pub links : List Link
  pub cells : List FlatCell
  pub reads : List (Option ℕ)
  pub outputs : List (Option ℕ)

abbrev pub empty : Piece
empty = record { places = 0; links = []; cells = []; reads = []; outputs = [] }

-- a piece, and another behind it
abbrev pub joined : Piece → Piece → Piece
joined one other = record { places = one.places + other.places; links = one.links ++ other.links; cells = one.cells ++ other.cells; reads = one.reads ++ other.reads; outputs = one.outputs ++ other.outputs }

abbrev pub only_places : ℕ → Piece
only_places count = record { places = count; links = []; cells = []; reads = []; outputs = [] }

abbrev pub only_links : List Link → Piece
only_links links = record { places = 0; links = links; cells = []; reads = []; outputs = [] }

-- how many pins of a row read: its inputs and its clock
abbrev pub reading_of : CellRow → ℕ
reading_of row = length row.inputs + length (option_to_list row.clock)

-- a cell, by its path and its row
abbrev pub cell_piece : List ℕ → ℕ → CellRow → List BoundLink → List ℕ → Piece
cell_piece path number row links offsets = record {
  places = 0;
  links = [];
  cells = record { path = path; row = number } ∷ [];
  reads = linked_numbers offsets links 0 (reading_of row);
  outputs = linked_numbers offsets links (reading_of row) (length row.outputs);
}

-- the links of a link of an instance, whose ports begin at the `inner` offsets
abbrev pub links_of_link : List BoundPort → List ℕ → List ℕ → BoundLink → List Link
links_of_link ports inner offsets link = flat_map (λ (port : BoundPort). port_links offsets (slice_index inner link.port) port.output link.parts) (option_to_list (slice_get ports link.port))

-- a module's own wires from a base on, the links of an instance with them, and what is inside
abbrev pub module_piece : (List ℕ → ℕ → Piece) → List ℕ → ℕ → BoundModule → List BoundLink → Piece
module_piece inside offsets base owner links =
    joined (only_places (bits_of owner.wires)) (joined (only_links (flat_map (links_of_link owner.ports (offsets_from base owner.wires) offsets) links)) (inside (offsets_from base owner.wires) (base + bits_of owner.wires)))

-- What an instance comes to from a base on, where `inside` says what is inside a module whose own wires begin at given offsets.
abbrev pub instance_piece : CellTable → Bound → (ℕ → Option (List ℕ) → List ℕ → ℕ → Piece) → Option (List ℕ) → List ℕ → ℕ → List ℕ → List BoundLink → BoundKind → Piece
instance_piece table bound inside path offsets base name links (Module at) = unwrap_or (option_map (λ owner. module_piece (inside at (Some (longer path name))) offsets base owner links) (slice_get bound.modules at)) empty
instance_piece table bound inside path offsets base name links (Cell number) = unwrap_or (option_map (λ row. cell_piece (longer path name) number row links offsets) (slice_get table.rows number)) empty

-- what instances come to one after another
abbrev pub pieces_from : (ℕ → BoundInstance → Piece) → ℕ → List BoundInstance → Piece
pieces_from one base [] = empty
pieces_from one base (instance ∷ instances) = joined (one base instance) (pieces_from one (base + (one base instance).places) instances)

-- what is inside a module, but for its own wires, as deep as so many levels
unfoldable pub inside_piece : CellTable → Bound → ℕ → ℕ → Option (List ℕ) → List ℕ → ℕ → Piece
inside_piece table bound zero at path offsets base = empty
inside_piece table bound (suc levels) at path offsets base = unwrap_or (option_map (λ owner.
    joined (only_links (flat_map (assign_links offsets) (different owner.assigns)))
    (pieces_from (λ from instance. instance_piece table bound (inside_piece table bound levels) path offsets from instance.name instance.links instance.kind) base owner.instances)) (slice_get bound.modules at)) empty

-- what an instance comes to from a base on, where modules inside it are written out as deep as one level less
abbrev pub instance_at : CellTable → Bound → ℕ → Option (List ℕ) → List ℕ → ℕ → BoundInstance → Piece
instance_at table bound levels path offsets base instance = instance_piece table bound (inside_piece table bound (levels - 1)) path offsets base instance.name instance.links instance.kind
