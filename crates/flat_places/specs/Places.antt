-- A bound source written out: the wire bits and the cells of all modules that the top comes to, instance by instance, depth first in text order.
use Rattle.std.specs.Prelude.{ℕ, zero, suc, ◌+◌, List, [], ◌∷◌, ◌++◌, map}
use Rattle.std.specs.List.{flat_map, enumerate_from, range_with_len}
use Rattle.bind_forms.specs.declared.bound.BoundKind.{BoundKind}
use Rattle.bind_forms.specs.declared.bound.BoundKind.TheVariants.{Module, Cell}
use Rattle.bind_forms.specs.declared.bound.BoundWire.{BoundWire}
use Rattle.bind_forms.specs.declared.bound.BoundPort.{BoundPort}
use Rattle.bind_forms.specs.declared.bound.BoundPart.{BoundPart}
use Rattle.bind_forms.specs.declared.bound.Bound.{Bound}
use Rattle.bind_forms.specs.Bits.{width_of}
use Rattle.flat_places.specs.Hierarchy.{instances_of, wires_of}

-- A place: one bit of a wire in the module that a path of instances leads to. Bits count from the right end of the wire's range.
pub record Place : Type 0 where
  pub path : List ℕ
  pub wire : ℕ
  pub bit : ℕ

-- A cell: the path of instances that leads to it, its own instance last, and its row of the cell table.
pub record CellAt : Type 0 where
  pub path : List ℕ
  pub row : ℕ

-- the places of a module's own wires, the bits of each from the right
abbrev pub own_places : List BoundWire → List Place
own_places wires = flat_map (λ (wire, declared). map (λ bit. record { path = []; wire = wire; bit = bit }) (range_with_len 0 (width_of declared.range))) (enumerate_from 0 wires)

-- the place of a module's instance, seen from the module
abbrev pub deeper_place : ℕ → Place → Place
deeper_place instance place = record { path = instance ∷ place.path; wire = place.wire; bit = place.bit }

-- the places of what an instance is of, where `inside` says which are inside a module
abbrev pub places_by : (ℕ → List Place) → ℕ → BoundKind → List Place
places_by inside instance (Module at) = map (deeper_place instance) (inside at)
places_by inside instance (Cell row) = []

-- The places inside a module, as deep as so many levels: those of its own wires, and then those inside each instance, by their paths from the module.
unfoldable pub places_in : Bound → ℕ → ℕ → List Place
places_in bound zero at = []
places_in bound (suc levels) at = own_places (wires_of bound at) ++ flat_map (λ (instance, declared). places_by (places_in bound levels) instance declared.kind) (enumerate_from 0 (instances_of bound at))

-- the cell of a module's instance, seen from the module
abbrev pub deeper_cell : ℕ → CellAt → CellAt
deeper_cell instance cell = record { path = instance ∷ cell.path; row = cell.row }

-- the cells that an instance comes to, where `inside` says which are inside a module
abbrev pub cells_by : (ℕ → List CellAt) → ℕ → BoundKind → List CellAt
cells_by inside instance (Module at) = map (deeper_cell instance) (inside at)
cells_by inside instance (Cell row) = record { path = instance ∷ []; row = row } ∷ []

-- The cells inside a module, as deep as so many levels, each in the place of its instance.
unfoldable pub cells_in : Bound → ℕ → ℕ → List CellAt
cells_in bound zero at = []
cells_in bound (suc levels) at = flat_map (λ (instance, declared). cells_by (cells_in bound levels) instance declared.kind) (enumerate_from 0 (instances_of bound at))

-- all places and all cells; modules lie at most 64 deep
abbrev pub places_of : Bound → List Place
places_of bound = places_in bound 64 bound.top

abbrev pub cells_of : Bound → List CellAt
cells_of bound = cells_in bound 64 bound.top

-- the bits of parts from the right, each by its wire and its bit
abbrev pub part_bits : List BoundPart → List (ℕ × ℕ)
part_bits parts = flat_map (λ part. map (λ bit. (part.wire, part.bit + bit)) (range_with_len 0 part.count)) parts

-- the places of a module's port bits, in port order; its wires begin with its ports
abbrev pub port_places : List BoundPort → List Place
port_places ports = flat_map (λ (wire, port). map (λ bit. record { path = []; wire = wire; bit = bit }) (range_with_len 0 (width_of port.range))) (enumerate_from 0 ports)
