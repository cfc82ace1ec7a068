-- The hierarchy of a bound source: which modules stand in which, how deep they lie, and how many cells and wire bits are inside.
use Rattle.std.specs.Prelude.{◌≡◌, ℕ, zero, suc, ◌+◌, ◌<◌, List, [], ◌∷◌, length, sum_by, slice_get, Option, Some, None, unwrap_or, IsSome}
use Rattle.std.specs.Option.{option_map, option_and_then}
use Rattle.bind_forms.specs.declared.bound.BoundKind.{BoundKind}
use Rattle.bind_forms.specs.declared.bound.BoundKind.TheVariants.{Module, Cell}
use Rattle.bind_forms.specs.declared.bound.BoundInstance.{BoundInstance}
use Rattle.bind_forms.specs.declared.bound.BoundWire.{BoundWire}
use Rattle.bind_forms.specs.declared.bound.Bound.{Bound}
use Rattle.bind_forms.specs.Bits.{width_of}

-- the instances in a module
abbrev pub instances_of : Bound → ℕ → List BoundInstance
instances_of bound at = unwrap_or (option_map (λ owner. owner.instances) (slice_get bound.modules at)) []

-- the wires of a module
abbrev pub wires_of : Bound → ℕ → List BoundWire
wires_of bound at = unwrap_or (option_map (λ owner. owner.wires) (slice_get bound.modules at)) []

-- the module that an instance is of, if it is no cell
abbrev pub module_of : BoundKind → Option ℕ
module_of (Module at) = Some at
module_of (Cell row) = None

-- A path of instances is a list of their places: the first is an instance in the module where the path begins, each next one an instance in the module of the one before.
-- Where the path leads: the module of its last instance, or the one where it begins.
abbrev pub leads_to : Bound → ℕ → List ℕ → Option ℕ
leads_to bound at [] = Some at
leads_to bound at (instance ∷ path) =
    option_and_then (λ inner. leads_to bound inner path) (option_and_then (λ i. module_of i.kind) (slice_get (instances_of bound at) instance))

-- modules lie more than so many levels deep, where the module itself is level 1: a path of that many instances of modules leads on from it
abbrev pub IsDeeper : Bound → ℕ → ℕ → Type 0
IsDeeper bound levels at = (path : List ℕ) × (length path ≡ levels) × IsSome (leads_to bound at path)

-- how many cells an instance comes to, where `inside` says how many are inside a module
abbrev pub cells_by : (ℕ → ℕ) → BoundKind → ℕ
cells_by inside (Module at) = inside at
cells_by inside (Cell row) = 1

-- How many cells are inside a module, as deep as so many levels: one for each instance of a cell, and those inside each instance of a module.
unfoldable pub cell_count : Bound → ℕ → ℕ → ℕ
cell_count bound zero at = 0
cell_count bound (suc levels) at = sum_by (λ instance. cells_by (cell_count bound levels) instance.kind) (instances_of bound at)

-- how many bits the wires have
abbrev pub bits_of : List BoundWire → ℕ
bits_of wires = sum_by (λ wire. width_of wire.range) wires

-- how many wire bits an instance comes to, where `inside` says how many are inside a module
abbrev pub bits_by : (ℕ → ℕ) → BoundKind → ℕ
bits_by inside (Module at) = inside at
bits_by inside (Cell row) = 0

-- How many wire bits are inside a module, as deep as so many levels: those of its own wires, its ports among them, and those inside each instance of a module.
unfoldable pub bit_count : Bound → ℕ → ℕ → ℕ
bit_count bound zero at = 0
bit_count bound (suc levels) at = bits_of (wires_of bound at) + sum_by (λ instance. bits_by (bit_count bound levels) instance.kind) (instances_of bound at)

-- each instance is of a cell or of a module that there is
abbrev pub HasModules : Bound → Type 0
HasModules bound = (at place inner : ℕ) (instance : BoundInstance) → slice_get (instances_of bound at) place ≡ Some instance → module_of instance.kind ≡ Some inner → inner < length bound.modules
