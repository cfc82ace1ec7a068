-- The size of a module as it is kept: counts that stop behind their limits.
use Rattle.std.specs.Prelude.{◌≡◌, ℕ, ◌<◌, ◌≤◌, ◌↔◌, IsTrue, min, List, length, slice_get, Some}
use Rattle.bind_forms.specs.declared.bound.Bound.{Bound}
use Rattle.flat_places.specs.declared.size.Size.{Size}
use Rattle.flat_places.specs.declared.limits.SizeFault.{SizeFault}
use Rattle.flat_places.specs.declared.limits.SizeFault.TheVariants.{Nesting, Cells, Wires, Memory}
use Rattle.flat_places.specs.Hierarchy.{IsDeeper, cell_count, bit_count}

-- The size of a module, as deep as so many levels: whether modules lie deeper, and how many cells and wire bits are inside, where the counts go no further than one past their limits.
pub record IsSizeOf (bound : Bound) (levels at : ℕ) (size : Size) : Type 0 where
  pub is_deep : IsTrue size.deep ↔ IsDeeper bound levels at
  pub has_cells : size.cells ≡ min (cell_count bound levels at) 100001
  pub has_bits : size.bits ≡ min (bit_count bound levels at) 2000001

-- the sizes of all modules
pub record AreSizes (bound : Bound) (levels : ℕ) (sizes : List Size) : Type 0 where
  pub count : length sizes ≡ length bound.modules
  pub each : (at : ℕ) (size : Size) → slice_get sizes at ≡ Some size → IsSizeOf bound levels at size

-- The circuit is within its limits: modules at most 64 deep, at most 100,000 cells and 2,000,000 wire bits.
pub record IsWithinLimits (bound : Bound) : Type 0 where
  pub nesting : ¬ IsDeeper bound 64 bound.top
  pub cells : cell_count bound 64 bound.top ≤ 100000
  pub wires : bit_count bound 64 bound.top ≤ 2000000

-- Which limit is passed first: that of the nesting, the cells, the wire bits, and the first number that passes it. Want of memory is free.
abbrev pub PassesLimit : Bound → SizeFault → Type 0
PassesLimit bound (Nesting count) = (count ≡ 65) × IsDeeper bound 64 bound.top
PassesLimit bound (Cells count) = (count ≡ 100001) × (¬ IsDeeper bound 64 bound.top) × (100000 < cell_count bound 64 bound.top)
PassesLimit bound (Wires count) =
    (count ≡ 2000001) × (¬ IsDeeper bound 64 bound.top) × (cell_count bound 64 bound.top ≤ 100000) × (2000000 < bit_count bound 64 bound.top)
PassesLimit bound Memory = Unit {0}
