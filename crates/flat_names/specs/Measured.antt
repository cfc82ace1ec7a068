-- A bound source with the sizes of its modules.
use Rattle.std.specs.Prelude.{◌≡◌, ℕ, ◌-◌, ◌≤◌, Some}
use Rattle.rsfq_ids.specs.WellFormed.{IsTable}
use Rattle.bind_forms.specs.declared.bound.BoundKind.{BoundKind}
use Rattle.bind_forms.specs.declared.bound.Bound.{Bound}
use Rattle.bind_forms.specs.WellFormed.{IsBound}
use Rattle.flat_places.specs.Hierarchy.{module_of, IsDeeper}
use Rattle.flat_places.specs.Sizes.{AreSizes}
use Rattle.flat_names.specs.declared.measured.MeasuredSource.{MeasuredSource}

-- a well-formed bound source over a well-formed table, with the sizes of its modules
pub record IsMeasured (source : MeasuredSource) : Type 0 where
  pub table : IsTable source.cells.now
  pub is_bound : IsBound source.cells.now source.bound.now
  pub sizes : AreSizes source.bound.now 64 source.sizes.now

-- the module that an instance is of, if it is of one, lies no deeper than one level less
abbrev pub IsWithin : Bound → ℕ → BoundKind → Type 0
IsWithin bound levels kind = (inner : ℕ) → module_of kind ≡ Some inner → (1 ≤ levels) × (¬ IsDeeper bound (levels - 1) inner)
