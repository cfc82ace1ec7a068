-- The instances that hold a cell or a wire bit.
use Rattle.std.specs.Prelude.{ℕ, Bool, true, cond, nat_lt, ◌||◌, List, [], ◌∷◌, slice_index_or}
use Rattle.std.specs.List.{flat_map, enumerate_from}
use Rattle.bind_forms.specs.declared.bound.BoundKind.{BoundKind}
use Rattle.bind_forms.specs.declared.bound.BoundKind.TheVariants.{Module, Cell}
use Rattle.bind_forms.specs.declared.bound.BoundInstance.{BoundInstance}
use Rattle.flat_places.specs.declared.size.Size.{Size}
use Rattle.flat_places.specs.Rounds.{empty_size}

-- a cell, or a module that holds a cell or a wire bit, where modules have these sizes
abbrev pub is_solid : List Size → BoundKind → Bool
is_solid sizes (Module at) = nat_lt 0 (slice_index_or sizes at empty_size).cells || nat_lt 0 (slice_index_or sizes at empty_size).bits
is_solid sizes (Cell row) = true

-- the places of the instances that hold something, in order
abbrev pub solid_place : List Size → ℕ × BoundInstance → List ℕ
solid_place sizes (n, instance) = cond (is_solid sizes instance.kind) (n ∷ []) []

abbrev pub solid_places : List Size → List BoundInstance → List ℕ
solid_places sizes instances = flat_map (solid_place sizes) (enumerate_from 0 instances)
