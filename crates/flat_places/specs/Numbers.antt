-- The number of a place among those inside a module, computed from its path, wire and bit.
use Rattle.std.specs.Prelude.{ℕ, zero, suc, ◌+◌, List, [], ◌∷◌, take, sum_by, slice_get, unwrap_or}
use Rattle.std.specs.Option.{option_map, option_and_then}
use Rattle.bind_forms.specs.declared.bound.Bound.{Bound}
use Rattle.flat_places.specs.Hierarchy.{instances_of, wires_of, module_of, bits_of, bits_by, bit_count}

-- how many wire bits of a module come before those of one of its instances
abbrev pub bits_before : Bound → ℕ → ℕ → ℕ → ℕ
bits_before bound levels at instance =
    bits_of (wires_of bound at) + sum_by (λ declared. bits_by (bit_count bound levels) declared.kind) (take instance (instances_of bound at))

-- The number of the place with this path, wire and bit among the places inside a module, as deep as so many levels: the bits of the wires before its own,
-- and in each module on the way the bits of its own wires and of all instances before the one that the path goes through.
unfoldable pub number_in : Bound → ℕ → ℕ → List ℕ → ℕ → ℕ → ℕ
number_in bound levels at [] wire bit = bits_of (take wire (wires_of bound at)) + bit
number_in bound zero at (instance ∷ path) wire bit = 0
number_in bound (suc levels) at (instance ∷ path) wire bit =
    bits_before bound levels at instance
    + unwrap_or (option_map (λ inner. number_in bound levels inner path wire bit) (option_and_then (λ declared. module_of declared.kind) (slice_get (instances_of bound at) instance))) 0
