-- A place and its printed name, found by its number.
use Rattle.std.specs.Prelude.{◌≡◌, ℕ, ◌+◌, ◌<◌, List, ◌++◌, take, sum_by, slice_get, slice_index_or, Option, Some, option_to_list}
use Rattle.std.specs.Option.{option_map, option_and_then}
use Rattle.bind_forms.specs.declared.bound.BoundWire.{BoundWire}
use Rattle.bind_forms.specs.declared.bound.BoundInstance.{BoundInstance}
use Rattle.bind_forms.specs.declared.bound.BoundKind.TheVariants.{Module}
use Rattle.bind_forms.specs.declared.bound.Bound.{Bound}
use Rattle.bind_forms.specs.Bits.{width_of, bit_name}
use Rattle.flat_places.specs.declared.size.Size.{Size}
use Rattle.flat_places.specs.Rounds.{empty_size}
use Rattle.flat_places.specs.Hierarchy.{wires_of, leads_to, bits_of, bits_by}
use Rattle.flat_places.specs.Places.{Place}
use Rattle.flat_places.specs.Drives.{IsPlaceIn}
use Rattle.flat_places.specs.Numbers.{number_in}
use Rattle.flat_places.specs.Names.{names_along, dotted}
use Rattle.flat_places.specs.Paths.{longer}
use Rattle.flat_names.specs.declared.finding.Found.{Found}
use Rattle.flat_names.specs.declared.finding.Inside.{Inside}

-- the number is that of a bit of a wire
pub record IsInWire (wires : List BoundWire) (number : ℕ) (found : Found) : Type 0 where
  pub wire : BoundWire
  pub there : slice_get wires found.at ≡ Some wire
  pub numbered : number ≡ bits_of (take found.at wires) + found.rest
  pub within : found.rest < width_of wire.range

-- how many wire bits an instance comes to, where modules have these sizes
abbrev pub size_bits : List Size → BoundInstance → ℕ
size_bits sizes instance = bits_by (λ at. (slice_index_or sizes at empty_size).bits) instance.kind

-- the number is that of a place in an instance of a module
pub record IsInInstance (sizes : List Size) (instances : List BoundInstance) (number : ℕ) (found : Inside) : Type 0 where
  pub instance : BoundInstance
  pub there : slice_get instances found.at ≡ Some instance
  pub kind : instance.kind ≡ Module found.inner
  pub numbered : number ≡ sum_by (size_bits sizes) (take found.at instances) + found.rest
  pub within : found.rest < (slice_index_or sizes found.inner empty_size).bits

-- the printed name of a place in a module that a path leads to
abbrev pub printed_place : Bound → ℕ → Option (List ℕ) → Place → List ℕ
printed_place bound at path place =
    longer path (dotted (names_along bound at place.path
    ++ option_to_list (option_and_then (λ inner. option_map (λ wire. bit_name wire.name wire.range place.bit) (slice_get (wires_of bound inner) place.wire)) (leads_to bound at place.path))))

-- the printed name of the place with a number in a module that a path leads to
pub record IsPlaceNamed (bound : Bound) (levels at : ℕ) (path : Option (List ℕ)) (number : ℕ) (name : List ℕ) : Type 0 where
  pub place : Place
  pub is_in : IsPlaceIn bound at place
  pub numbered : number ≡ number_in bound levels at place.path place.wire place.bit
  pub printed : name ≡ printed_place bound at path place
