-- Where counted items begin, and in which of them a number lies.
use Rattle.std.specs.Prelude.{◌≡◌, ℕ, ◌+◌, ◌<◌, min, List, take, length, sum_by, slice_index, slice_index_or, EachIndex}
use Rattle.bind_forms.specs.declared.bound.BoundModule.{BoundModule}
use Rattle.bind_forms.specs.Bits.{width_of}
use Rattle.flat_places.specs.declared.size.Size.{Size}
use Rattle.flat_names.specs.declared.begins.Begins.{Begins}
use Rattle.flat_names.specs.Found.{size_bits}

-- how much the items before each one come to, and how much all come to, where no count goes further than one past its limit
pub record AreBegins {X : Type 0} (count : X → ℕ) (items : List X) (begins : List ℕ) : Type 0 where
  pub counted : length begins ≡ length items + 1
  pub each : EachIndex begins (λ k. slice_index begins k ≡ min (sum_by count (take k items)) 2000001)

-- where the bits of a module's wires and instances begin, where modules have these sizes
pub record IsBegun (sizes : List Size) (owner : BoundModule) (begins : Begins) : Type 0 where
  pub wires : AreBegins (λ wire. width_of wire.range) owner.wires begins.wires.items
  pub instances : AreBegins (size_bits sizes) owner.instances begins.instances.items

-- those of all modules
pub record AreBegun (sizes : List Size) (modules : List BoundModule) (begins : List Begins) : Type 0 where
  pub counted : length begins ≡ length modules
  pub each : (at : ℕ) (owner : BoundModule) (begin : Begins) → at < length modules → IsBegun sizes (slice_index_or modules at owner) (slice_index_or begins at begin)
