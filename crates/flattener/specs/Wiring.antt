-- What the walk over a bound source needs.
use Rattle.std.specs.Prelude.{ℕ, ◌+◌, ◌<◌, ◌^◌, List, length, slice_index}
use Rattle.std.specs.List.{All}
use Rattle.bind_forms.specs.declared.bound.BoundPart.{BoundPart}
use Rattle.bind_forms.specs.declared.bound.BoundLink.{BoundLink}
use Rattle.bind_forms.specs.declared.bound.BoundPort.{BoundPort}
use Rattle.flat_places.specs.Bits.{bit_numbers}

-- the wire of a part has an offset, and its bits have numbers below 2^32
pub record IsNumbered (offsets : List ℕ) (part : BoundPart) : Type 0 where
  pub there : part.wire < length offsets
  pub small : slice_index offsets part.wire + part.bit + part.count < 2 ^ 32

abbrev pub AreNumbered : List ℕ → List BoundPart → Type 0
AreNumbered offsets parts = All (IsNumbered offsets) parts

-- a link of a port that there is, which begins at an inner offset and whose bits have numbers below 2^32
pub record IsNumberedLink (ports : List BoundPort) (inner offsets : List ℕ) (link : BoundLink) : Type 0 where
  pub port : link.port < length ports
  pub wire : link.port < length inner
  pub parts : AreNumbered offsets link.parts
  pub small : slice_index inner link.port + length (bit_numbers offsets link.parts) < 2 ^ 32
