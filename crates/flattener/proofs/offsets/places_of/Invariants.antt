use Rattle.std.proofs.Common.{◌≡◌, ◌++◌, drop}
use Rattle.flat_places.specs.Bits.{bit_numbers}
use Rattle.flattener.proofs.offsets.places_of.Given as goal

abbrev pub invariant-loop-part : goal.invariant-loop-part
invariant-loop-part l = l.places.items ++ bit_numbers l.offsets (drop l.part-index l.parts) ≡ bit_numbers l.offsets l.parts
