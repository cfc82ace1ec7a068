use Rattle.std.proofs.Common.{◌≡◌, min, take}
use Rattle.flat_places.specs.Hierarchy.{bits_of}
use Rattle.flat_places.proofs.size.count_bits.Given as goal

abbrev pub invariant-loop-wire : goal.invariant-loop-wire
invariant-loop-wire l = l.bits ≡ min (bits_of (take l.wire-index l.wires)) 2000001
