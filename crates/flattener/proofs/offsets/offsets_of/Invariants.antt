use Rattle.std.proofs.Common.{◌≡◌, ◌+◌, ◌++◌, drop}
use Rattle.flat_places.specs.Hierarchy.{bits_of}
use Rattle.flat_places.specs.Bits.{offsets_from}
use Rattle.flattener.proofs.offsets.offsets_of.Given as goal

abbrev pub invariant-loop-wire : goal.invariant-loop-wire
invariant-loop-wire l = record {
  list : l.offsets.items ++ offsets_from l.next (drop l.wire-index l.wires) ≡ offsets_from l.base l.wires;
  room : l.next + bits_of (drop l.wire-index l.wires) ≡ l.base + bits_of l.wires;
}
