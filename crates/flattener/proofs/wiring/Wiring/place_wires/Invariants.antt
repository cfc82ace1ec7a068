use Rattle.std.proofs.Common.{◌≡◌, ◌+◌, drop}
use Rattle.flat_places.specs.Hierarchy.{bits_of}
use Rattle.flattener.proofs.wiring.Wiring.place_wires.Given as goal

abbrev pub invariant-loop-wire : goal.invariant-loop-wire
invariant-loop-wire l = l.places + bits_of (drop l.wire-index l.wires) ≡ l.initial.places + bits_of l.wires
