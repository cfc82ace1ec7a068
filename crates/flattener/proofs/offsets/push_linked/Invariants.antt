use Rattle.std.proofs.Common.{◌≡◌, ◌-◌, ◌++◌}
use Rattle.flat_places.specs.Bits.{linked_numbers}
use Rattle.flattener.proofs.offsets.push_linked.Given as goal

abbrev pub invariant-loop-port : goal.invariant-loop-port
invariant-loop-port l = l.places.items ≡ l.initial.places.items ++ linked_numbers l.offsets l.links l.first (l.port - l.first)
