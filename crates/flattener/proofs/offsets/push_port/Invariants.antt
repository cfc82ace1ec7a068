use Rattle.std.proofs.Common.{◌≡◌, ◌++◌, drop, map}
use Rattle.std.specs.List.{enumerate_from}
use Rattle.flat_places.specs.Bits.{port_link}
use Rattle.flattener.proofs.offsets.push_port.Given as goal

abbrev pub invariant-loop-bit : goal.invariant-loop-bit
invariant-loop-bit l = l.links.items ++ map (port_link l.start l.output) (enumerate_from l.bit (drop l.bit l.place-items)) ≡ l.initial.links.items ++ map (port_link l.start l.output) (enumerate_from 0 l.place-items)
