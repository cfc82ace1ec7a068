use Rattle.std.proofs.Common.{◌≡◌, ◌++◌, drop}
use Rattle.std.specs.List.{flat_map}
use Rattle.flattener.specs.Ends.{bits_of_port}
use Rattle.flattener.proofs.ends.port_bits.Given as goal

abbrev pub invariant-loop-port : goal.invariant-loop-port
invariant-loop-port l = l.bits ++ flat_map bits_of_port (drop l.port-index l.ports) ≡ flat_map bits_of_port l.ports
