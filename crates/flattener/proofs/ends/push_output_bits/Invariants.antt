use Rattle.std.proofs.Common.{◌≡◌, ◌++◌, drop}
use Rattle.std.specs.List.{flat_map, enumerate_from}
use Rattle.flattener.specs.Ends.{output_reader, output_readers}
use Rattle.flattener.proofs.ends.push_output_bits.Given as goal

abbrev pub invariant-loop-number : goal.invariant-loop-number
invariant-loop-number l = l.readers.items ++ flat_map output_reader (enumerate_from l.number (drop l.number l.ports)) ≡ l.initial.readers.items ++ output_readers l.ports
