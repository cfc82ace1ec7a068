use Rattle.std.proofs.Common.{◌≡◌, ◌++◌, drop}
use Rattle.std.specs.List.{flat_map, enumerate_from}
use Rattle.flattener.specs.Ends.{output_place, output_places}
use Rattle.flattener.proofs.ends.list_reads.Given as goal

abbrev pub invariant-loop-number : goal.invariant-loop-number
invariant-loop-number l = l.reads.items ++ flat_map output_place (enumerate_from l.number (drop l.number l.ports)) ≡ l.initial.reads.items ++ output_places l.ports
