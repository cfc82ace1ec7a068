use Rattle.std.proofs.Common.{◌≡◌, ◌++◌, drop}
use Rattle.std.specs.List.{flat_map, enumerate_from}
use Rattle.flattener.specs.Ends.{input_place, input_places}
use Rattle.flattener.proofs.ends.list_starts.Given as goal

abbrev pub invariant-loop-number : goal.invariant-loop-number
invariant-loop-number l = l.starts.items ++ flat_map input_place (enumerate_from l.number (drop l.number l.ports)) ≡ input_places l.ports
