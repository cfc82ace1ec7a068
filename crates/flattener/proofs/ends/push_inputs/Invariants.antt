use Rattle.std.proofs.Common.{◌≡◌, ◌+◌, ◌≤◌, ◌++◌, drop, length}
use Rattle.std.specs.List.{flat_map, enumerate_from}
use Rattle.flattener.specs.Ends.{input_driver, input_drivers}
use Rattle.flattener.proofs.ends.push_inputs.Given as goal

abbrev pub invariant-loop-number : goal.invariant-loop-number
invariant-loop-number l = record {
  list : l.nets ++ flat_map input_driver (enumerate_from l.number (drop l.number l.ports)) ≡ l.initial.nets ++ input_drivers l.ports;
  room : length l.nets ≤ length l.initial.nets + l.number;
}
