use Rattle.std.proofs.Common.{◌≡◌, ◌+◌, ◌*◌, ◌≤◌, ◌++◌, drop, length}
use Rattle.std.specs.List.{flat_map, enumerate_from}
use Rattle.flattener.specs.Ends.{input_drivers, cell_drivers}
use Rattle.flattener.proofs.ends.list_drivers.Given as goal

abbrev pub invariant-loop-number : goal.invariant-loop-number
invariant-loop-number l = record {
  list : l.nets ++ flat_map (cell_drivers l.table) (enumerate_from l.number (drop l.number l.cells)) ≡ input_drivers l.ports ++ flat_map (cell_drivers l.table) (enumerate_from 0 l.cells);
  room : length l.nets ≤ length l.ports + 2 * l.number;
}
