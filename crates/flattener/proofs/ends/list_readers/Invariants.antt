use Rattle.std.proofs.Common.{◌≡◌, ◌++◌, drop}
use Rattle.std.specs.List.{flat_map, enumerate_from}
use Rattle.flattener.specs.Ends.{cell_readers}
use Rattle.flattener.proofs.ends.list_readers.Given as goal

abbrev pub invariant-loop-number : goal.invariant-loop-number
invariant-loop-number l = l.readers.items ++ flat_map (cell_readers l.table) (enumerate_from l.number (drop l.number l.cells)) ≡ flat_map (cell_readers l.table) (enumerate_from 0 l.cells)
