use Rattle.std.proofs.Common.{◌≡◌, take}
use Rattle.lrat_table.specs.Found.{given_at}
use Rattle.lrat_table.specs.Entries.{found_of, last_of}
use Rattle.lrat_table.proofs.table.ClauseTable.new.Given as goal

abbrev pub invariant-loop-clause : goal.invariant-loop-clause
invariant-loop-clause l = record {
  id : l.id ≡ l.clause-index;
  last : last_of 0 l.table ≡ l.clause-index;
  table : found_of l.table ≡ given_at (take l.clause-index l.clause-items);
}
