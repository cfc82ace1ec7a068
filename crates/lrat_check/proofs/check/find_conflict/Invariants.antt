use Rattle.std.proofs.Common.{◌≡◌, drop, length}
use Rattle.proof_arena.specs.Table.{falses_of}
use Rattle.lrat_check.specs.Check.{hints_fault}
use Rattle.lrat_table.specs.Entries.{found_of}
use Rattle.lrat_check.proofs.check.find_conflict.Given as goal

abbrev pub invariant-loop-hint : goal.invariant-loop-hint
invariant-loop-hint l = record {
  size : length l.marks.table ≡ length l.fn.marks.table;
  rest : hints_fault (found_of l.table) (falses_of l.fn.marks) l.hints ≡ hints_fault (found_of l.table) (falses_of l.marks) (drop l.hint-index l.hints);
}
