use Rattle.std.proofs.Common.{◌≡◌, drop}
use Rattle.lrat_check.specs.Check.{deleted}
use Rattle.lrat_table.specs.Entries.{found_of, last_of}
use Rattle.lrat_check.proofs.check.Checker.delete.Given as goal

abbrev pub invariant-loop-id : goal.invariant-loop-id
invariant-loop-id l = record {
  vars : l.self.vars ≡ l.fn.self.vars;
  marks : l.self.marks ≡ l.fn.self.marks;
  reach : l.self.reach ≡ l.fn.self.reach;
  last : last_of 0 l.self.table ≡ last_of 0 l.fn.self.table;
  refuted : l.self.refuted ≡ l.fn.self.refuted;
  rest : deleted (found_of l.fn.self.table) l.ids ≡ deleted (found_of l.self.table) (drop l.id-index l.ids);
}
