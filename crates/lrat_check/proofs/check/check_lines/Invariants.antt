use Rattle.std.proofs.Common.{length, ◌-◌, ◌+◌, ◌≡◌, ◌≤◌, drop}
use Rattle.dimacs_text.specs.Parts.{lines}
use Rattle.lrat_check.specs.Check.{text_fault, lines_fault}
use Rattle.lrat_check.specs.Tables.{known_of, HasNearTable}
use Rattle.lrat_check.proofs.check.check_lines.Given as goal

abbrev pub invariant-more : goal.invariant-more
invariant-more l = record {
  within : l.at ≤ length l.bytes + 1;
  count : l.line ≤ l.at;
  vars : l.checker.vars ≡ l.cnf.vars;
  near : HasNearTable l.checker;
  rest : text_fault l.cnf l.bytes ≡ lines_fault l.cnf.vars (known_of l.checker) l.line (lines l.at (drop l.at l.bytes));
}

abbrev pub decreases-more : goal.decreases-more
decreases-more l = length l.bytes - l.at
