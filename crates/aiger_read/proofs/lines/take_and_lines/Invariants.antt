use Rattle.std.proofs.Common.{◌≡◌, ◌-◌, ◌++◌, []}
use Rattle.aiger_read.specs.Lines.{AreMarks, lhs_of, and_line_at, more_at}
use Rattle.aiger_read.proofs.lines.take_and_lines.Given as goal

abbrev pub invariant-loop : goal.invariant-loop
invariant-loop l = record {
  same : more_at (λ front. and_line_at l.top (l.fn.definitions.literals ++ lhs_of front)) (l.count - l.counter) l.lines l.rest
      ≡ more_at (λ front. and_line_at l.top (l.fn.definitions.literals ++ lhs_of front)) l.count [] l.bytes;
  literals : l.definitions.literals ≡ l.fn.definitions.literals ++ lhs_of l.lines;
  marks : AreMarks l.top l.definitions.literals l.definitions.marks.items;
}
