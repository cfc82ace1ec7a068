use Rattle.std.proofs.Common.{length, ◌-◌, ◌≡◌, ◌≤◌, ◌+◌, drop}
use Rattle.dimacs_text.specs.Parts.{lines}
use Rattle.dimacs_text.specs.Reading.{after_lines, nothing_said}
use Rattle.dimacs_text.proofs.read.read_clauses.Given as goal

abbrev pub invariant-more : goal.invariant-more
invariant-more l = after_lines l.head.vars nothing_said (lines l.start (drop l.start l.bytes)) ≡ after_lines l.head.vars l.clauses (lines l.at (drop l.at l.bytes))

abbrev pub decreases-more : goal.decreases-more
decreases-more l = length l.bytes - l.at
