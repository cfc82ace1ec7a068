use Rattle.std.proofs.Common.{length, ◌-◌, ◌≡◌, ◌≤◌, ◌+◌, drop}
use Rattle.dimacs_text.specs.Parts.{lines}
use Rattle.dimacs_text.specs.Reading.{without_comments}
use Rattle.dimacs_text.proofs.read.comments_end.Given as goal

abbrev pub invariant-more : goal.invariant-more
invariant-more l = record {
  within : l.at ≤ length l.bytes;
  rest : without_comments (lines 0 l.bytes) ≡ without_comments (lines l.at (drop l.at l.bytes));
}

abbrev pub decreases-more : goal.decreases-more
decreases-more l = length l.bytes - l.at
