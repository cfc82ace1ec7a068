use Rattle.std.proofs.Common.{length, ◌-◌, ◌≡◌, ◌≤◌, ◌+◌, drop}
use Rattle.dimacs_text.specs.Parts.{words, is_blank}
use Rattle.dimacs_text.specs.Reading.{after_words}
use Rattle.dimacs_text.proofs.clauses.Clauses.read_words.Given as goal

abbrev pub invariant-more : goal.invariant-more
invariant-more l = record {
  within : l.at ≤ length l.line + 1;
  rest : after_words l.vars l.fn.self (words is_blank l.start l.line) ≡ after_words l.vars l.self (words is_blank (l.start + l.at) (drop l.at l.line));
}

abbrev pub decreases-more : goal.decreases-more
decreases-more l = length l.line - l.at
