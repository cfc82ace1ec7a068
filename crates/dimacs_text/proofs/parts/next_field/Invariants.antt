use Rattle.std.proofs.Common.{length, ◌-◌, ◌≡◌, ◌≤◌, drop}
use Rattle.dimacs_text.specs.Parts.{words, is_space}
use Rattle.dimacs_text.proofs.parts.next_field.Given as goal

abbrev pub invariant-more : goal.invariant-more
invariant-more l = record {
  low : l.at ≤ l.start;
  rest : words is_space l.at (drop l.at l.text) ≡ words is_space l.start (drop l.start l.text);
}

abbrev pub decreases-more : goal.decreases-more
decreases-more l = length l.text - l.start
