use Rattle.std.proofs.Common.{length, ◌-◌, ◌≡◌, ◌≤◌, drop}
use Rattle.dimacs_text.specs.Parts.{words, is_space}
use Rattle.lrat_lines.specs.Lines.{list_of}
use Rattle.lrat_lines.proofs.FieldSays.{before}
use Rattle.lrat_lines.proofs.field.read_list.Given as goal

abbrev pub invariant-more : goal.invariant-more
invariant-more l = record {
  within : l.at ≤ length l.line;
  rest : list_of (words is_space l.start (drop l.start l.line)) ≡ before l.list.items (list_of (words is_space l.at (drop l.at l.line)));
}

abbrev pub decreases-more : goal.decreases-more
decreases-more l = length l.line - l.at
