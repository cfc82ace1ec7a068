use Rattle.std.proofs.Common.{◌≡◌, ◌-◌}
use Rattle.aiger_read.specs.Lines.{AreMarks, input_at, more_at}
use Rattle.aiger_read.proofs.lines.take_inputs.Given as goal

abbrev pub invariant-loop : goal.invariant-loop
invariant-loop l = record {
  same : more_at (input_at l.top) (l.count - l.counter) l.definitions.literals l.rest ≡ more_at (input_at l.top) l.count l.fn.definitions.literals l.bytes;
  marks : AreMarks l.top l.definitions.literals l.definitions.marks.items;
}
