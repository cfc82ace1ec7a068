use Rattle.std.proofs.Common.{◌≡◌, drop}
use Rattle.aiger_read.specs.Text.{known_at, uses_of}
use Rattle.aiger_read.proofs.text.refuse_unknown_operands.Given as goal

abbrev pub invariant-loop-line : goal.invariant-loop-line
invariant-loop-line l = known_at l.definitions.literals (uses_of (drop l.line-index l.lines)) ≡ known_at l.definitions.literals (uses_of l.lines)
