use Rattle.std.proofs.Common.{◌≡◌, drop}
use Rattle.aiger_read.specs.Text.{known_at}
use Rattle.aiger_read.proofs.text.refuse_unknown_outputs.Given as goal

abbrev pub invariant-loop-used : goal.invariant-loop-used
invariant-loop-used l = known_at l.definitions.literals (drop l.used-index l.outputs) ≡ known_at l.definitions.literals l.outputs
