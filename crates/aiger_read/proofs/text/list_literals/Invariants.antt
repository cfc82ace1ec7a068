use Rattle.std.proofs.Common.{◌≡◌, take, map}
use Rattle.aiger_read.proofs.text.list_literals.Given as goal

abbrev pub invariant-loop-used : goal.invariant-loop-used
invariant-loop-used l = l.literals ≡ map (λ used. used.literal) (take l.used-index l.outputs)
