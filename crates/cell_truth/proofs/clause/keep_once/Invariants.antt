use Rattle.std.proofs.Common.{◌≡◌, take}
use Rattle.cell_truth.specs.Clause.{once_each}
use Rattle.cell_truth.proofs.clause.keep_once.Given as goal

abbrev pub invariant-loop-literal : goal.invariant-loop-literal
invariant-loop-literal l = l.clause ≡ once_each (take l.literal-index l.literals)
