use Rattle.std.proofs.Common.{◌+◌}
use Rattle.golden_aig.specs.Table.{Holds}
use Rattle.golden_aig.proofs.evaluation.fill_ands.Given as goal

abbrev pub invariant-loop-place : goal.invariant-loop-place
invariant-loop-place l = Holds l.aig l.word (l.aig.inputs + l.place) l.marks
