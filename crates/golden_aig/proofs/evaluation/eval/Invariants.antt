use Rattle.std.proofs.Common.{◌≡◌, take, map}
use Rattle.golden_aig.specs.Golden.{golden}
use Rattle.golden_aig.proofs.evaluation.eval.Given as goal

abbrev pub invariant-loop-place : goal.invariant-loop-place
invariant-loop-place l = take l.place l.into ≡ map (golden l.aig l.word) (take l.place l.aig.outputs)
