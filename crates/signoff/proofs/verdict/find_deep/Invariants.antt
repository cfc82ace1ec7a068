use Rattle.signoff.specs.Verdict.{AreShallowBefore}
use Rattle.signoff.proofs.verdict.find_deep.Given as goal

abbrev pub invariant-loop-place : goal.invariant-loop-place
invariant-loop-place l = AreShallowBefore l.place l.depths
