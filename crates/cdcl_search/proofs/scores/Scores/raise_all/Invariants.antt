use Rattle.std.proofs.Common.{◌≡◌, length}
use Rattle.cdcl_search.proofs.scores.Scores.raise_all.Given as goal

abbrev pub invariant-loop-lit : goal.invariant-loop-lit
invariant-loop-lit l = length l.self.order ≡ length l.fn.self.order
