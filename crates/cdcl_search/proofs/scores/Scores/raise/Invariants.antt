use Rattle.std.proofs.Common.{◌≡◌, length}
use Rattle.cdcl_search.proofs.scores.Scores.raise.Given as goal

abbrev pub invariant-loop-hint : goal.invariant-loop-hint
invariant-loop-hint l = length l.self.order ≡ length l.fn.self.order
