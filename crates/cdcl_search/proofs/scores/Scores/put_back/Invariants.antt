use Rattle.std.proofs.Common.{◌≡◌, length}
use Rattle.cdcl_search.proofs.scores.Scores.put_back.Given as goal

abbrev pub invariant-loop-turn : goal.invariant-loop-turn
invariant-loop-turn l = length l.self.order ≡ length l.fn.self.order
