use Rattle.std.proofs.Common.{◌≡◌, length}
use Rattle.cdcl_search.proofs.scores.Scores.new.Given as goal

abbrev pub invariant-loop-index : goal.invariant-loop-index
invariant-loop-index l = length l.order ≡ l.vars
