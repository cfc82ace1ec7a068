use Rattle.cdcl_search.specs.Turns.{HasValues}
use Rattle.cdcl_search.proofs.scores.first_open.Given as goal

abbrev pub invariant-loop-index : goal.invariant-loop-index
invariant-loop-index l = HasValues l.index l.state.trail
