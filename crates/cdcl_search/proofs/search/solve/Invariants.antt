use Rattle.std.proofs.Common.{◌≡◌, length}
use Rattle.cdcl_search.specs.Turns.{IsGoing, work_of}
use Rattle.cdcl_search.proofs.search.solve.Given as goal

abbrev pub invariant-search : goal.invariant-search
invariant-search l = record {
  going : IsGoing l.budget l.state.log;
  vars : l.state.log.vars ≡ l.cnf.vars;
  given : l.state.log.given ≡ l.cnf.clauses;
  scores : length l.scores.order ≡ l.cnf.vars;
}

abbrev pub decreases-search : goal.decreases-search
decreases-search l = work_of l.budget l.state
