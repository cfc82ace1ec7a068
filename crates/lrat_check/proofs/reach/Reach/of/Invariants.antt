use Rattle.std.proofs.Common.{◌≡◌, ◌+◌, ◌≤◌, min, max, drop, length}
use Rattle.std.specs.List.{concat}
use Rattle.lrat_check.specs.Reached.{vars_up_to}
use Rattle.lrat_check.proofs.reach.Reach.of.Given as goal

abbrev pub invariant-loop-clause : goal.invariant-loop-clause
invariant-loop-clause l = record {
  fits : l.reach.met ≤ 4294967295;
  met : min (l.reach.met + length (concat (drop l.clause-index l.clause-items))) 4294967295 ≡ min (length (concat l.cnf.clauses)) 4294967295;
  vars : max l.reach.vars (vars_up_to (concat (drop l.clause-index l.clause-items))) ≡ vars_up_to (concat l.cnf.clauses);
}
