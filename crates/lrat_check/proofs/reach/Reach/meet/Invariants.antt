use Rattle.std.proofs.Common.{◌≡◌, max, drop}
use Rattle.lrat_check.specs.Reached.{vars_up_to}
use Rattle.lrat_check.proofs.reach.Reach.meet.Given as goal

abbrev pub invariant-loop-lit : goal.invariant-loop-lit
invariant-loop-lit l = max l.vars (vars_up_to (drop l.lit-index l.clause)) ≡ max l.fn.self.vars (vars_up_to l.clause)
