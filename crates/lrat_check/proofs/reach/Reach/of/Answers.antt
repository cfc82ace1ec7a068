use Rattle.std.proofs.Common.{◌≡◌, ◌∙◌, ◌+◌, min, max, length, ap, arith}
use Rattle.rsfq_ids.specs.Formula.{Clause}
use Rattle.lrat_check.specs.Reached.{vars_up_to}
use Rattle.lrat_check.proofs.Reached.{split_first}
use Rattle.lrat_check.proofs.reach.Reach.of.Goals as goal

pub loop-clause-preserved : goal.loop-clause-preserved
loop-clause-preserved c =
    let first = c.clause-item.result in
    let split = split_first c.as_slice-clause-items.result.now c.loop-clause.clause-index first c.loop-clause-test.true c.clause-item.is in
    let met : c.meet.new.self.met ≡ min (c.loop-clause.reach.met + length first) 4294967295 =
    c.meet.ensures.met ∙ ap (λ (clause : Clause). min (c.loop-clause.reach.met + length clause) 4294967295) c.as_slice.ensures in
    let vars : c.meet.new.self.vars ≡ max c.loop-clause.reach.vars (vars_up_to first) =
    c.meet.ensures.vars ∙ ap (λ (clause : Clause). max c.loop-clause.reach.vars (vars_up_to clause)) c.as_slice.ensures in
    let count = split.count in
    let most = split.vars in
    record { fits = omega arith; met = omega arith; vars = omega arith }
