use Rattle.std.proofs.Common.{◌≡◌, ◌≤◌, arith}
use Rattle.dimacs_text.proofs.Fronts.{still_kept, on_err}
use Rattle.lrat_check.proofs.StepLines.{line_more}
use Rattle.lrat_check.proofs.write.append_steps.Goals as goal

pub returns-in_err-append_step-clause-err : goal.returns-in_err-append_step-clause-err
returns-in_err-append_step-clause-err c =
    on_err _ _ (still_kept _ _ _ _ c.loop-place.invariant c.in_err-append_step.ensures.err)

pub loop-place-preserved : goal.loop-place-preserved
loop-place-preserved c =
    let le : c.args.given ≤ c.loop-place.place = omega arith in
    let same : c.of-id.result ≡ c.loop-place.place = omega arith in
    line_more _ _ _ c.args.log.now.given c.args.log.now.steps c.args.given c.loop-place.place c.of-id.result _ _ c.requires.given same le c.loop-place.invariant c.clause.ensures.clause c.hints.ensures
    c.in_ok-append_step.ensures.ok
