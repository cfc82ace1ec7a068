use Rattle.dimacs_text.proofs.Fronts.{still_kept, on_err}
use Rattle.lrat_check.proofs.write.append_hints.Goals as goal

pub returns-in_err-append_hint-clause-err : goal.returns-in_err-append_hint-clause-err
returns-in_err-append_hint-clause-err c =
    on_err _ _ (still_kept _ _ _ _ c.loop-hint.invariant c.in_err-append_hint.ensures.err)
