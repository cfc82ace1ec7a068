use Rattle.dimacs_text.proofs.Fronts.{still_kept, on_err}
use Rattle.dimacs_text.proofs.write.append_literals.Goals as goal

pub returns-in_err-append_spaced-clause-err : goal.returns-in_err-append_spaced-clause-err
returns-in_err-append_spaced-clause-err c =
    on_err _ _ (still_kept _ _ _ _ c.loop-lit.invariant c.in_err-append_spaced.ensures.err)
