use Rattle.dimacs_text.proofs.Fronts.{still_kept, on_err}
use Rattle.lrat_check.proofs.write.append_clause.Goals as goal

pub returns-in_err-append_literals-clause-err : goal.returns-in_err-append_literals-clause-err
returns-in_err-append_literals-clause-err c =
    on_err _ _ (still_kept _ _ _ _ c.in_ok-append_number.ensures.ok
    (still_kept _ _ _ _ c.in_ok-extend_from_slice.ensures.items c.in_err-append_literals.ensures.err))
