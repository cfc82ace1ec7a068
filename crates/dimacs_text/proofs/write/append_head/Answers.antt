use Rattle.dimacs_text.proofs.Fronts.{still_kept, unchanged_kept, on_err}
use Rattle.dimacs_text.proofs.write.append_head.Goals as goal

pub returns-in_err-append_number-2-clause-err : goal.returns-in_err-append_number-2-clause-err
returns-in_err-append_number-2-clause-err c =
    on_err _ _ (still_kept _ _ _ _ c.in_ok-extend_from_slice.ensures.items
    (still_kept _ _ _ _ c.in_ok-append_number.ensures.ok
    (still_kept _ _ _ _ c.in_ok-extend_from_slice-2.ensures.items (unchanged_kept _ _ c.in_err-append_number-2.ensures.kept))))
