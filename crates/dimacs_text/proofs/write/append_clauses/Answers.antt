use Rattle.dimacs_text.proofs.Fronts.{still_kept, on_err}
use Rattle.dimacs_text.proofs.write.append_clauses.Goals as goal

pub returns-in_err-append_clause-clause-err : goal.returns-in_err-append_clause-clause-err
returns-in_err-append_clause-clause-err c =
    on_err _ _ (still_kept _ _ _ _ c.loop-clause.invariant c.in_err-append_clause.ensures.err)
