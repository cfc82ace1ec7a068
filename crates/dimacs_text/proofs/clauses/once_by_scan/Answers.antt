use Rattle.std.proofs.Common.{◌∙◌, ap, sym}
use Rattle.std.specs.Prelude.{◌==◌}
use Rattle.std.specs.List.{list_any}
use Rattle.rsfq_ids.specs.Formula.{Clause}
use Rattle.dimacs_text.proofs.OnceSays.{with_old, with_new, one_literal}
use Rattle.dimacs_text.proofs.clauses.once_by_scan.Goals as goal
use Rattle.dimacs_text.proofs.clauses.once_by_scan.Goals.{then-not-has_literal+in_ok-push, else-not-has_literal}

pub loop-lit-preserved : goal.loop-lit-preserved
loop-lit-preserved c =
    let clause = c.loop-lit.clause in
    let lit = c.lit-item.result in
    let found = ap (λ (l : Clause). list_any (λ other. lit == other) l) (sym c.as_slice.ensures) ∙ sym c.has_literal.ensures in
    sym (one_literal clause c.if-not-has_literal.clause c.args.lits.now c.loop-lit.lit-index lit c.loop-lit-test.true c.lit-item.is (elim c.if-not-has_literal.branch [
      | then-not-has_literal+in_ok-push w ↦ with_new clause lit (found ∙ w.if-not-has_literal.true) ∙ sym w.in_ok-push.ensures.ok ∙ sym w.clause-is
      | else-not-has_literal w ↦ with_old clause lit (found ∙ w.if-not-has_literal.false) ∙ sym w.clause-is
    ])) ∙ c.loop-lit.invariant
