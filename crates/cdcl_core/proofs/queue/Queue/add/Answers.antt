use Rattle.std.proofs.Common.{◌≡◌, ◌∙◌, ◌<◌, inl, inr, true, sym, ap, subst, arith, length, take, get_or}
use Rattle.std.specs.Prelude.{◌||◌, ◌==◌}
use Rattle.std.proofs.lemmas.Bool.{or_cases, eqb-true}
use Rattle.std.proofs.lemmas.List.{get_or_read, take_all}
use Rattle.rsfq_ids.specs.Formula.{Clause, opposite}
use Rattle.proof_arena.specs.Step.{is_among}
use Rattle.proof_arena.specs.Table.{falses_of}
use Rattle.cdcl_core.specs.Oldest.{IsAt}
use Rattle.cdcl_core.proofs.Members.{more_bool}
use Rattle.cdcl_core.proofs.queue.Queue.add.Goals as goal

pub loop-lit-preserved : goal.loop-lit-preserved
loop-lit-preserved c =
    let clause = c.args.clause.now in
    let i = c.loop-lit.lit-index in
    let here = c.lit-item.result in
    let below : i < length clause = omega arith in
    let is : here ≡ get_or clause i 0 = get_or_read clause i here below c.lit-item.is 0 in
    record {
      kept = λ n has. c.add_one.ensures.kept n (c.loop-lit.invariant.kept n has);
      added = λ lit h off n l at. elim (or_cases (lit == get_or clause i 0) (is_among (take i clause) lit) (sym (more_bool clause i 0 lit below) ∙ h)) [
        | inl e ↦
            let same : lit ≡ here = eqb-true lit (get_or clause i 0) e ∙ sym is in
            c.in_ok-add_one.ensures.added (ap (falses_of c.args.marks.now) (sym same) ∙ off) n l (subst (λ x. IsAt c.args.trail.now.trail n (opposite x)) same at)
        | inr r ↦ c.add_one.ensures.kept n (c.loop-lit.invariant.added lit r off n l at)
      ];
    }

pub returns-clause-added : goal.returns-clause-added
returns-clause-added c = λ lit h off n l at.
    let whole : take c.loop-lit.lit-index c.args.clause.now ≡ c.args.clause.now = take_all c.loop-lit.lit-index c.args.clause.now (omega (arith, c.loop-lit-test.false)) in
    c.loop-lit.invariant.added lit (ap (λ (xs : Clause). is_among xs lit) whole ∙ h) off n l at
