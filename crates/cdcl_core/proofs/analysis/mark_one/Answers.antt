use Rattle.std.proofs.Common.{◌≡◌, ◌∙◌, ℕ, Bool, sym, ap, Some, None}
use Rattle.std.proofs.lemmas.Option.{none-some, same_Some}
use Rattle.rsfq_ids.specs.Formula.{opposite}
use Rattle.proof_arena.specs.Table.{falses_of}
use Rattle.cdcl_core.specs.Analysis.{open_in}
use Rattle.cdcl_core.specs.Trail.{level_in}
use Rattle.cdcl_core.proofs.Marking.{count_one, count_none}
use Rattle.cdcl_core.proofs.analysis.mark_one.Goals as goal

pub returns-in-Some-clause-marked : goal.returns-in-Some-clause-marked
returns-in-Some-clause-marked c = λ other. ap (λ (f : ℕ → Bool). f other) c.make_false.ensures.falses

pub returns-in_default-clause-marked : goal.returns-in_default-clause-marked
returns-in_default-clause-marked c = λ other. ap (λ (f : ℕ → Bool). f other) c.make_false.ensures.falses

pub returns-in_default-2-clause-marked : goal.returns-in_default-2-clause-marked
returns-in_default-2-clause-marked c = λ other. ap (λ (f : ℕ → Bool). f other) c.make_false.ensures.falses

pub returns-in-Some-clause-counted : goal.returns-in-Some-clause-counted
returns-in-Some-clause-counted c = λ clauses older t same.
    let at : level_in older (opposite c.args.lit) ≡ Some c.args.level =
    same ∙ (ap (level_in c.args.trail.now.trail) (sym c.opposite.ensures) ∙ (sym c.level_in.ensures ∙ (c.in-Some.is ∙ ap Some (c.if-at-level.true)))) in
    ap (λ (f : ℕ → Bool). open_in f c.args.level older) c.make_false.ensures.falses
    ∙ count_one (falses_of c.args.marks.now) c.args.level c.args.lit _ clauses older t at (sym c.is_false.ensures ∙ c.if-is_false.false)

pub returns-in_default-clause-counted : goal.returns-in_default-clause-counted
returns-in_default-clause-counted c = λ clauses older t same.
    ap (λ (f : ℕ → Bool). open_in f c.args.level older) c.make_false.ensures.falses
    ∙ count_none (falses_of c.args.marks.now) c.args.level c.args.lit _ clauses older t (λ h.
    let at : Some c.in-Some.at ≡ Some c.args.level = sym c.in-Some.is ∙ (c.level_in.ensures ∙ (ap (level_in c.args.trail.now.trail) c.opposite.ensures ∙ (sym same ∙ h))) in
    c.if-at-level.false (same_Some _ _ at))

pub returns-in_default-2-clause-counted : goal.returns-in_default-2-clause-counted
returns-in_default-2-clause-counted c = λ clauses older t same.
    ap (λ (f : ℕ → Bool). open_in f c.args.level older) c.make_false.ensures.falses
    ∙ count_none (falses_of c.args.marks.now) c.args.level c.args.lit _ clauses older t (λ h.
    let at : None ≡ Some c.args.level = sym c.in_default.is ∙ (c.level_in.ensures ∙ (ap (level_in c.args.trail.now.trail) c.opposite.ensures ∙ (sym same ∙ h))) in
    none-some _ at)
