use Rattle.std.proofs.Common.{◌≡◌, ◌∙◌, Bool, ℕ, sym, ap, subst, true, false}
use Rattle.std.specs.List.{list_any}
use Rattle.rsfq_ids.specs.Formula.{opposite, IsOver}
use Rattle.proof_arena.specs.Step.{is_tautology, ends_in_conflict}
use Rattle.proof_arena.specs.Log.{clauses_of}
use Rattle.proof_arena.specs.Table.{falses_of}
use Rattle.proof_arena.proofs.Readings.{denied, not_over, tautologous, judged}
use Rattle.proof_arena.proofs.step.step_holds.Goals as goal

not_both : (b : Bool) → b ≡ false → b ≡ true → ⊥
not_both b e f = cc

pub returns-then-not-are_over-clause-exact : goal.returns-then-not-are_over-clause-exact
returns-then-not-are_over-clause-exact c =
    not_over c.args.log.now.vars (clauses_of c.args.log.now) c.args.lits.now c.args.hints.now
    (λ over. not_both c.are_over.result (cc) (c.are_over.ensures.1 (subst (λ vars. IsOver vars c.args.lits.now) (sym c.vars.ensures) over)))

pub returns-then-not-has_true-clause-exact : goal.returns-then-not-has_true-clause-exact
returns-then-not-has_true-clause-exact c =
    let falses = denied c.args.lits.now (falses_of c.deny.new.self) (falses_of c.clear.new.self) c.deny.ensures.falses c.clear.ensures.falses in
    let over : IsOver c.args.log.now.vars c.args.lits.now = subst (λ vars. IsOver vars c.args.lits.now) c.vars.ensures (c.are_over.ensures.0 (cc)) in
    let plain : is_tautology c.args.lits.now ≡ c.has_true.result =
    sym (c.has_true.ensures ∙ ap (λ (f : ℕ → Bool). list_any (λ lit. f (opposite lit)) c.args.lits.now) falses) in
    judged c.args.log.now.vars (clauses_of c.args.log.now) c.args.lits.now c.args.hints.now c.find_conflict.result over
    (plain ∙ (cc))
    (c.find_conflict.ensures.found ∙ ap (λ (f : ℕ → Bool). ends_in_conflict (clauses_of c.args.log.now) f c.args.hints.now) falses)

pub returns-else-not-has_true-clause-exact : goal.returns-else-not-has_true-clause-exact
returns-else-not-has_true-clause-exact c =
    let falses = denied c.args.lits.now (falses_of c.deny.new.self) (falses_of c.clear.new.self) c.deny.ensures.falses c.clear.ensures.falses in
    let plain : is_tautology c.args.lits.now ≡ c.has_true.result =
    sym (c.has_true.ensures ∙ ap (λ (f : ℕ → Bool). list_any (λ lit. f (opposite lit)) c.args.lits.now) falses) in
    let same : c.has_true.result ≡ true = (cc) in
    rw same (tautologous c.args.log.now.vars (clauses_of c.args.log.now) c.args.lits.now c.args.hints.now (plain ∙ same))
