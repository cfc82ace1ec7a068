use Rattle.std.proofs.Common.{◌≡◌, ◌∙◌, ◌+◌, ◌<◌, ◌≤◌, ◌++◌, ◌∷◌, [], length, arith, sym, ap, subst}
use Rattle.std.proofs.lemmas.List.{length_push}
use Rattle.rsfq_ids.specs.Formula.{Clause}
use Rattle.proof_arena.specs.Log.{Log, LogStep, clauses_of}
use Rattle.cdcl_core.specs.Search.{Search, IsNew}
use Rattle.cdcl_search.proofs.Searching.{new_pushed, learnt_some, work_learnt}
use Rattle.cdcl_search.proofs.search.learn_from.Goals as goal

pub returns-clause-turned : goal.returns-clause-turned
returns-clause-turned c =
    let old = c.args.state.now in
    let a = c.in_ok-back.ensures in
    let learnt : c.backjump.new.state.learnt ≡ c.analyse.new.state.learnt = ap (λ (s : Search). s.learnt) c.backjump.ensures.state in
    let before : c.backjump.new.state.log ≡ old.log = ap (λ (s : Search). s.log) c.backjump.ensures.state ∙ c.analyse.ensures.log in
    let s : LogStep = record { lits = c.backjump.new.state.learnt; hints = c.backjump.new.state.hints } in
    let log : c.learn.new.state.log ≡ record old.log { steps = old.log.steps ++ s ∷ [] } = ap (λ (x : Search). x.log) c.in_ok-id.ensures.learnt ∙ ap (λ (l : Log). record l { steps = l.steps ++ s ∷ [] }) before in
    let steps : length c.learn.new.state.log.steps ≡ length old.log.steps + 1 = ap (λ (l : Log). length l.steps) log ∙ length_push old.log.steps s in
    let here : c.steps-steps.result ≡ length old.log.steps = c.steps-steps.ensures ∙ ap (λ (l : Log). length l.steps) c.kept_log.ensures.log in
    let other : c.steps-steps.result ≡ c.args.budget → ⊥ = c.if-steps-budget.false in
    let few : length old.log.steps ≤ c.args.budget = c.requires.going.few in
    let low : length old.log.steps < c.args.budget = omega arith in
    let new : IsNew (clauses_of old.log) s.lits = subst (λ (l : Clause). IsNew (clauses_of old.log) l) (sym learnt) (subst (λ (l : Log). IsNew (clauses_of l) c.analyse.new.state.learnt) c.analyse.ensures.log a.new) in
    let some = λ (e : s.lits ≡ []). learnt_some _ _ _ a.learnt (sym learnt ∙ e) in (
      rw log (record { few = omega (arith, length_push old.log.steps s); new = new_pushed old.log.given old.log.steps s c.requires.going.new some new }),
      work_learnt c.args.budget old c.learn.new.state (ap (λ (l : Log). l.vars) log) steps low,
    )
