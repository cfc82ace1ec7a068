use Rattle.std.proofs.Common.{◌≡◌, ◌∙◌, ◌+◌, ◌∷◌, ◌++◌, ℕ, List, Bool, length, [], true, false, sym, ap, subst, refl, arith}
use Rattle.std.proofs.lemmas.Bool.{or_left}
use Rattle.std.proofs.lemmas.Option.{get_or_from_slice_get}
use Rattle.proof_arena.specs.Log.{clauses_of}
use Rattle.proof_arena.specs.Step.{is_among}
use Rattle.proof_arena.specs.Table.{falses_of}
use Rattle.rsfq_ids.specs.Formula.{Clause}
use Rattle.cdcl_core.specs.Trail.{level_of, clause_at, IsTrail}
use Rattle.cdcl_core.specs.Analysis.{open_in}
use Rattle.cdcl_core.specs.declared.trail.TrueLit.{TrueLit}
use Rattle.cdcl_core.proofs.Queueing.{more_queued, none_queued}
use Rattle.cdcl_core.proofs.Analysing.{begun}
use Rattle.cdcl_core.proofs.analysis.Analysis.begin.Goals as goal

none_marked : (level : ℕ) (trail : List TrueLit) → open_in (λ _. false) level trail ≡ 0
none_marked level [] = refl
none_marked level (entry ∷ older) = let rest = none_marked level older in omega arith

pub returns-clause-begun : goal.returns-clause-begun
returns-clause-begun c =
    let clauses = clauses_of c.args.log.now in
    let trail = c.args.trail.now.trail in
    let is : clause_at clauses c.args.conflict ≡ c.clause-clause.result.now = get_or_from_slice_get clauses c.args.conflict c.clause-clause.result.now [] c.clause-clause.ensures.clause in
    let marks : (lit : ℕ) → is_among (clause_at clauses c.args.conflict) lit ≡ true → falses_of c.mark-self.new.marks lit ≡ true =
    λ lit h. c.mark-self.ensures.marked lit ∙ or_left (is_among c.clause-clause.result.now lit) (falses_of c.clear.new.self lit) (subst (λ (k : Clause). is_among k lit ≡ true) is h) in
    let level : c.level.result ≡ level_of trail = c.level.ensures in
    let counted : open_in (falses_of c.mark-self.new.marks) c.level.result trail ≡ c.mark-self.result + open_in (falses_of c.clear.new.self) c.level.result trail =
    c.mark-self.ensures.counted clauses trail (subst (λ n. IsTrail n clauses trail) (sym c.requires.vars) c.requires.known) (λ lit h. refl) in
    let none : open_in (falses_of c.clear.new.self) c.level.result trail ≡ 0 = ap (λ (f : ℕ → Bool). open_in f c.level.result trail) c.clear.ensures.falses ∙ none_marked c.level.result trail in
    let now : c.mark-self.result ≡ open_in (falses_of c.mark-self.new.marks) (level_of trail) trail = let e : c.mark-self.result ≡ open_in (falses_of c.mark-self.new.marks) c.level.result trail = omega (arith, counted, none) in e ∙ ap (λ n. open_in (falses_of c.mark-self.new.marks) n trail) level in
    let learnt : c.clear-3.new.self.items ≡ [] = c.clear-3.ensures.items in
    let hints : c.push.new.self.items ≡ c.args.conflict ∷ [] = c.in_ok-push.ensures.items ∙ ap (λ (xs : List ℕ). xs ++ c.args.conflict ∷ []) c.clear-4.ensures.items in
    rw (learnt, hints) (begun _ clauses trail c.args.conflict (falses_of c.mark-self.new.marks) c.mark-self.result c.requires.known c.requires.conflict marks now)

pub returns-clause-queued : goal.returns-clause-queued
returns-clause-queued c =
    let trail = c.args.trail.now.trail in
    let off = c.clear.ensures.falses in
    more_queued trail c.clause-clause.result.now (falses_of c.clear.new.self) (falses_of c.mark-self.new.marks) (length trail) c.clear-2.new.self c.add.new.self (omega arith)
    c.mark-self.ensures.marked c.add.ensures.kept c.in_ok-add.ensures.added (none_queued trail (falses_of c.clear.new.self) (length trail) c.clear-2.new.self off)
