use Rattle.std.proofs.Common.{◌≡◌, ◌∙◌, ◌+◌, ℕ, true, false, sym, ap, subst, refl, Some, None}
use Rattle.std.specs.Prelude.{Option, MatchOption, is_some}
use Rattle.proof_arena.specs.Log.{Log, clauses_of}
use Rattle.cdcl_core.specs.Oldest.{oldest}
use Rattle.cdcl_core.specs.Search.{IsConflict}
use Rattle.cdcl_core.specs.Watch.{Visits}
use Rattle.cdcl_core.proofs.Passing.{begins, ends, breaks}
use Rattle.cdcl_core.proofs.engine.Core.look_next.Goals as goal

pub visit_all-found-requires-clause-begins : goal.visit_all-found-requires-clause-begins
visit_all-found-requires-clause-begins c = (
  oldest c.args.self.now.done c.args.self.now.trail.trail,
  (
    c.at.result,
    begins _ _ _ _ _ _ _ _ c.at.result c.opposite-gone.result c.requires.core.holds c.requires.more c.at.ensures c.opposite-gone.ensures,
  ),
)

some_none : (o : Option ℕ) → is_some o ≡ false → o ≡ None
some_none None e = refl
some_none (Some k) e = let no : true ≡ false = e in absurd (cc)

some_some : (o : Option ℕ) → is_some o ≡ true → (k : ℕ) × (o ≡ Some k)
some_some None e = let no : false ≡ true = e in absurd (cc)
some_some (Some k) e = (k, refl)

pub returns-then-is_none-clause-core : goal.returns-then-is_none-clause-core
returns-then-is_none-clause-core c =
    let older = oldest c.args.self.now.done c.args.self.now.trail.trail in
    let start = begins _ _ _ _ _ _ _ _ c.at.result c.opposite-gone.result c.requires.core.holds c.requires.more c.at.ensures c.opposite-gone.ensures in
    let r = c.visit_all-found.ensures.visited older c.at.result start in
    let none : c.visit_all-found.result ≡ None = some_none c.visit_all-found.result (rw c.if-is_none.true at c.is_none.ensures) in
    let now = c.visit_all-found.ensures in
    let ended : Visits c.args.self.now.log.vars (clauses_of c.args.self.now.log) c.visit_all-found.new.self.trail.trail older c.at.result c.visit_all-found.new.self.watches.heads.items c.visit_all-found.new.self.watches.nodes.items c.opposite-gone.result None r.0 None =
    subst (λ (o : Option ℕ). Visits c.args.self.now.log.vars (clauses_of c.args.self.now.log) c.visit_all-found.new.self.trail.trail older c.at.result c.visit_all-found.new.self.watches.heads.items c.visit_all-found.new.self.watches.nodes.items c.opposite-gone.result None r.0 o) none r.1 in
    record {
      vars = now.vars ∙ (c.requires.core.vars ∙ ap (λ (log : Log). log.vars) (sym now.log));
      holds = rw (now.log, now.done, now.fresh) (ends _ _ _ _ _ _ _ _ _ _ _ c.at.result c.opposite-gone.result r.0 c.requires.core.holds c.requires.more c.at.ensures now.grown ended);
    }

pub returns-else-is_none-clause-core : goal.returns-else-is_none-clause-core
returns-else-is_none-clause-core c =
    let older = oldest c.args.self.now.done c.args.self.now.trail.trail in
    let start = begins _ _ _ _ _ _ _ _ c.at.result c.opposite-gone.result c.requires.core.holds c.requires.more c.at.ensures c.opposite-gone.ensures in
    let r = c.visit_all-found.ensures.visited older c.at.result start in
    let some = some_some c.visit_all-found.result (rw c.if-is_none.false at c.is_none.ensures) in
    let now = c.visit_all-found.ensures in
    let ended : Visits c.args.self.now.log.vars (clauses_of c.args.self.now.log) c.visit_all-found.new.self.trail.trail older c.at.result c.visit_all-found.new.self.watches.heads.items c.visit_all-found.new.self.watches.nodes.items c.opposite-gone.result None r.0 (Some some.0) =
    subst (λ (o : Option ℕ). Visits c.args.self.now.log.vars (clauses_of c.args.self.now.log) c.visit_all-found.new.self.trail.trail older c.at.result c.visit_all-found.new.self.watches.heads.items c.visit_all-found.new.self.watches.nodes.items c.opposite-gone.result None r.0 o) some.1 r.1 in
    record {
      vars = now.vars ∙ (c.requires.core.vars ∙ ap (λ (log : Log). log.vars) (sym now.log));
      holds = rw (now.log, now.done, now.fresh) (breaks _ _ _ _ _ _ _ _ _ _ _ c.at.result c.opposite-gone.result r.0 some.0 c.requires.core.holds now.grown ended).0;
    }

pub returns-else-is_none-clause-looked : goal.returns-else-is_none-clause-looked
returns-else-is_none-clause-looked c =
    let older = oldest c.args.self.now.done c.args.self.now.trail.trail in
    let start = begins _ _ _ _ _ _ _ _ c.at.result c.opposite-gone.result c.requires.core.holds c.requires.more c.at.ensures c.opposite-gone.ensures in
    let r = c.visit_all-found.ensures.visited older c.at.result start in
    let some = some_some c.visit_all-found.result (rw c.if-is_none.false at c.is_none.ensures) in
    let now = c.visit_all-found.ensures in
    let ended : Visits c.args.self.now.log.vars (clauses_of c.args.self.now.log) c.visit_all-found.new.self.trail.trail older c.at.result c.visit_all-found.new.self.watches.heads.items c.visit_all-found.new.self.watches.nodes.items c.opposite-gone.result None r.0 (Some some.0) =
    subst (λ (o : Option ℕ). Visits c.args.self.now.log.vars (clauses_of c.args.self.now.log) c.visit_all-found.new.self.trail.trail older c.at.result c.visit_all-found.new.self.watches.heads.items c.visit_all-found.new.self.watches.nodes.items c.opposite-gone.result None r.0 o) some.1 r.1 in
    let broken : IsConflict (clauses_of c.args.self.now.log) c.visit_all-found.new.self.trail.trail some.0 = (breaks _ _ _ _ _ _ _ _ _ _ _ c.at.result c.opposite-gone.result r.0 some.0 c.requires.core.holds now.grown ended).1 in
    subst (λ (o : Option ℕ). MatchOption o (c.visit_all-found.new.self.done ≡ c.args.self.now.done + 1) (IsConflict (clauses_of c.args.self.now.log) c.visit_all-found.new.self.trail.trail)) (sym some.1) broken
