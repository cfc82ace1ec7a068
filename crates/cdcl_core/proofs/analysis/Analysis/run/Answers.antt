use Rattle.std.proofs.Common.{◌≡◌, ◌∙◌, ◌+◌, ◌-◌, ◌<◌, ◌≤◌, ◌∷◌, ℕ, List, Bool, [], length, drop, sym, ap, subst, arith}
use Rattle.std.specs.List.{All, Contains}
use Rattle.std.proofs.lemmas.List.{drop_all}
use Rattle.rsfq_ids.specs.Formula.{Clause}
use Rattle.proof_arena.specs.Log.{clauses_of}
use Rattle.proof_arena.specs.Table.{falses_of}
use Rattle.cdcl_core.specs.declared.trail.TrueLit.{TrueLit}
use Rattle.cdcl_core.specs.Oldest.{oldest}
use Rattle.cdcl_core.specs.Trail.{level_of, IsTrail}
use Rattle.cdcl_core.specs.Analysis.{IsAnalysis}
use Rattle.cdcl_core.specs.Analysed.{IsAnalysed}
use Rattle.cdcl_core.specs.Queued.{AreQueued}
use Rattle.cdcl_core.proofs.Analysing.{next_at}
use Rattle.cdcl_core.proofs.Queueing.{skip_to, skip_all, fewer_queued}
use Rattle.cdcl_core.proofs.Finishing.{ends_found, all_reversed}
use Rattle.cdcl_core.proofs.analysis.Analysis.run.Goals as goal

none_left : (trail : List TrueLit) → oldest 0 trail ≡ []
none_left trail = drop_all (length trail - 0) trail (omega arith)

all_left : (trail : List TrueLit) → oldest (length trail) trail ≡ trail
all_left trail = let e : length trail - length trail ≡ 0 = omega arith in ap (λ n. drop n trail) e

pub walk-init : goal.walk-init
walk-init c =
    let place : c.len-place.result ≡ length c.args.trail.now.trail = c.len-place.ensures in
    let level : c.level-level.result ≡ level_of c.args.trail.now.trail = c.level-level.ensures in
    record {
      table = c.in_ok-begin.ensures.table;
      within = omega arith;
      queued = rw place c.in_ok-begin.ensures.queued;
      analysed = rw (place, level, all_left c.args.trail.now.trail) c.in_ok-begin.ensures.begun;
    }

pub look_at-requires-clause-next : goal.look_at-requires-clause-next
look_at-requires-clause-next c =
    let trail = c.args.trail.now.trail in
    let there = skip_to _ _ trail _ _ _ _ _ _ _ c.walk.place c.in-Some.next c.requires.known c.walk.invariant.within c.walk.invariant.queued c.in-Some.ensures c.walk.invariant.analysed in (
      oldest c.in-Some.next trail,
      (
        next_at _ _ trail c.at-entry.result c.in-Some.next c.requires.known c.at-entry.ensures,
        subst (λ (xs : List TrueLit). IsAnalysed c.args.log.now trail xs c.level-level.result c.walk.self) c.at-entry.ensures there,
      ),
    )

pub walk-preserved : goal.walk-preserved
walk-preserved c =
    let trail = c.args.trail.now.trail in
    let next = c.in-Some.next in
    let below : next < c.walk.place = c.in-Some.ensures.below in
    let there = skip_to _ _ trail _ _ _ _ _ _ _ c.walk.place next c.requires.known c.walk.invariant.within c.walk.invariant.queued c.in-Some.ensures c.walk.invariant.analysed in
    record {
      table = c.in_ok-look_at.ensures.table ∙ c.walk.invariant.table;
      within = omega (arith, c.walk.invariant.within);
      queued = c.in_ok-look_at.ensures.queued next (omega (arith, c.walk.invariant.within)) (fewer_queued _ _ _ _ _ _ c.walk.invariant.queued c.in-Some.ensures);
      analysed = c.in_ok-look_at.ensures.looked (oldest next trail) (next_at _ _ trail c.at-entry.result next c.requires.known c.at-entry.ensures)
          (subst (λ (xs : List TrueLit). IsAnalysed c.args.log.now trail xs c.level-level.result c.walk.self) c.at-entry.ensures there);
    }

at_end : (vars : ℕ) (clauses : List Clause) (trail : List TrueLit) (place level count : ℕ) (marked : ℕ → Bool) (learnt : Clause) (hints queue : List ℕ) → IsTrail vars clauses trail → place ≤ length trail → AreQueued trail marked place queue
    → ((n : ℕ) → n < place → Contains queue n → ⊥) → level ≡ level_of trail
    → IsAnalysis clauses trail (oldest place trail) level marked count learnt hints → IsAnalysis clauses trail [] (level_of trail) marked 0 learnt hints
at_end vars clauses trail place level count marked learnt hints queue t l queued off is a =
    let b : IsAnalysis clauses trail [] level marked count learnt hints =
    subst (λ (xs : List TrueLit). IsAnalysis clauses trail xs level marked count learnt hints) (none_left trail) (skip_all vars clauses trail level marked count learnt hints queue place t l queued off a) in
    let none : count ≡ 0 = b.counted in
    subst (λ n. IsAnalysis clauses trail [] n marked 0 learnt hints) is (subst (λ n. IsAnalysis clauses trail [] level marked n learnt hints) none b)

pub returns-clause-ends : goal.returns-clause-ends
returns-clause-ends c =
    let a = at_end _ (clauses_of c.args.log.now) c.args.trail.now.trail c.walk.place c.level-level.result c.walk.self.open (falses_of c.walk.self.marks) c.walk.self.learnt.items c.walk.self.hints.items c.walk.self.queue c.requires.known c.walk.invariant.within c.walk.invariant.queued c.in_default.ensures c.level-level.ensures c.walk.invariant.analysed in
    rw c.reverse.ensures.items (ends_found (clauses_of c.args.log.now) (falses_of c.walk.self.marks) c.walk.self.learnt.items c.walk.self.hints.items a.leads)

pub returns-clause-shape : goal.returns-clause-shape
returns-clause-shape c =
    let a = at_end _ (clauses_of c.args.log.now) c.args.trail.now.trail c.walk.place c.level-level.result c.walk.self.open (falses_of c.walk.self.marks) c.walk.self.learnt.items c.walk.self.hints.items c.walk.self.queue c.requires.known c.walk.invariant.within c.walk.invariant.queued c.in_default.ensures c.level-level.ensures c.walk.invariant.analysed in
    a.shape

pub returns-clause-printed : goal.returns-clause-printed
returns-clause-printed c =
    let a = at_end _ (clauses_of c.args.log.now) c.args.trail.now.trail c.walk.place c.level-level.result c.walk.self.open (falses_of c.walk.self.marks) c.walk.self.learnt.items c.walk.self.hints.items c.walk.self.queue c.requires.known c.walk.invariant.within c.walk.invariant.queued c.in_default.ensures c.level-level.ensures c.walk.invariant.analysed in
    subst (All (λ hint. hint < length (clauses_of c.args.log.now))) (sym c.reverse.ensures.items) (all_reversed (λ hint. hint < length (clauses_of c.args.log.now)) c.walk.self.hints.items a.printed)
