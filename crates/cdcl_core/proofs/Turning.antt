-- Levels are opened and left.
use Rattle.std.proofs.Common.{◌≡◌, ◌∙◌, ◌<◌, ◌≤◌, ◌+◌, ◌*◌, ◌-◌, inl, inr, ℕ, refl, sym, ap, subst, arith, List, [], ◌∷◌, ◌++◌, length, drop, length-append}
use Rattle.std.specs.Prelude.{Option, Some, None}
use Rattle.std.specs.List.{All}
use Rattle.std.proofs.lemmas.Bool.{cases_lt}
use Rattle.std.proofs.lemmas.List.{drop-append-le}
use Rattle.rsfq_ids.specs.Formula.{Clause, opposite}
use Rattle.cdcl_core.specs.declared.trail.TrueLit.{TrueLit}
use Rattle.cdcl_core.specs.declared.watches.Node.{Node}
use Rattle.cdcl_core.specs.Trail.{level_in, level_of, up_to, IsFree, IsQuiet, IsTrail}
use Rattle.cdcl_core.specs.Oldest.{oldest}
use Rattle.cdcl_core.specs.Watch.{IsCore, IsGuarded, IsWatched}
use Rattle.cdcl_core.proofs.Trails.{stays, up_above, up_below, up_whole, up_trail, up_true, true_up}
use Rattle.cdcl_core.proofs.Growing.{tail_true, oldest_trail}
use Rattle.cdcl_core.proofs.Visiting.{Keeps, guard_kept}

pub up_few : (k : ℕ) (trail : List TrueLit) → length (up_to k trail) ≤ length trail
up_few k [] = omega arith
up_few k (entry ∷ older) = elim (cases_lt k entry.level) [
  | inl above ↦ let size = ap (λ (xs : List TrueLit). length xs) (up_above k entry older above) in let rest = up_few k older in omega (arith, size, rest)
  | inr below ↦ let size = ap (λ (xs : List TrueLit). length xs) (up_below k entry older below) in let rest = up_few k older in omega (arith, size, rest)
]

pub up_dropped : (k : ℕ) (trail : List TrueLit) → k < level_of trail → up_to k (drop 1 trail) ≡ up_to k trail
up_dropped k [] l = absurd (omega arith)
up_dropped k (entry ∷ older) l = sym (up_above k entry older l)

pub trail_dropped : (vars : ℕ) (clauses : List Clause) (trail : List TrueLit) → IsTrail vars clauses trail → IsTrail vars clauses (drop 1 trail)
trail_dropped vars clauses [] t = tt
trail_dropped vars clauses (entry ∷ older) t = t.1

pub some_there : (trail : List TrueLit) (k : ℕ) → k < level_of trail → 0 < length trail
some_there [] k l = absurd (omega arith)
some_there (entry ∷ older) k l = omega arith

pub fewer : (trail : List TrueLit) → 0 < length trail → length (drop 1 trail) < length trail
fewer [] l = absurd (omega arith)
fewer (entry ∷ older) l = omega arith

up_tail : (vars : ℕ) (clauses : List Clause) (k : ℕ) (trail : List TrueLit) → IsTrail vars clauses trail → (more : List TrueLit) × (trail ≡ more ++ up_to k trail)
up_tail vars clauses k [] t = ([], refl)
up_tail vars clauses k (entry ∷ older) t = elim (cases_lt k entry.level) [
  | inl above ↦
      let rest = up_tail vars clauses k older t.1 in
      (entry ∷ rest.0, ap (λ (xs : List TrueLit). entry ∷ xs) rest.1 ∙ ap (λ (xs : List TrueLit). entry ∷ (rest.0 ++ xs)) (sym (up_above k entry older above)))
  | inr below ↦ ([], sym (up_whole vars clauses (entry ∷ older) k t below))
]

-- what is true up to a level is among the oldest, if they reach that far
up_looked : (vars : ℕ) (clauses : List Clause) (trail : List TrueLit) (k done lit j : ℕ) → IsTrail vars clauses trail → length (up_to k trail) ≤ done → done ≤ length trail → level_in (up_to k trail) lit ≡ Some j → level_in (oldest done trail) lit ≡ Some j
up_looked vars clauses trail k done lit j t few within h =
    let split = up_tail vars clauses k trail t in
    let size : length trail ≡ length split.0 + length (up_to k trail) = ap (λ (xs : List TrueLit). length xs) split.1 ∙ length-append split.0 (up_to k trail) in
    let m = length trail - done in
    let is : oldest done trail ≡ drop m split.0 ++ up_to k trail = ap (drop m) split.1 ∙ drop-append-le m split.0 (up_to k trail) (omega arith) in
    let tail : IsTrail vars clauses (drop m split.0 ++ up_to k trail) = subst (IsTrail vars clauses) is (oldest_trail vars clauses trail done t) in
    ap (λ (xs : List TrueLit). level_in xs lit) is ∙ tail_true vars clauses (drop m split.0) (up_to k trail) lit j tail h

whole_oldest : (trail : List TrueLit) → oldest (length trail) trail ≡ trail
whole_oldest trail = let e : length trail - length trail ≡ 0 = omega arith in ap (λ n. drop n trail) e

-- a core gone back to a lower level
pub gone_back : (vars : ℕ) (clauses : List Clause) (given : ℕ) (trail : List TrueLit) (done fresh k : ℕ) (heads : List (Option ℕ)) (nodes : List Node)
    → IsCore vars clauses given trail done fresh heads nodes → k < level_of trail → IsCore vars clauses given (up_to k trail) (length (up_to k trail)) fresh heads nodes
gone_back vars clauses given trail done fresh k heads nodes core low =
    let w = core.watched.1 in
    let t = core.trail_is in
    let new = up_to k trail in
    let guard : (a b : ℕ) → IsGuarded trail (oldest done trail) a b → IsGuarded new new a b = λ a b g j h.
    let there = true_up vars clauses trail k (opposite a) j t h in
    let old = g j (up_looked vars clauses trail k done (opposite a) j t (core.behind k low) core.done_in h) in
    let e : old.0 ≤ j = old.1.1 in
    let f : j ≤ k = there.1 in
    (old.0, (up_true vars clauses trail k b old.0 t old.1.0 (omega arith), old.1.1)) in
    let watched : IsWatched clauses new new heads nodes core.watched.0 [] = record {
      linked = w.linked;
      watches = w.watches;
      guarded = λ n u h. guard _ _ (w.guarded n u h);
    } in
    record {
      few = core.few;
      trail_is = up_trail vars clauses trail k t;
      given_in = core.given_in;
      fresh_in = core.fresh_in;
      done_in = omega arith;
      behind = λ j l. up_few j new;
      heads_len = core.heads_len;
      nodes_len = core.nodes_len;
      over = core.over;
      shorts = λ id known which short.
          let old = core.shorts id known which short in
          (old.0, (old.1.0, up_true vars clauses trail k old.0 0 t old.1.1 (omega arith)));
      watched = (core.watched.0, subst (λ (xs : List TrueLit). IsWatched clauses new xs heads nodes core.watched.0 []) (sym (whole_oldest new)) watched);
    }

-- a core with one more level
pub decided_core : (vars : ℕ) (clauses : List Clause) (given : ℕ) (trail : List TrueLit) (done fresh lit : ℕ) (heads : List (Option ℕ)) (nodes : List Node)
    → IsCore vars clauses given trail done fresh heads nodes → done ≡ length trail → All (IsQuiet trail) clauses → lit < 2 * vars → IsFree trail lit
    → IsCore vars clauses given (record { lit = lit; level = level_of trail + 1; reason = None } ∷ trail) done fresh heads nodes
decided_core vars clauses given trail done fresh lit heads nodes core all quiet small free =
    let e : TrueLit = record { lit = lit; level = level_of trail + 1; reason = None } in
    let w = core.watched.1 in
    let keeps : Keeps trail (e ∷ trail) = λ l k h. stays e trail l k free h in
    let old : oldest done trail ≡ trail = ap (λ n. oldest n trail) all ∙ whole_oldest trail in
    let one : length (e ∷ trail) - done ≡ 1 = omega arith in
    let new : oldest done (e ∷ trail) ≡ trail = ap (λ n. drop n (e ∷ trail)) one in
    let watched : IsWatched clauses (e ∷ trail) (oldest done trail) heads nodes core.watched.0 [] = record {
      linked = w.linked;
      watches = w.watches;
      guarded = λ n u h. guard_kept trail (e ∷ trail) (oldest done trail) _ _ keeps (w.guarded n u h);
    } in
    record {
      few = core.few;
      trail_is = (record { within = small; free = free; made = (refl, quiet) }, core.trail_is);
      given_in = core.given_in;
      fresh_in = core.fresh_in;
      done_in = omega arith;
      behind = λ k l.
          let size = ap (λ (xs : List TrueLit). length xs) (up_above k e trail l) in
          let few = up_few k trail in
          omega (arith, size, few);
      heads_len = core.heads_len;
      nodes_len = core.nodes_len;
      over = core.over;
      shorts = λ id known which short. let s = core.shorts id known which short in (s.0, (s.1.0, keeps s.0 0 s.1.1));
      watched = (core.watched.0, subst (λ (xs : List TrueLit). IsWatched clauses (e ∷ trail) xs heads nodes core.watched.0 []) (old ∙ sym new) watched);
    }
