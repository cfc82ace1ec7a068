-- Facts of trails.
use Rattle.std.proofs.Common.{◌≡◌, ◌∙◌, ◌<◌, ◌≤◌, ◌+◌, ◌*◌, ◌⊎◌, inl, inr, ℕ, true, false, refl, sym, ap, subst, arith, List, [], ◌∷◌, length}
use Rattle.std.specs.Prelude.{◌==◌, Option, Some, None, IsTrue, is_some}
use Rattle.std.specs.List.{All}
use Rattle.std.proofs.lemmas.Bool.{cases_Bool, cases_eq, cases_lt, eqb-true, eq-eqb, ne_eqb, le-leb, lt-leb}
use Rattle.std.proofs.lemmas.Option.{none-some, same_Some}
use Rattle.rsfq_ids.specs.Formula.{Clause, opposite}
use Rattle.cdcl_core.specs.declared.trail.TrueLit.{TrueLit}
use Rattle.cdcl_core.specs.Trail.{level_in, is_true, level_of, up_to, IsFree, IsQuiet, IsMade, IsTrail}
use Rattle.cdcl_core.specs.Oldest.{IsPlain}
use Rattle.cdcl_core.proofs.Opposites.{opp_opp, opp_ne}

-- a true literal is the newest, or an older one
pub true_cases : (entry : TrueLit) (older : List TrueLit) (lit k : ℕ) → level_in (entry ∷ older) lit ≡ Some k
    → ((lit ≡ entry.lit) × (entry.level ≡ k)) ⊎ ((lit ≡ entry.lit → ⊥) × (level_in older lit ≡ Some k))
true_cases entry older lit k e = elim (cases_Bool (lit == entry.lit)) [
  | inl same ↦ inl (eqb-true lit entry.lit same, same_Some entry.level k (rw same at e))
  | inr differ ↦ inr (
    (λ s. let yes : (lit == entry.lit) ≡ true = eq-eqb lit entry.lit s in let no : true ≡ false = sym yes ∙ differ in absurd (cc)),
    rw differ at e,
  )
]

pub at_newest : (entry : TrueLit) (older : List TrueLit) (lit : ℕ) → lit ≡ entry.lit → level_in (entry ∷ older) lit ≡ Some entry.level
at_newest entry older lit e = rw (eq-eqb lit entry.lit e) refl

pub at_older : (entry : TrueLit) (older : List TrueLit) (lit : ℕ) → (lit ≡ entry.lit → ⊥) → level_in (entry ∷ older) lit ≡ level_in older lit
at_older entry older lit n = rw (ne_eqb lit entry.lit n) refl

some_of : (o : Option ℕ) → is_some o ≡ true → (k : ℕ) × (o ≡ Some k)
some_of None t = let no : false ≡ true = t in absurd (cc)
some_of (Some k) t = (k, refl)

-- the level of a literal, or none
pub some_level : (trail : List TrueLit) (lit : ℕ) → IsTrue (is_true trail lit) → (k : ℕ) × (level_in trail lit ≡ Some k)
some_level trail lit t = some_of (level_in trail lit) t

pub is_true_at : (trail : List TrueLit) (lit k : ℕ) → level_in trail lit ≡ Some k → IsTrue (is_true trail lit)
is_true_at trail lit k e = rw e refl

pub option_cases : (o : Option ℕ) → (o ≡ None) ⊎ ((k : ℕ) × (o ≡ Some k))
option_cases None = inl refl
option_cases (Some k) = inr (k, refl)

-- a literal that is true is not false
pub consistent : (vars : ℕ) (clauses : List Clause) (trail : List TrueLit) (lit k : ℕ) → IsTrail vars clauses trail → level_in trail lit ≡ Some k → level_in trail (opposite lit) ≡ None
consistent vars clauses [] lit k t e = refl
consistent vars clauses (entry ∷ older) lit k t e = elim (true_cases entry older lit k e) [
  | inl a ↦
      let differ : opposite lit ≡ entry.lit → ⊥ = λ s. opp_ne lit (s ∙ sym a.0) in
      let free : level_in older (opposite entry.lit) ≡ None = t.0.free.other in
      at_older entry older (opposite lit) differ ∙ (ap (λ l. level_in older (opposite l)) a.0 ∙ free)
  | inr b ↦ elim (cases_eq (opposite lit) entry.lit) [
    | inl same ↦
        let back : lit ≡ opposite entry.lit = sym (opp_opp lit) ∙ ap opposite same in
        let free : level_in older (opposite entry.lit) ≡ None = t.0.free.other in
        let none : level_in older lit ≡ None = ap (level_in older) back ∙ free in
        absurd (none-some k (sym none ∙ b.1))
    | inr differ ↦ at_older entry older (opposite lit) differ ∙ consistent vars clauses older lit k t.1 b.1
  ]
]

pub not_both : (vars : ℕ) (clauses : List Clause) (trail : List TrueLit) (lit : ℕ) → IsTrail vars clauses trail → IsTrue (is_true trail lit) → IsTrue (is_true trail (opposite lit)) → ⊥
not_both vars clauses trail lit t a b =
    let one = some_level trail lit a in
    let other = some_level trail (opposite lit) b in
    none-some other.0 (sym (consistent vars clauses trail lit one.0 t one.1) ∙ other.1)

-- levels of a trail do not fall
pub made_level : (clauses : List Clause) (older : List TrueLit) (lit level : ℕ) (reason : Option ℕ) → IsMade clauses older lit level reason → level_of older ≤ level
made_level clauses older lit level None m = omega (arith, m.0)
made_level clauses older lit level (Some id) m = omega (arith, m.0)

pub level_below : (vars : ℕ) (clauses : List Clause) (trail : List TrueLit) (lit k : ℕ) → IsTrail vars clauses trail → level_in trail lit ≡ Some k → k ≤ level_of trail
level_below vars clauses [] lit k t e = absurd (none-some k e)
level_below vars clauses (entry ∷ older) lit k t e = elim (true_cases entry older lit k e) [
  | inl a ↦ omega (arith, a.1)
  | inr b ↦
      let low : k ≤ level_of older = level_below vars clauses older lit k t.1 b.1 in
      let step : level_of older ≤ entry.level = made_level clauses older entry.lit entry.level entry.reason t.0.made in
      omega arith
]

pub true_over : (vars : ℕ) (clauses : List Clause) (trail : List TrueLit) (lit k : ℕ) → IsTrail vars clauses trail → level_in trail lit ≡ Some k → lit < 2 * vars
true_over vars clauses [] lit k t e = absurd (none-some k e)
true_over vars clauses (entry ∷ older) lit k t e = elim (true_cases entry older lit k e) [
  | inl a ↦ let l : entry.lit < 2 * vars = t.0.within in omega (arith, a.0)
  | inr b ↦ true_over vars clauses older lit k t.1 b.1
]

-- a literal that is true stays so
pub stays : (entry : TrueLit) (trail : List TrueLit) (lit k : ℕ) → IsFree trail entry.lit → level_in trail lit ≡ Some k → level_in (entry ∷ trail) lit ≡ Some k
stays entry trail lit k free e =
    let differ : lit ≡ entry.lit → ⊥ = λ s. none-some k (sym (free.one) ∙ (ap (level_in trail) (sym s) ∙ e)) in
    at_older entry trail lit differ ∙ e

pub stays_true : (entry : TrueLit) (trail : List TrueLit) (lit : ℕ) → IsFree trail entry.lit → IsTrue (is_true trail lit) → IsTrue (is_true (entry ∷ trail) lit)
stays_true entry trail lit free t =
    let one = some_level trail lit t in
    is_true_at (entry ∷ trail) lit one.0 (stays entry trail lit one.0 free one.1)

pub plain_trail : (vars : ℕ) (clauses : List Clause) (trail : List TrueLit) → IsTrail vars clauses trail → IsPlain vars trail
plain_trail vars clauses [] t = tt
plain_trail vars clauses (entry ∷ older) t = (record { within = t.0.within; free = t.0.free }, plain_trail vars clauses older t.1)

made_few : (clauses : List Clause) (older : List TrueLit) (lit level : ℕ) (reason : Option ℕ) → IsMade clauses older lit level reason → level ≤ level_of older + 1
made_few clauses older lit level None m = omega (arith, m.0)
made_few clauses older lit level (Some id) m = omega (arith, m.0)

-- there are no more levels than true literals
pub levels_few : (vars : ℕ) (clauses : List Clause) (trail : List TrueLit) → IsTrail vars clauses trail → level_of trail ≤ length trail
levels_few vars clauses [] t = omega arith
levels_few vars clauses (entry ∷ older) t =
    let low : level_of older ≤ length older = levels_few vars clauses older t.1 in
    let step : entry.level ≤ level_of older + 1 = made_few clauses older entry.lit entry.level entry.reason t.0.made in
    omega arith

-- going back
pub up_above : (k : ℕ) (entry : TrueLit) (older : List TrueLit) → k < entry.level → up_to k (entry ∷ older) ≡ up_to k older
up_above k entry older l = rw (lt-leb entry.level k l) refl

pub up_below : (k : ℕ) (entry : TrueLit) (older : List TrueLit) → entry.level ≤ k → up_to k (entry ∷ older) ≡ entry ∷ up_to k older
up_below k entry older l = rw (le-leb entry.level k l) refl

pub up_whole : (vars : ℕ) (clauses : List Clause) (trail : List TrueLit) (k : ℕ) → IsTrail vars clauses trail → level_of trail ≤ k → up_to k trail ≡ trail
up_whole vars clauses [] k t l = refl
up_whole vars clauses (entry ∷ older) k t l =
    let step : level_of older ≤ entry.level = made_level clauses older entry.lit entry.level entry.reason t.0.made in
    up_below k entry older l ∙ ap (λ (xs : List TrueLit). entry ∷ xs) (up_whole vars clauses older k t.1 (omega arith))

-- the trail up to a level is a trail
pub up_trail : (vars : ℕ) (clauses : List Clause) (trail : List TrueLit) (k : ℕ) → IsTrail vars clauses trail → IsTrail vars clauses (up_to k trail)
up_trail vars clauses [] k t = tt
up_trail vars clauses (entry ∷ older) k t = elim (cases_lt k entry.level) [
  | inl above ↦ subst (IsTrail vars clauses) (sym (up_above k entry older above)) (up_trail vars clauses older k t.1)
  | inr below ↦
      let whole : up_to k (entry ∷ older) ≡ entry ∷ older = up_whole vars clauses (entry ∷ older) k t below in
      subst (IsTrail vars clauses) (sym whole) t
]

pub up_level : (vars : ℕ) (clauses : List Clause) (trail : List TrueLit) (k : ℕ) → IsTrail vars clauses trail → k ≤ level_of trail → level_of (up_to k trail) ≡ k
up_level vars clauses [] k t l = omega arith
up_level vars clauses (entry ∷ older) k t l = elim (cases_lt k entry.level) [
  | inl above ↦
      let step : entry.level ≤ level_of older + 1 = made_few clauses older entry.lit entry.level entry.reason t.0.made in
      ap level_of (up_above k entry older above) ∙ up_level vars clauses older k t.1 (omega arith)
  | inr below ↦
      let same : entry.level ≡ k = omega arith in
      ap level_of (up_below k entry older below) ∙ same
]

-- what is true up to a level became true up to it
pub up_true : (vars : ℕ) (clauses : List Clause) (trail : List TrueLit) (k lit j : ℕ) → IsTrail vars clauses trail → level_in trail lit ≡ Some j → j ≤ k → level_in (up_to k trail) lit ≡ Some j
up_true vars clauses [] k lit j t e l = e
up_true vars clauses (entry ∷ older) k lit j t e l = elim (cases_lt k entry.level) [
  | inl above ↦ elim (true_cases entry older lit j e) [
    | inl a ↦ absurd (omega (arith, a.1))
    | inr b ↦ ap (λ (xs : List TrueLit). level_in xs lit) (up_above k entry older above) ∙ up_true vars clauses older k lit j t.1 b.1 l
  ]
  | inr below ↦ ap (λ (xs : List TrueLit). level_in xs lit) (up_whole vars clauses (entry ∷ older) k t below) ∙ e
]

-- and the other way round
pub true_up : (vars : ℕ) (clauses : List Clause) (trail : List TrueLit) (k lit j : ℕ) → IsTrail vars clauses trail → level_in (up_to k trail) lit ≡ Some j → (level_in trail lit ≡ Some j) × (j ≤ k)
true_up vars clauses [] k lit j t e = absurd (none-some j e)
true_up vars clauses (entry ∷ older) k lit j t e = elim (cases_lt k entry.level) [
  | inl above ↦
      let rest = true_up vars clauses older k lit j t.1 (ap (λ (xs : List TrueLit). level_in xs lit) (sym (up_above k entry older above)) ∙ e) in
      (stays entry older lit j t.0.free rest.0, rest.1)
  | inr below ↦
      let whole : level_in (entry ∷ older) lit ≡ Some j = ap (λ (xs : List TrueLit). level_in xs lit) (sym (up_whole vars clauses (entry ∷ older) k t below)) ∙ e in
      let low : j ≤ entry.level = level_below vars clauses (entry ∷ older) lit j t whole in
      (whole, omega arith)
]

-- what became true above a level has no value up to it
pub up_free : (vars : ℕ) (clauses : List Clause) (trail : List TrueLit) (k lit j : ℕ) → IsTrail vars clauses trail → level_in trail lit ≡ Some j → k < j → IsFree (up_to k trail) lit
up_free vars clauses trail k lit j t e l = record {
  one = elim (option_cases (level_in (up_to k trail) lit)) [
    | inl none ↦ none
    | inr some ↦
        let there = true_up vars clauses trail k lit some.0 t some.1 in
        let same : some.0 ≡ j = same_Some some.0 j (sym there.0 ∙ e) in
        absurd (omega (arith, there.1))
  ];
  other = elim (option_cases (level_in (up_to k trail) (opposite lit))) [
    | inl none ↦ none
    | inr some ↦
        let there = true_up vars clauses trail k (opposite lit) some.0 t some.1 in
        absurd (none-some some.0 (sym (consistent vars clauses trail lit j t e) ∙ there.0))
  ];
}

-- at the end of each lower level no clause was false or unit
made_quiet : (clauses : List Clause) (older : List TrueLit) (lit level k : ℕ) (reason : Option ℕ) → IsMade clauses older lit level reason → k < level → (k < level_of older → ⊥) → All (IsQuiet older) clauses
made_quiet clauses older lit level k None m l n = m.1
made_quiet clauses older lit level k (Some id) m l n = absurd (n (omega (arith, m.0)))

pub lower_quiet : (vars : ℕ) (clauses : List Clause) (trail : List TrueLit) (k : ℕ) → IsTrail vars clauses trail → k < level_of trail → All (IsQuiet (up_to k trail)) clauses
lower_quiet vars clauses [] k t l = absurd (omega arith)
lower_quiet vars clauses (entry ∷ older) k t l = elim (cases_lt k (level_of older)) [
  | inl deeper ↦ subst (λ (xs : List TrueLit). All (IsQuiet xs) clauses) (sym (up_above k entry older l)) (lower_quiet vars clauses older k t.1 deeper)
  | inr here ↦
      let is : up_to k (entry ∷ older) ≡ older = up_above k entry older l ∙ up_whole vars clauses older k t.1 here in
      subst (λ (xs : List TrueLit). All (IsQuiet xs) clauses) (sym is) (made_quiet clauses older entry.lit entry.level k entry.reason t.0.made l (λ d. omega arith))
]
