-- The places of marked literals, and the walk from one to the next.
use Rattle.std.proofs.Common.{◌≡◌, ◌∙◌, ◌<◌, ◌≤◌, ◌+◌, ◌-◌, ◌⊎◌, inl, inr, zero, suc, ℕ, Bool, true, false, refl, sym, ap, subst, arith, List, [], ◌∷◌, length, drop, take, get_or}
use Rattle.std.specs.Prelude.{◌||◌, ◌==◌, Option, Some, None, MatchOption}
use Rattle.std.specs.List.{All, Contains}
use Rattle.std.specs.List.Sorted.{IsPermutation}
use Rattle.std.proofs.Math.Seq.{drop-cons}
use Rattle.std.proofs.lemmas.Bool.{cases_Bool, cases_lt, cases_eq, or_cases, eqb-true}
use Rattle.std.proofs.lemmas.List.Elements.{All-contains}
use Rattle.std.proofs.lemmas.List.Sorted.{Contains-permutation, length_permutation}
use Rattle.rsfq_ids.specs.Formula.{Clause, opposite}
use Rattle.proof_arena.specs.Step.{is_among}
use Rattle.cdcl_core.specs.declared.trail.TrueLit.{TrueLit}
use Rattle.cdcl_core.specs.Trail.{IsTrail}
use Rattle.cdcl_core.specs.Oldest.{oldest, IsAt}
use Rattle.cdcl_core.specs.Queued.{IsNextBelow, AreQueued}
use Rattle.cdcl_core.specs.Analysis.{IsAnalysis, IsNext}
use Rattle.cdcl_core.proofs.Opposites.{opp_opp}
use Rattle.cdcl_core.proofs.Chains.{differ_bools}
use Rattle.cdcl_core.proofs.Growing.{oldest_trail}
use Rattle.cdcl_core.proofs.Analysing.{skipped}

-- the oldest and one more
oldest_cons : (trail : List TrueLit) (n : ℕ) → n < length trail → (entry : TrueLit) × (oldest (n + 1) trail ≡ entry ∷ oldest n trail)
oldest_cons trail n l =
    let none : TrueLit = record { lit = 0; level = 0; reason = None } in
    let at = length trail - (n + 1) in
    let next : suc at ≡ length trail - n = omega arith in
    (get_or trail at none, drop-cons trail at none (omega arith) ∙ ap (λ k. get_or trail at none ∷ drop k trail) next)

-- true literals that are not marked are passed over
pub skip_down : (vars : ℕ) (clauses : List Clause) (trail : List TrueLit) (level : ℕ) (marked : ℕ → Bool) (count : ℕ) (learnt : Clause) (hints : List ℕ) (low fuel : ℕ) → IsTrail vars clauses trail → low + fuel ≤ length trail
    → ((n lit : ℕ) → low ≤ n → n < low + fuel → IsAt trail n (opposite lit) → marked lit ≡ true → ⊥)
    → IsAnalysis clauses trail (oldest (low + fuel) trail) level marked count learnt hints → IsAnalysis clauses trail (oldest low trail) level marked count learnt hints
skip_down vars clauses trail level marked count learnt hints low zero t l none a =
    let same : low + 0 ≡ low = omega arith in
    subst (λ n. IsAnalysis clauses trail (oldest n trail) level marked count learnt hints) same a
skip_down vars clauses trail level marked count learnt hints low (suc k) t l none a =
    let n = low + k in
    let next : low + suc k ≡ n + 1 = omega arith in
    let cons = oldest_cons trail n (omega arith) in
    let there : oldest (n + 1) trail ≡ cons.0 ∷ oldest n trail = cons.1 in
    let off : marked (opposite cons.0.lit) ≡ false = elim (cases_Bool (marked (opposite cons.0.lit))) [
      | inr off ↦ off
      | inl on ↦ absurd (none n (opposite cons.0.lit) (omega arith) (omega arith) (record { entry = cons.0; there = there; has = sym (opp_opp cons.0.lit) }) on)
    ] in
    let here : IsAnalysis clauses trail (cons.0 ∷ oldest n trail) level marked count learnt hints =
    subst (λ (xs : List TrueLit). IsAnalysis clauses trail xs level marked count learnt hints) (ap (λ m. oldest m trail) next ∙ there) a in
    let tail : IsTrail vars clauses (cons.0 ∷ oldest n trail) = subst (IsTrail vars clauses) there (oldest_trail vars clauses trail (n + 1) t) in
    skip_down vars clauses trail level marked count learnt hints low k t (omega arith) (λ m lit down up at m_on. none m lit down (omega arith) at m_on)
    (skipped vars clauses trail cons.0 (oldest n trail) level marked count learnt hints tail here off)

-- down to the greatest marked place below
pub skip_to : (vars : ℕ) (clauses : List Clause) (trail : List TrueLit) (level : ℕ) (marked : ℕ → Bool) (count : ℕ) (learnt : Clause) (hints queue new : List ℕ) (place next : ℕ) → IsTrail vars clauses trail → place ≤ length trail
    → AreQueued trail marked place queue → IsNextBelow queue new place next
    → IsAnalysis clauses trail (oldest place trail) level marked count learnt hints → IsAnalysis clauses trail (oldest (next + 1) trail) level marked count learnt hints
skip_to vars clauses trail level marked count learnt hints queue new place next t l queued is a =
    let below : next < place = is.below in
    let e : place ≡ next + 1 + (place - (next + 1)) = omega arith in
    skip_down vars clauses trail level marked count learnt hints (next + 1) (place - (next + 1)) t (omega arith)
    (λ n lit down up at on. is.none n (omega arith) (omega arith) (queued n lit (omega arith) at on))
    (subst (λ n. IsAnalysis clauses trail (oldest n trail) level marked count learnt hints) e a)

-- down to the first, where no place is left
pub skip_all : (vars : ℕ) (clauses : List Clause) (trail : List TrueLit) (level : ℕ) (marked : ℕ → Bool) (count : ℕ) (learnt : Clause) (hints queue : List ℕ) (place : ℕ) → IsTrail vars clauses trail → place ≤ length trail
    → AreQueued trail marked place queue → ((n : ℕ) → n < place → Contains queue n → ⊥)
    → IsAnalysis clauses trail (oldest place trail) level marked count learnt hints → IsAnalysis clauses trail (oldest 0 trail) level marked count learnt hints
skip_all vars clauses trail level marked count learnt hints queue place t l queued none a =
    let e : place ≡ 0 + place = omega arith in
    skip_down vars clauses trail level marked count learnt hints 0 place t (omega arith)
    (λ n lit down up at on. none n (omega arith) (queued n lit (omega arith) at on))
    (subst (λ n. IsAnalysis clauses trail (oldest n trail) level marked count learnt hints) e a)

-- the places of newly marked literals are put in
pub more_queued : (trail : List TrueLit) (clause : Clause) (marked new : ℕ → Bool) (place : ℕ) (old queue : List ℕ) → place ≤ length trail
    → ((lit : ℕ) → new lit ≡ (is_among clause lit || marked lit)) → ((n : ℕ) → Contains old n → Contains queue n)
    → ((lit : ℕ) → is_among clause lit ≡ true → marked lit ≡ false → (n : ℕ) → n < length trail → IsAt trail n (opposite lit) → Contains queue n)
    → AreQueued trail marked place old → AreQueued trail new place queue
more_queued trail clause marked new place old queue l marks kept added queued = λ n lit below at on. elim (cases_Bool (marked lit)) [
  | inl was ↦ kept n (queued n lit below at was)
  | inr off ↦ elim (or_cases (is_among clause lit) (marked lit) (sym (marks lit) ∙ on)) [
    | inl here ↦ added lit here off n (omega arith) at
    | inr was ↦ absurd (differ_bools (sym was ∙ off))
  ]
]

-- nothing is marked at the beginning
pub none_queued : (trail : List TrueLit) (marked : ℕ → Bool) (place : ℕ) (queue : List ℕ) → marked ≡ (λ (lit : ℕ). false) → AreQueued trail marked place queue
none_queued trail marked place queue off = λ n lit below at on. absurd (differ_bools (sym on ∙ ap (λ (f : ℕ → Bool). f lit) off))

pub fewer_queued : (trail : List TrueLit) (marked : ℕ → Bool) (place next : ℕ) (queue new : List ℕ) → AreQueued trail marked place queue → IsNextBelow queue new place next → AreQueued trail marked next new
fewer_queued trail marked place next queue new queued is = λ n lit l at on. let below : next < place = is.below in is.kept n l (queued n lit (omega arith) at on)

no_place : (queue : List ℕ) (n : ℕ) → queue ≡ [] → Contains queue n → ⊥
no_place queue n e has = let l : has.0 < length queue = has.1 in let size : length queue ≡ 0 = ap (λ (xs : List ℕ). length xs) e in absurd (omega arith)

from_cons : (xs : List ℕ) (x n k : ℕ) → k < length (x ∷ xs) → get_or (x ∷ xs) k n ≡ n → (n ≡ x) ⊎ Contains xs n
from_cons xs x n zero l e = inl (sym e)
from_cons xs x n (suc k) l e = inr (k, omega arith, e)

in_cons : (xs : List ℕ) (x n : ℕ) → Contains (x ∷ xs) n → (n ≡ x) ⊎ Contains xs n
in_cons xs x n has = from_cons xs x n has.0 has.1 has.2

-- what is left after the greatest was taken out
popped_keeps : (old new : List ℕ) (place n : ℕ) → IsPermutation old (place ∷ new) → Contains old n → (n ≡ place) ⊎ Contains new n
popped_keeps old new place n perm has = in_cons new place n (Contains-permutation old (place ∷ new) n perm has)

abbrev pub KeptBelow : List ℕ → List ℕ → ℕ → Type 0
KeptBelow old queue place = (n : ℕ) → n < place → Contains old n → Contains queue n

-- one turn of the search for the next place
pub turn_none : (old queue : List ℕ) (place : ℕ) → KeptBelow old queue place → queue ≡ [] → (n : ℕ) → n < place → Contains old n → ⊥
turn_none old queue place kept e = λ n l has. no_place queue n e (kept n l has)

pub turn_over : (old queue new : List ℕ) (place next : ℕ) → KeptBelow old queue place → IsPermutation queue (next ∷ new) → place ≤ next → KeptBelow old new place
turn_over old queue new place next kept perm over = λ n l has. elim (popped_keeps queue new next n perm (kept n l has)) [
  | inl same ↦ absurd (omega arith)
  | inr rest ↦ rest
]

pub turn_found : (old queue new : List ℕ) (place next : ℕ) → KeptBelow old queue place → IsPermutation queue (next ∷ new) → All (λ n. n ≤ next) new → next < place → IsNextBelow old new place next
turn_found old queue new place next kept perm greatest below = record {
  below = below;
  none = λ n up l has. elim (popped_keeps queue new next n perm (kept n l has)) [
    | inl same ↦ absurd (omega arith)
    | inr rest ↦ let top : n ≤ next = All-contains (λ m. m ≤ next) new n greatest rest in absurd (omega arith)
  ];
  kept = λ n l has. elim (popped_keeps queue new next n perm (kept n (omega arith) has)) [
    | inl same ↦ absurd (omega arith)
    | inr rest ↦ rest
  ];
}

pub turn_shorter : (queue new : List ℕ) (next : ℕ) → IsPermutation queue (next ∷ new) → length new + 1 ≡ length queue
turn_shorter queue new next perm = let e = length_permutation queue (next ∷ new) perm in omega (arith, e)

tail_at : (old : List ℕ) (place n k : ℕ) → k < length old → get_or old k n ≡ n → (k + 1 < length (place ∷ old)) × (get_or (place ∷ old) (k + 1) n ≡ n)
tail_at old place n k l e = let next : k + 1 ≡ suc k = omega arith in (omega arith, ap (λ m. get_or (place ∷ old) m n) next ∙ e)

-- what a heap holds after a push
pub pushed_keeps : (old new : List ℕ) (place n : ℕ) → IsPermutation (place ∷ old) new → Contains old n → Contains new n
pushed_keeps old new place n perm has = Contains-permutation (place ∷ old) new n perm (has.0 + 1, (tail_at old place n has.0 has.1 has.2).0, (tail_at old place n has.0 has.1 has.2).1)

pub pushed_has : (old new : List ℕ) (place : ℕ) → IsPermutation (place ∷ old) new → Contains new place
pushed_has old new place perm = Contains-permutation (place ∷ old) new place perm (0, omega arith, refl)

pub empty_list : (xs : List ℕ) → length xs ≡ 0 → xs ≡ []
empty_list [] e = refl
empty_list (x ∷ xs) e = absurd (omega arith)
