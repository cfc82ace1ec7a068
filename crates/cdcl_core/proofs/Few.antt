-- A list of numbers below a bound, none of them twice, is no longer than the bound.
use Rattle.std.proofs.Common.{◌≡◌, ◌∙◌, ◌<◌, ◌≤◌, ◌*◌, ◌/◌, inl, inr, ℕ, true, false, refl, sym, arith, List, [], ◌∷◌, map, length}
use Rattle.std.specs.Prelude.{◌==◌, Some, None}
use Rattle.std.specs.List.{IsDistinct, AllByRecursion}
use Rattle.std.proofs.Math.Dec.{eqb}
use Rattle.std.proofs.lemmas.Bool.{cases_Bool, eqb-true, eq-eqb, ne_eqb, or_cases, or_parts}
use Rattle.std.proofs.lemmas.List.{length-map}
use Rattle.std.proofs.lemmas.Map.Steps.{length-le_from_distinct_below}
use Rattle.rsfq_ids.specs.Formula.{opposite}
use Rattle.proof_arena.specs.Step.{is_among}
use Rattle.cdcl_core.specs.declared.trail.TrueLit.{TrueLit}
use Rattle.cdcl_core.specs.Trail.{level_in}
use Rattle.cdcl_core.specs.Oldest.{IsPlain, AreOnce}
use Rattle.cdcl_core.proofs.Opposites.{same_half}

none_same : (x : ℕ) (xs : List ℕ) → is_among xs x ≡ false → AllByRecursion (λ y. eqb x y ≡ false) xs
none_same x [] e = tt
none_same x (y ∷ ys) e = let both = or_parts (x == y) (is_among ys x) e in (both.0, none_same x ys both.1)

distinct_once : (xs : List ℕ) → AreOnce xs → IsDistinct eqb xs
unfolding IsDistinct
distinct_once [] o = tt
distinct_once (x ∷ xs) o = (none_same x xs o.0, distinct_once xs o.1)

pub few_once : (xs : List ℕ) (n : ℕ) → AreOnce xs → ((q : ℕ) → is_among xs q ≡ true → q < n) → length xs ≤ n
few_once xs n once below = length-le_from_distinct_below xs n (distinct_once xs once) below

-- what a literal without a value says of the newest true literal, and of the others
pub free_parts : (entry : TrueLit) (older : List TrueLit) (lit : ℕ) → level_in (entry ∷ older) lit ≡ None → (lit ≡ entry.lit → ⊥) × (level_in older lit ≡ None)
free_parts entry older lit e = elim (cases_Bool (lit == entry.lit)) [
  | inl same ↦ let no : Some entry.level ≡ None = rw same at e in absurd (cc)
  | inr differ ↦ (
    (λ s. let yes : (lit == entry.lit) ≡ true = eq-eqb lit entry.lit s in let no : true ≡ false = sym yes ∙ differ in absurd (cc)),
    rw differ at e,
  )
]

abbrev pub vars_of : List TrueLit → List ℕ
vars_of trail = map (λ (entry : TrueLit). entry.lit / 2) trail

free_var : (trail : List TrueLit) (lit : ℕ) → level_in trail lit ≡ None → level_in trail (opposite lit) ≡ None → is_among (vars_of trail) (lit / 2) ≡ false
free_var [] lit one other = refl
free_var (entry ∷ older) lit one other =
    let a = free_parts entry older lit one in
    let b = free_parts entry older (opposite lit) other in
    let differ : (lit / 2 ≡ entry.lit / 2 → ⊥) = λ e. elim (same_half lit entry.lit e) [ inl s ↦ a.0 s | inr s ↦ b.0 s ] in
    rw (ne_eqb (lit / 2) (entry.lit / 2) differ) (free_var older lit a.1 b.1)

once_vars : (vars : ℕ) (trail : List TrueLit) → IsPlain vars trail → AreOnce (vars_of trail)
once_vars vars [] p = tt
once_vars vars (entry ∷ older) p = (free_var older entry.lit p.0.free.one p.0.free.other, once_vars vars older p.1)

below_vars : (vars : ℕ) (trail : List TrueLit) → IsPlain vars trail → (q : ℕ) → is_among (vars_of trail) q ≡ true → q < vars
below_vars vars [] p q h = let no : false ≡ true = h in absurd (cc)
below_vars vars (entry ∷ older) p q h = elim (or_cases (q == entry.lit / 2) (is_among (vars_of older) q) h) [
  | inl same ↦ let e : q ≡ entry.lit / 2 = eqb-true q (entry.lit / 2) same in let l : entry.lit < 2 * vars = p.0.within in omega arith
  | inr rest ↦ below_vars vars older p.1 q rest
]

-- there are no more true literals than variables
pub plain_few : (vars : ℕ) (trail : List TrueLit) → IsPlain vars trail → length trail ≤ vars
plain_few vars trail p =
    let few : length (vars_of trail) ≤ vars = few_once (vars_of trail) vars (once_vars vars trail p) (below_vars vars trail p) in
    let size : length (vars_of trail) ≡ length trail = length-map trail (λ (entry : TrueLit). entry.lit / 2) in
    omega arith
