-- The numbers of inputs.
use Rattle.std.proofs.Common.{◌≡◌, ◌<◌, ◌/◌, ℕ, zero, suc, refl, ap, ◌∙◌, arith, List, [], ◌∷◌, take, Some}
use Rattle.std.specs.Prelude.{slice_get, map}
use Rattle.std.proofs.lemmas.Option.{same_Some}
use Rattle.aiger_order.specs.Numbers.{Known, HoldsOnce}
use Rattle.aiger_order.specs.Listing.{IsDefinition}

pub get_taken : {A : Type 0} (xs : List A) (n i : ℕ) (x : A) → slice_get (take n xs) i ≡ Some x → (i < n) × (slice_get xs i ≡ Some x)
get_taken [] zero i x e = absurd cc
get_taken [] (suc n) i x e = absurd cc
get_taken (y ∷ xs) zero i x e = absurd cc
get_taken (y ∷ xs) (suc n) zero x e = (omega arith, e)
get_taken (y ∷ xs) (suc n) (suc i) x e = let rest = get_taken xs n i x e in let lt = rest.0 in (omega arith, rest.1)

mapped : (xs : List ℕ) (i v : ℕ) → slice_get (map (λ (l : ℕ). l / 2) xs) i ≡ Some v → (l : ℕ) × (slice_get xs i ≡ Some l) × (l / 2 ≡ v)
mapped [] i v e = absurd cc
mapped (x ∷ xs) zero v e = (x, refl, same_Some (x / 2) v e)
mapped (x ∷ xs) (suc i) v e = mapped xs i v e

pub fresh_input : (top : ℕ) (inputs : List ℕ) (i literal : ℕ) → ((at l : ℕ) → slice_get inputs at ≡ Some l → IsDefinition top l) → HoldsOnce inputs → slice_get inputs i ≡ Some literal
    → ¬ Known (0 ∷ map (λ (l : ℕ). l / 2) (take i inputs)) (literal / 2)
fresh_input top inputs i literal ok once is (zero, e) =
    let d = ok i literal is in
    let lhs = d.1 in
    let low = d.2 in
    let same : 0 ≡ literal / 2 = same_Some 0 (literal / 2) e in
    absurd (omega arith)
fresh_input top inputs i literal ok once is (suc n, e) =
    let at = mapped (take i inputs) n (literal / 2) e in
    let old = get_taken inputs i n at.0 at.1 in
    let lt = old.0 in
    let d = ok i literal is in
    let f = ok n at.0 old.1 in
    let d_is = d.1 in
    let f_is = f.1 in
    let half = at.2 in
    let same : at.0 ≡ literal = omega arith in
    let place : n ≡ i = once n i literal (old.1 ∙ ap Some same) is in
    absurd (omega arith)
