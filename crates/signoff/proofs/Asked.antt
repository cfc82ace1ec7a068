-- The words ask for one sign-off at most.
use Rattle.std.proofs.Common.{◌≡◌, sym, ◌∙◌, ◌≤◌, ℕ, List, [], ◌∷◌, decimal, arith, refl}
use Rattle.std.proofs.lemmas.Fmt.{decimal_injective}
use Rattle.signoff.specs.declared.words.Times.{Times}
use Rattle.signoff.specs.Words.{Asks}

one_number : (m n : ℕ) → m ≤ 1000000000 → n ≤ 1000000000 → decimal m ≡ decimal n → m ≡ n
one_number m n small_m small_n same = decimal_injective m n (omega arith) (omega arith) same

same_times : (p q l k h i : ℕ) → p ≡ q → l ≡ k → h ≡ i → ◌≡◌ {A = Times} (record { period = p; low = l; high = h }) (record { period = q; low = k; high = i })
same_times p q l k h i e f g = rw (e, f, g) refl

four : (a b c d e f g h : List ℕ) → (a ∷ b ∷ c ∷ d ∷ []) ≡ (e ∷ f ∷ g ∷ h ∷ []) → (a ≡ e) × (b ≡ f) × (c ≡ g) × (d ≡ h)
four a b c d e f g h is = (cc, cc, cc, cc)

pub asked_once : (words : List (List ℕ)) (name other : List ℕ) (times at : Times) → Asks words name times → Asks words other at → (name ≡ other) × (times ≡ at)
asked_once words name other times at one also =
    let parts = four _ _ _ _ _ _ _ _ (sym one.words_are ∙ also.words_are) in
    let period = one_number times.period at.period one.times_are.period_to also.times_are.period_to parts.1 in
    let low = one_number times.low at.low (let a = one.times_are in omega arith) (let b = also.times_are in omega arith) parts.2 in
    let high = one_number times.high at.high one.times_are.arrival_to also.times_are.arrival_to parts.3 in
    (parts.0, same_times times.period at.period times.low at.low times.high at.high period low high)
