-- Fields and numbers, a byte at a time.
use Rattle.std.proofs.Common.{◌≡◌, ◌<◌, ◌≤◌, ℕ, true, zero, suc, refl, arith, List, [], ◌∷◌, length, drop, get_or, drop-cons, None, Some}
use Rattle.aiger_parts.specs.Reading.{ends_field, field_length, number_of, number_from}

pub field_stops : (xs : List ℕ) (i : ℕ) → i < length xs → ends_field (get_or xs i 0) ≡ true → field_length (drop i xs) ≡ 0
field_stops xs i lt e = rw (drop-cons xs i 0) (rw e refl)

pub field_ends : (xs : List ℕ) (i : ℕ) → length xs ≤ i → field_length (drop i xs) ≡ 0
field_ends [] zero le = refl
field_ends [] (suc i) le = refl
field_ends (x ∷ xs) zero le = absurd (omega arith)
field_ends (x ∷ xs) (suc i) le = field_ends xs i (omega arith)

pub number_begins : (xs : List ℕ) → 0 < length xs → number_of xs ≡ number_from (Some 0) xs
unfolding number_of
number_begins [] lt = absurd (omega arith)
number_begins (x ∷ xs) lt = refl

pub number_none : (xs : List ℕ) → length xs ≡ 0 → number_of xs ≡ None
unfolding number_of
number_none [] e = refl
number_none (x ∷ xs) e = absurd (omega arith)
