-- Digits.
use Rattle.std.proofs.Common.{◌≡◌, ◌∙◌, ◌<◌, ◌≤◌, ◌+◌, ◌-◌, ℕ, Bool, true, false, zero, suc, refl, sym, ap, subst, arith, take, drop, List, [], ◌∷◌, ◌++◌, length, get_or, add-one, inl, inr}
use Rattle.std.specs.Prelude.{◌&&◌, nat_le}
use Rattle.std.specs.List.{list_all}
use Rattle.std.specs.Int.{IsInRange}
use Rattle.std.specs.Char.{is_ascii_digit}
use Rattle.std.proofs.lemmas.Bool.Decides.{leb_tells}
use Rattle.std.proofs.lemmas.List.{take_more}
use Rattle.std.proofs.lemmas.List.Folds.{list_all-append}

and_left : (a b : Bool) → (a && b) ≡ true → a ≡ true
and_left true b e = refl
and_left false b e = e

and_right : (a b : Bool) → (a && b) ≡ true → b ≡ true
and_right true b e = e
and_right false b e = absurd cc

le_of : (i j : ℕ) → nat_le i j ≡ true → i ≤ j
le_of i j h = elim (leb_tells i j) [ inl t ↦ t.1 | inr t ↦ absurd cc ]

pub digit_range : (b : ℕ) → is_ascii_digit b ≡ true → IsInRange 48 57 b
digit_range b e = (le_of 48 b (and_left (nat_le 48 b) (nat_le b 57) e), le_of b 57 (and_right (nat_le 48 b) (nat_le b 57) e))

pub digits_more : (ds : List ℕ) (i : ℕ) → i < length ds → list_all is_ascii_digit (take i ds) ≡ true → is_ascii_digit (get_or ds i 0) ≡ true
    → list_all is_ascii_digit (take (i + 1) ds) ≡ true
digits_more ds i lt all one = rw (take_more ds i 0 lt, list_all-append is_ascii_digit (take i ds) (get_or ds i 0 ∷ []), all, one) refl
