-- Numbers in digits, read and written.
use Rattle.std.proofs.Common.{◌≡◌, ◌∙◌, ◌<◌, ◌≤◌, ◌+◌, ◌-◌, ◌*◌, ◌^◌, ℕ, Bool, cond, true, false, refl, ap, sym, subst, arith, List, [], ◌∷◌, Option, None, Some, ◌&&◌, lit<}
use Rattle.std.specs.Prelude.{nat_lt}
use Rattle.std.specs.Char.{is_ascii_digit, digit_value}
use Rattle.std.specs.Int.{IsInRange}
use Rattle.std.specs.Str.Parse.{AllDigits, digits_value_after}
use Rattle.std.proofs.lemmas.Bool.{ltb-true, lt-ltb}
use Rattle.std.proofs.lemmas.Bool.Decides.{nat_tests}
use Rattle.std.proofs.lemmas.Str.{digit_value_digit}
use Rattle.std.proofs.lemmas.Str.Parse.{digit_from_value}
use Rattle.aiger_parts.specs.Reading.{with_digit, number_from, number_of}
use Rattle.aiger_read.specs.Spelling.{NumbersAreRead}

some_value : (v w : ℕ) → Some v ≡ Some w → v ≡ w
some_value v w e = cc

both_true : (a b : Bool) → (a && b) ≡ true → (a ≡ true) × (b ≡ true)
both_true true b e = (refl, e)
both_true false b e = absurd cc

digit_range : (c : ℕ) → is_ascii_digit c ≡ true → IsInRange 48 57 c
digit_range c e = grind (arith, nat_tests)

range_digit : (c : ℕ) → IsInRange 48 57 c → is_ascii_digit c ≡ true
range_digit c e = grind (arith, nat_tests)

-- a digit behind a number, as the standard's value has it
digit_step : (v b w : ℕ) → with_digit v b ≡ Some w → (digit_value b < 10) × (w ≡ v * 10 + digit_value b) × (w < 2 ^ 32)
digit_step v b w e = go (is_ascii_digit b && nat_lt (v * 10 + (b - 48)) (2 ^ 32)) refl e where
  go : (t : Bool) → (is_ascii_digit b && nat_lt (v * 10 + (b - 48)) (2 ^ 32)) ≡ t → cond t (Some (v * 10 + (b - 48))) None ≡ Some w → (digit_value b < 10) × (w ≡ v * 10 + digit_value b) × (w < 2 ^ 32)
  go false is h = absurd cc
  go true is h =
      let both = both_true (is_ascii_digit b) (nat_lt (v * 10 + (b - 48)) (2 ^ 32)) is in
      let range = digit_range b both.0 in
      let value : digit_value b + 48 ≡ b = digit_value_digit b range in
      let small : v * 10 + (b - 48) < 2 ^ 32 = ltb-true (v * 10 + (b - 48)) (2 ^ 32) both.1 in
      let same : v * 10 + (b - 48) ≡ w = some_value (v * 10 + (b - 48)) w h in
      let low = range.0 in
      let high = range.1 in
      (omega arith, omega arith, omega arith)

step_by : (v b d : ℕ) → is_ascii_digit b ≡ true → b - 48 ≡ d → v * 10 + d < 2 ^ 32 → with_digit v b ≡ Some (v * 10 + d)
step_by v b d digit same small = rw (digit, same, lt-ltb (v * 10 + d) (2 ^ 32) small) refl

step_digit : (v b : ℕ) → digit_value b < 10 → v * 10 + digit_value b < 2 ^ 32 → with_digit v b ≡ Some (v * 10 + digit_value b)
step_digit v b digit small =
    let range = digit_from_value b digit in
    let value : digit_value b + 48 ≡ b = digit_value_digit b range in
    step_by v b (digit_value b) (range_digit b range) (omega arith) small

number_ok : (v n : ℕ) (bs : List ℕ) → v < 2 ^ 32 → number_from (Some v) bs ≡ Some n → AllDigits 10 bs × (digits_value_after 10 v bs ≡ n) × (n < 2 ^ 32)
number_ok v n [] small e =
    let same : v ≡ n = some_value v n e in
    (tt, same, subst (λ (m : ℕ). m < 2 ^ 32) same small)
number_ok v n (b ∷ bs) small e = go (with_digit v b) refl e (λ w. number_ok w n bs) where
  go : (o : Option ℕ) → with_digit v b ≡ o → number_from o bs ≡ Some n → ((w : ℕ) → w < 2 ^ 32 → number_from (Some w) bs ≡ Some n → AllDigits 10 bs × (digits_value_after 10 w bs ≡ n) × (n < 2 ^ 32))
      → AllDigits 10 (b ∷ bs) × (digits_value_after 10 v (b ∷ bs) ≡ n) × (n < 2 ^ 32)
  go None is h more = absurd cc
  go (Some w) is h more =
      let step = digit_step v b w is in
      let rest = more w step.2 h in
      ((step.0, rest.0), ap (λ (m : ℕ). digits_value_after 10 m bs) (sym step.1) ∙ rest.1, rest.2)

grows : (v : ℕ) (bs : List ℕ) → v ≤ digits_value_after 10 v bs
grows v [] = omega arith
grows v (b ∷ bs) = let more = grows (v * 10 + digit_value b) bs in omega arith

number_again : (v : ℕ) (bs : List ℕ) → AllDigits 10 bs → digits_value_after 10 v bs < 2 ^ 32 → number_from (Some v) bs ≡ Some (digits_value_after 10 v bs)
number_again v [] all small = refl
number_again v (b ∷ bs) all small =
    let more = grows (v * 10 + digit_value b) bs in
    let here : v * 10 + digit_value b < 2 ^ 32 = omega arith in
    ap (λ (o : Option ℕ). number_from o bs) (step_digit v b all.0 here) ∙ number_again (v * 10 + digit_value b) bs all.1 small

pub numbers : NumbersAreRead
unfolding number_of
numbers [] n = (λ e. absurd cc, λ w. let some = w.digits.0 in absurd (omega arith))
numbers (b ∷ bs) n = (
  λ e.
      let ok = number_ok 0 n (b ∷ bs) (lit< tt) e in
      record { digits = (omega arith, ok.0); value = ok.1; small = ok.2 },
  λ w. number_again 0 (b ∷ bs) w.digits.1 (subst (λ (m : ℕ). m < 2 ^ 32) (sym w.value) w.small) ∙ ap Some w.value,
)
