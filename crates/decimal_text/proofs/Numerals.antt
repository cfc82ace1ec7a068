-- Numerals as a test and as a fact.
use Rattle.std.proofs.Common.{◌≡◌, ◌∙◌, ℕ, ◌<◌, ◌≤◌, ◌&&◌, Bool, true, false, sym, refl, ap, arith, List, [], ◌∷◌, length, Some, None, inl, inr}
use Rattle.std.specs.List.{list_all}
use Rattle.std.specs.Char.{is_ascii_digit}
use Rattle.std.specs.Str.{all_ascii_digits}
use Rattle.std.specs.Str.Parse.{IsNumeral, digits_value}
use Rattle.std.proofs.lemmas.Str.Parse.{IsNumeralModel, numerals_by_value, tells_all_ascii_digits}
use Rattle.std.specs.Prelude.{nat_le, if◌then◌else◌}
use Rattle.std.proofs.lemmas.Bool.{le-leb}
use Rattle.std.proofs.lemmas.Bool.Decides.{leb_tells}
use Rattle.decimal_text.specs.Number.{is_numeral, number_up_to}

own : IsNumeralModel (λ ds. all_ascii_digits ds ≡ true) (digits_value 10)
own = numerals_by_value (λ ds. all_ascii_digits ds ≡ true) tells_all_ascii_digits

all_same : (ds : List ℕ) → list_all is_ascii_digit ds ≡ all_ascii_digits ds
all_same [] = refl
all_same (d ∷ ds) = ap (λ rest. is_ascii_digit d && rest) (all_same ds)

pub numeral_is : (ds : List ℕ) → IsNumeral 10 ds → is_numeral ds ≡ true
numeral_is [] numeral = let bad = numeral.0 in absurd (omega arith)
numeral_is (d ∷ ds) numeral = all_same (d ∷ ds) ∙ own.from (d ∷ ds) numeral.1

pub is_numeral_is : (ds : List ℕ) → is_numeral ds ≡ true → IsNumeral 10 ds
is_numeral_is [] is = cc
is_numeral_is (d ∷ ds) is = (omega arith, own.to (d ∷ ds) (sym (all_same (d ∷ ds)) ∙ is))

pub value_is : (most n : ℕ) (ds : List ℕ) → IsNumeral 10 ds → n ≡ digits_value 10 ds → n ≤ most → Some n ≡ number_up_to most ds
value_is most n ds numeral is small = rw (is, numeral_is ds numeral, le-leb (digits_value 10 ds) most (omega arith)) refl

pub none_is : (most : ℕ) (ds : List ℕ) → ¬ (IsNumeral 10 ds) → None ≡ number_up_to most ds
none_is most ds bad = go (is_numeral ds) refl
  where
    go : (b : Bool) → is_numeral ds ≡ b → None ≡ number_up_to most ds
    go true e = absurd (bad (is_numeral_is ds e))
    go false e = rw e refl

pub large_is : (most : ℕ) (ds : List ℕ) → most < digits_value 10 ds → None ≡ number_up_to most ds
large_is most ds large = go (is_numeral ds) (nat_le (digits_value 10 ds) most) refl refl
  where
    go : (b small : Bool) → is_numeral ds ≡ b → nat_le (digits_value 10 ds) most ≡ small → None ≡ number_up_to most ds
    go false small e f = rw e refl
    go true false e f = rw (e, f) refl
    go true true e f = elim (leb_tells (digits_value 10 ds) most) [ inl t ↦ absurd (let le = t.1 in omega arith) | inr t ↦ absurd cc ]
