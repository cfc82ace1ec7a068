-- Fields that write numbers, and the numbers that are read of them.
use Rattle.std.proofs.Common.{◌≡◌, ◌∙◌, ◌≤◌, ◌+◌, ◌-◌, ◌*◌, ◌/◌, ◌%◌, ℕ, Bool, true, false, refl, sym, ap, subst, arith, List, [], ◌∷◌, ◌++◌, inl, inr, le-leb, Option, Some, None}
use Rattle.std.specs.Prelude.{◌==◌, cond, option_map}
use Rattle.std.specs.List.{list_any, list_all}
use Rattle.std.specs.Char.{is_ascii_digit}
use Rattle.std.specs.Str.Parse.{digits_value}
use Rattle.std.proofs.lemmas.Bool.{cases_Bool, eq-eqb}
use Rattle.std.proofs.lemmas.Bool.Decides.{leb_tells, eqb_tells}
use Rattle.dimacs_text.specs.Parts.{is_blank}
use Rattle.decimal_text.specs.Number.{is_numeral, number_up_to}
use Rattle.dimacs_text.specs.Number.{sized, signed_of, literal_of}
use Rattle.dimacs_text.specs.Spelled.{WritesNumber}
use Rattle.dimacs_text.specs.declared.number.Signed.{Signed}
use Rattle.dimacs_text.proofs.Cases.{none_some, same_some, and_true}
use Rattle.dimacs_text.proofs.Numbers.{digit_range}
use Rattle.dimacs_text.proofs.Written.{apart, blanks}

-- ---- digits

pub record IsUpTo (most : ℕ) (ds : List ℕ) (n : ℕ) : Type 0 where
  pub numeral : is_numeral ds ≡ true
  pub value : digits_value 10 ds ≡ n
  pub small : n ≤ most

pub up_to : (most : ℕ) (ds : List ℕ) (n : ℕ) → number_up_to most ds ≡ Some n → IsUpTo most ds n
up_to most ds n is = elim (cases_Bool (is_numeral ds)) [
  | inl e ↦ elim (leb_tells (digits_value 10 ds) most) [
    | inl t ↦
        let same : digits_value 10 ds ≡ n = same_some (digits_value 10 ds) n (rw (e, t.0) at is) in
        let le = t.1 in
        record { numeral = e; value = same; small = omega arith }
    | inr t ↦ absurd (none_some n (rw (e, t.0) at is))
  ]
  | inr e ↦ absurd (none_some n (rw e at is))
]

pub up_to_back : (most : ℕ) (ds : List ℕ) (n : ℕ) → is_numeral ds ≡ true → digits_value 10 ds ≡ n → n ≤ most → number_up_to most ds ≡ Some n
up_to_back most ds n numeral value small = rw (numeral, value, le-leb n most small) refl

-- ---- signs

abbrev as_signed : Bool → ℕ → Signed
as_signed negative n = record { negative = negative; size = n }

pub record IsSized (negative : Bool) (ds : List ℕ) (number : Signed) : Type 0 where
  pub sign : negative ≡ number.negative
  pub of : IsUpTo 4294967295 ds number.size

mapped : (negative : Bool) (ds : List ℕ) (number : Signed) (o : Option ℕ) → number_up_to 4294967295 ds ≡ o → option_map (as_signed negative) o ≡ Some number → IsSized negative ds number
mapped negative ds number None is e = absurd (none_some number e)
mapped negative ds number (Some n) is e =
    let same : as_signed negative n ≡ number = same_some (as_signed negative n) number e in
    subst (λ (s : Signed). IsSized negative ds s) same (record { sign = refl; of = up_to 4294967295 ds n is })

sized_back : (negative : Bool) (ds : List ℕ) (number : Signed) → sized negative ds ≡ Some number → IsSized negative ds number
sized_back negative ds number is = mapped negative ds number (number_up_to 4294967295 ds) refl is

-- what is read as a number writes it
pub number_written : (field : List ℕ) (number : Signed) → signed_of field ≡ Some number → WritesNumber field number.negative number.size
number_written [] number is = absurd (none_some number is)
number_written (b ∷ bs) number is = elim (eqb_tells b 45) [
  | inl t ↦
      let back : IsSized true bs number = sized_back true bs number (rw t.0 at is) in
      let field_is : b ∷ bs ≡ cond number.negative (45 ∷ []) [] ++ bs = ap (λ (x : ℕ). x ∷ bs) t.1 ∙ ap (λ (s : Bool). cond s (45 ∷ []) [] ++ bs) back.sign in
      record { digits = bs; field_is = field_is; numeral = back.of.numeral; value = back.of.value }
  | inr t ↦
      let back : IsSized false (b ∷ bs) number = sized_back false (b ∷ bs) number (rw t.0 at is) in
      let field_is : b ∷ bs ≡ cond number.negative (45 ∷ []) [] ++ (b ∷ bs) = ap (λ (s : Bool). cond s (45 ∷ []) [] ++ (b ∷ bs)) back.sign in
      record { digits = b ∷ bs; field_is = field_is; numeral = back.of.numeral; value = back.of.value }
]

no_hyphen : (ds : List ℕ) → is_numeral ds ≡ true → signed_of ds ≡ sized false ds
no_hyphen [] numeral = absurd cc
no_hyphen (d ∷ ds) numeral =
    let range = digit_range d (and_true (is_ascii_digit d) (list_all is_ascii_digit ds) numeral).0 in
    let low : 48 ≤ d = range.0 in
    let other : (d == 45) ≡ false = apart d 45 (λ e. omega arith) in
    rw other refl

read_signed : (negative : Bool) (ds : List ℕ) (n : ℕ) → is_numeral ds ≡ true → digits_value 10 ds ≡ n → n ≤ 4294967295
    → signed_of (cond negative (45 ∷ []) [] ++ ds) ≡ Some (as_signed negative n)
read_signed true ds n numeral value small = ap (option_map (as_signed true)) (up_to_back 4294967295 ds n numeral value small)
read_signed false ds n numeral value small = no_hyphen ds numeral ∙ ap (option_map (as_signed false)) (up_to_back 4294967295 ds n numeral value small)

-- what writes a number is read as it
pub number_read : (field : List ℕ) (negative : Bool) (n : ℕ) → WritesNumber field negative n → n ≤ 4294967295 → signed_of field ≡ Some (as_signed negative n)
number_read field negative n writes small = ap signed_of writes.field_is ∙ read_signed negative writes.digits n writes.numeral writes.value small

-- ---- no blank in a number

digits_free : (ds : List ℕ) → list_all is_ascii_digit ds ≡ true → list_any is_blank ds ≡ false
digits_free [] all = refl
digits_free (d ∷ ds) all =
    let both = and_true (is_ascii_digit d) (list_all is_ascii_digit ds) all in
    let range = digit_range d both.0 in
    let here : is_blank d ≡ false = blanks.digit d range.0 range.1 in
    rw here (digits_free ds both.1)

numeral_free : (ds : List ℕ) → is_numeral ds ≡ true → list_any is_blank ds ≡ false
numeral_free [] numeral = refl
numeral_free (d ∷ ds) numeral = digits_free (d ∷ ds) numeral

sign_free : (negative : Bool) (ds : List ℕ) → list_any is_blank ds ≡ false → list_any is_blank (cond negative (45 ∷ []) [] ++ ds) ≡ false
sign_free true ds free = free
sign_free false ds free = free

pub field_free : (field : List ℕ) (negative : Bool) (n : ℕ) → WritesNumber field negative n → list_any is_blank field ≡ false
field_free field negative n writes = ap (list_any is_blank) writes.field_is ∙ sign_free negative writes.digits (numeral_free writes.digits writes.numeral)

-- the first byte is a digit or a hyphen
pub record BeginsAsNumber (field : List ℕ) : Type 0 where
  pub first : ℕ
  pub others : List ℕ
  pub is : field ≡ first ∷ others
  pub blank : is_blank first ≡ false
  pub letter : (first == 99) ≡ false

numeral_begins : (ds : List ℕ) → is_numeral ds ≡ true → BeginsAsNumber ds
numeral_begins [] numeral = absurd cc
numeral_begins (d ∷ ds) numeral =
    let range = digit_range d (and_true (is_ascii_digit d) (list_all is_ascii_digit ds) numeral).0 in
    let low : 48 ≤ d = range.0 in
    let high : d ≤ 57 = range.1 in
    record { first = d; others = ds; is = refl; blank = blanks.digit d low high; letter = apart d 99 (λ e. omega arith) }

sign_begins : (negative : Bool) (ds : List ℕ) → is_numeral ds ≡ true → BeginsAsNumber (cond negative (45 ∷ []) [] ++ ds)
sign_begins true ds numeral = record { first = 45; others = ds; is = refl; blank = refl; letter = refl }
sign_begins false ds numeral = numeral_begins ds numeral

pub field_begins : (field : List ℕ) (negative : Bool) (n : ℕ) → WritesNumber field negative n → BeginsAsNumber field
field_begins field negative n writes = subst BeginsAsNumber (sym writes.field_is) (sign_begins negative writes.digits writes.numeral)

-- ---- literals

pub record IsLiteral (number : Signed) : Type 0 where
  pub sign : (literal_of number % 2 == 1) ≡ number.negative
  pub size : literal_of number / 2 + 1 ≡ number.size

signs : (negative : Bool) (n : ℕ) → (n ≡ 0 → ⊥) → IsLiteral (record { negative = negative; size = n })
signs true n some =
    let odd : (2 * (n - 1) + 1) % 2 ≡ 1 = omega arith in
    record { sign = eq-eqb ((2 * (n - 1) + 1) % 2) 1 odd; size = omega arith }
signs false n some = record { sign = apart ((2 * (n - 1) + 0) % 2) 1 (λ e. omega arith); size = omega arith }

pub literal_is : (number : Signed) → (number.size ≡ 0 → ⊥) → IsLiteral number
literal_is number some = signs number.negative number.size some
