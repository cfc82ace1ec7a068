-- Texts that were written piece by piece, read again: their parts, and their numbers.
use Rattle.std.proofs.Common.{◌≡◌, ◌∙◌, ◌<◌, ◌≤◌, ◌+◌, ◌-◌, ◌*◌, ◌/◌, ◌%◌, ◌^◌, ℕ, Bool, true, false, zero, suc, refl, sym, ap, ap₂, subst, arith, take, drop, List, [], ◌∷◌, ◌++◌, length, get_or, inl, inr, Option, Some, None, decimal, append_assoc, le-leb}
use Rattle.std.specs.Prelude.{◌==◌, ◌&&◌, ◌||◌, not, nat_le, cond, option_map}
use Rattle.std.specs.List.{All, filter, list_any, list_all, flat_map}
use Rattle.std.specs.Char.{is_ascii_digit, digit_value}
use Rattle.std.specs.Str.Parse.{AllDigits, digits_value}
use Rattle.std.proofs.lemmas.Bool.{cases_Bool}
use Rattle.std.proofs.lemmas.Bool.Decides.{eqb_tells}
use Rattle.std.proofs.lemmas.List.Folds.{list_any-append}
use Rattle.std.proofs.lemmas.List.Elements.{All-head, All-tail}
use Rattle.std.proofs.lemmas.Fmt.{decimal_is_IsNumeral}
use Rattle.std.proofs.lemmas.Str.Parse.{digit_from_value}
use Rattle.rsfq_ids.specs.Formula.{IsOver}
use Rattle.dimacs_text.specs.Parts.{Part, parts, words, with_byte, has_bytes, is_newline, is_blank, is_space}
use Rattle.decimal_text.specs.Number.{is_numeral, number_up_to}
use Rattle.dimacs_text.specs.Number.{sized, signed_of, literal_of}
use Rattle.dimacs_text.specs.Text.{literal_text, spaced_literal}
use Rattle.dimacs_text.specs.declared.number.Signed.{Signed}
use Rattle.dimacs_text.proofs.WordLemmas.{kept, some_byte}

-- ---- parts

pub or_left : (a b : Bool) → (a || b) ≡ false → a ≡ false
or_left true b e = absurd cc
or_left false b e = refl

pub or_right : (a b : Bool) → (a || b) ≡ false → b ≡ false
or_right true b e = absurd cc
or_right false b e = e

-- bytes that end no part, and one that does
pub part_first : (p : ℕ → Bool) (at : ℕ) (xs : List ℕ) (b : ℕ) (rest : List ℕ) → list_any p xs ≡ false → p b ≡ true
    → parts p at (xs ++ b ∷ rest) ≡ record { start = at; bytes = xs } ∷ parts p (at + suc (length xs)) rest
part_first p at [] b rest free ends = rw ends refl
part_first p at (x ∷ xs) b rest free ends =
    let here : p x ≡ false = or_left (p x) (list_any p xs) free in
    let later : list_any p xs ≡ false = or_right (p x) (list_any p xs) free in
    let place : at + 1 + suc (length xs) ≡ at + suc (suc (length xs)) = omega arith in
    rw here (ap (with_byte at x) (part_first p (at + 1) xs b rest later ends) ∙ ap (λ k. record { start = at; bytes = x ∷ xs } ∷ parts p k rest) place)

pub word_first : (p : ℕ → Bool) (at : ℕ) (xs : List ℕ) (b : ℕ) (rest : List ℕ) → 0 < length xs → list_any p xs ≡ false → p b ≡ true
    → words p at (xs ++ b ∷ rest) ≡ record { start = at; bytes = xs } ∷ words p (at + suc (length xs)) rest
word_first p at xs b rest some free ends =
    ap (filter has_bytes) (part_first p at xs b rest free ends)
    ∙ kept (record { start = at; bytes = xs }) (parts p (at + suc (length xs)) rest) (some_byte xs some)

-- ---- digits

-- no part ends in the bytes of a number
pub record Separates (p : ℕ → Bool) : Type 0 where
  pub digit : (b : ℕ) → 48 ≤ b → b ≤ 57 → p b ≡ false
  pub hyphen : p 45 ≡ false

pub apart : (b k : ℕ) → (b ≡ k → ⊥) → (b == k) ≡ false
apart b k other = elim (eqb_tells b k) [ inl t ↦ absurd (other t.1) | inr t ↦ t.0 ]

pub newlines : Separates is_newline
newlines = record { digit = λ b low high. apart b 10 (λ e. omega arith); hyphen = refl }

pub spaces : Separates is_space
spaces = record { digit = λ b low high. apart b 32 (λ e. omega arith); hyphen = refl }

pub blanks : Separates is_blank
blanks = record {
  digit = λ b low high. rw (apart b 32 (λ e. omega arith), apart b 10 (λ e. omega arith), apart b 9 (λ e. omega arith), apart b 13 (λ e. omega arith), apart b 12 (λ e. omega arith)) refl;
  hyphen = refl;
}

pub no_end : (p : ℕ → Bool) → Separates p → (ds : List ℕ) → AllDigits 10 ds → list_any p ds ≡ false
no_end p apart [] all = refl
no_end p apart (d ∷ ds) all =
    let range = digit_from_value d all.0 in
    let here : p d ≡ false = apart.digit d range.0 range.1 in
    rw here (no_end p apart ds all.1)

is_digit : (d : ℕ) → digit_value d < 10 → is_ascii_digit d ≡ true
is_digit d lt =
    let range = digit_from_value d lt in
    rw (le-leb 48 d range.0, le-leb d 57 range.1) refl

all_digits : (ds : List ℕ) → AllDigits 10 ds → list_all is_ascii_digit ds ≡ true
all_digits [] all = refl
all_digits (d ∷ ds) all = rw (is_digit d all.0) (all_digits ds all.1)

numeral : (ds : List ℕ) → 0 < length ds → AllDigits 10 ds → is_numeral ds ≡ true
numeral [] some all = absurd (omega arith)
numeral (d ∷ ds) some all = all_digits (d ∷ ds) all

read_as : (most n : ℕ) (ds : List ℕ) → 0 < length ds → AllDigits 10 ds → digits_value 10 ds ≡ n → n ≤ most → number_up_to most ds ≡ Some n
read_as most n ds some all is le = rw (numeral ds some all, is, le-leb n most le) refl

-- what was written of a number is read as the number
pub number_read : (most n : ℕ) → n ≤ most → n < 2 ^ 64 → number_up_to most (decimal n) ≡ Some n
number_read most n le lt =
    let is = decimal_is_IsNumeral n lt in
    read_as most n (decimal n) is.0.0 is.0.1 is.1 le

pub decimal_free : (p : ℕ → Bool) → Separates p → (n : ℕ) → n < 2 ^ 64 → list_any p (decimal n) ≡ false
decimal_free p apart n lt = no_end p apart (decimal n) (decimal_is_IsNumeral n lt).0.1

pub decimal_some : (n : ℕ) → n < 2 ^ 64 → 0 < length (decimal n)
decimal_some n lt = (decimal_is_IsNumeral n lt).0.0

-- ---- literals

abbrev pub signed_literal : ℕ → Signed
signed_literal lit = record { negative = lit % 2 == 1; size = lit / 2 + 1 }

pub literal_back : (lit : ℕ) → literal_of (signed_literal lit) ≡ lit
literal_back lit = elim (eqb_tells (lit % 2) 1) [
  | inl t ↦ let odd = t.1 in rw t.0 (omega arith)
  | inr t ↦ let even = t.1 in let none : lit % 2 ≡ 0 = omega arith in rw t.0 (omega arith)
]

pub literal_free : (p : ℕ → Bool) → Separates p → (lit : ℕ) → lit < 2 ^ 33 → list_any p (literal_text lit) ≡ false
literal_free p apart lit lt =
    let digits : list_any p (decimal (lit / 2 + 1)) ≡ false = decimal_free p apart (lit / 2 + 1) (omega arith) in
    elim (cases_Bool (lit % 2 == 1)) [
      | inl e ↦ rw (e, apart.hyphen) digits
      | inr e ↦ rw e digits
    ]

pub literal_some : (lit : ℕ) → lit < 2 ^ 33 → 0 < length (literal_text lit)
literal_some lit lt =
    let digits : 0 < length (decimal (lit / 2 + 1)) = decimal_some (lit / 2 + 1) (omega arith) in
    elim (cases_Bool (lit % 2 == 1)) [
      | inl e ↦ rw e (omega arith)
      | inr e ↦ rw e digits
    ]

-- digits alone have no hyphen
pub plain_signed : (ds : List ℕ) → 0 < length ds → AllDigits 10 ds → signed_of ds ≡ sized false ds
plain_signed [] some all = absurd (omega arith)
plain_signed (d ∷ ds) some all =
    let range = digit_from_value d all.0 in
    let low = range.0 in
    let no_hyphen : (d == 45) ≡ false = apart d 45 (λ e. omega arith) in
    rw no_hyphen refl

pub signed_number : (n : ℕ) → n ≤ 4294967295 → signed_of (decimal n) ≡ Some (record { negative = false; size = n })
signed_number n le =
    let is = decimal_is_IsNumeral n (omega arith) in
    plain_signed (decimal n) is.0.0 is.0.1
    ∙ ap (option_map (λ (m : ℕ). let s : Signed = record { negative = false; size = m } in s)) (number_read 4294967295 n le (omega arith))

pub signed_read : (lit : ℕ) → lit / 2 + 1 ≤ 4294967295 → signed_of (literal_text lit) ≡ Some (signed_literal lit)
signed_read lit le = elim (cases_Bool (lit % 2 == 1)) [
  | inl e ↦ rw e (ap (option_map (λ (m : ℕ). let s : Signed = record { negative = true; size = m } in s)) (number_read 4294967295 (lit / 2 + 1) le (omega arith)))
  | inr e ↦ rw e (signed_number (lit / 2 + 1) le)
]

-- literals that are small, each with a space behind it
pub literals_free : (p : ℕ → Bool) → Separates p → p 32 ≡ false → (lits : List ℕ) → All (λ lit. lit < 2 ^ 33) lits → list_any p (flat_map spaced_literal lits) ≡ false
literals_free p apart space [] small = refl
literals_free p apart space (lit ∷ lits) small =
    let here = literal_free p apart lit (All-head (λ l. l < 2 ^ 33) lit lits small) in
    let rest = literals_free p apart space lits (All-tail (λ l. l < 2 ^ 33) lit lits small) in
    rw (list_any-append p (spaced_literal lit) (flat_map spaced_literal lits), list_any-append p (literal_text lit) (32 ∷ []), here, space) rest

-- a word, a space, and what follows
pub regroup : (w xs ys : List ℕ) → ((w ++ 32 ∷ []) ++ xs) ++ ys ≡ w ++ 32 ∷ (xs ++ ys)
regroup w xs ys = simp append_assoc

pub small_literals : (vars : ℕ) (lits : List ℕ) → vars < 2 ^ 32 → IsOver vars lits → All (λ lit. lit < 2 ^ 33) lits
small_literals vars lits fits over = λ k d lt. let here : get_or lits k d < 2 * vars = over k d lt in omega arith
