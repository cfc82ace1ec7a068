-- Fields of digits, read and written.
use Rattle.std.proofs.Common.{◌≡◌, ◌≢◌, ◌∙◌, inl, inr, ◌<◌, ◌+◌, ◌==◌, ℕ, Bool, true, false, cond, suc, refl, ap, sym, subst, arith, List, [], ◌∷◌, ◌++◌, length, take, drop, Option, None, Some, Ok}
use Rattle.std.specs.List.{AllZip}
use Rattle.std.specs.Char.{digit_value}
use Rattle.std.specs.Str.Parse.{AllDigits}
use Rattle.std.proofs.lemmas.Bool.{ne_eqb}
use Rattle.std.proofs.lemmas.Str.Parse.{digit_from_value}
use Rattle.std.proofs.lemmas.List.{take-append-drop}
use Rattle.aiger_parts.specs.Reading.{ends_field, field_length, number_of, number_or, number_at, field_at}
use Rattle.aiger_read.specs.Spelling.{WritesNumber}
use Rattle.aiger_read.proofs.WellFormed.{given, same_value, bind_ok}
use Rattle.aiger_read.proofs.Numbers.{numbers}
use Rattle.aiger_read.proofs.FileLines.{IsTail, take_front, drop_front, IsOneLine, AllSome}

pair : ℕ → List ℕ → ℕ × List ℕ
pair n rest = (n, rest)

-- The bytes begin with a field that writes a number, and no more of its digits follow.
pub record FieldAt (bytes : List ℕ) (n : ℕ) (rest : List ℕ) : Type 0 where
  pub field : List ℕ
  pub parts : bytes ≡ field ++ rest
  pub writes : WritesNumber field n
  pub stops : field_length rest ≡ 0

stopped : (bytes : List ℕ) → field_length (drop (field_length bytes) bytes) ≡ 0
stopped [] = refl
stopped (x ∷ xs) = go (ends_field x) refl (stopped xs) where
  go : (t : Bool) → ends_field x ≡ t → field_length (drop (field_length xs) xs) ≡ 0 → field_length (drop (cond t 0 (1 + field_length xs)) (x ∷ xs)) ≡ 0
  go true is more = rw is refl
  go false is more = let one : 1 + field_length xs ≡ suc (field_length xs) = omega arith in rw one more

pub number_read : (bytes : List ℕ) (n : ℕ) (rest : List ℕ) → number_at bytes ≡ given (n, rest) → FieldAt bytes n rest
number_read bytes n rest e = go (number_of (take (field_length bytes) bytes)) refl e where
  go : (o : Option ℕ) → number_of (take (field_length bytes) bytes) ≡ o → number_or bytes (field_length bytes) o ≡ given (n, rest) → FieldAt bytes n rest
  go None is h = absurd cc
  go (Some value) is h =
      let both = same_value (value, drop (field_length bytes) bytes) (n, rest) h in
      let value_is : value ≡ n = ap (λ (p : ℕ × List ℕ). p.0) both in
      let rest_is : drop (field_length bytes) bytes ≡ rest = ap (λ (p : ℕ × List ℕ). p.1) both in
      record {
        field = take (field_length bytes) bytes;
        parts = sym (take-append-drop (field_length bytes) bytes) ∙ ap (λ (r : List ℕ). take (field_length bytes) bytes ++ r) rest_is;
        writes = (numbers (take (field_length bytes) bytes) n).0 (is ∙ ap Some value_is);
        stops = ap field_length (sym rest_is) ∙ stopped bytes;
      }

-- ---- digits end no field and no line

digit_goes : (b : ℕ) → digit_value b < 10 → (ends_field b ≡ false) × ((b == 10) ≡ false)
digit_goes b digit =
    let range = digit_from_value b digit in
    let low = range.0 in
    let high = range.1 in
    let space : b ≢ 32 = λ e. absurd (omega arith) in
    let newline : b ≢ 10 = λ e. absurd (omega arith) in
    (rw (ne_eqb b 32 space, ne_eqb b 10 newline) refl, ne_eqb b 10 newline)

digits_length : (field tail : List ℕ) → AllDigits 10 field → field_length tail ≡ 0 → field_length (field ++ tail) ≡ length field
digits_length [] tail all stops = stops
digits_length (b ∷ bs) tail all stops =
    let more = digits_length bs tail all.1 stops in
    let one : 1 + length bs ≡ suc (length bs) = omega arith in
    rw ((digit_goes b all.0).0, more) one

digits_line : (field : List ℕ) → AllDigits 10 field → IsOneLine field
digits_line [] all = refl
digits_line (b ∷ bs) all = rw (digit_goes b all.0).1 (digits_line bs all.1)

pub field_one_line : (field : List ℕ) (n : ℕ) → WritesNumber field n → IsOneLine field
field_one_line field n w = digits_line field w.digits.1

pub field_some : (field : List ℕ) (n : ℕ) → WritesNumber field n → 0 < length field
field_some field n w = w.digits.0

pub field_ends : (field tail : List ℕ) (n : ℕ) → WritesNumber field n → field_length tail ≡ 0 → field_length (field ++ tail) ≡ length field
field_ends field tail n w stops = digits_length field tail w.digits.1 stops

pub number_written : (field tail : List ℕ) (n : ℕ) → WritesNumber field n → field_length tail ≡ 0 → number_at (field ++ tail) ≡ given (n, tail)
number_written field tail n w stops =
    let len = field_ends field tail n w stops in
    let read : number_of field ≡ Some n = (numbers field n).1 w in
    rw (len, take_front field tail, read, drop_front field tail) refl

pub tail_stops : (tail rest : List ℕ) → IsTail tail rest → field_length tail ≡ 0
tail_stops tail rest (inl newline) = rw newline refl
tail_stops tail rest (inr (empty, none)) = rw empty refl

-- ---- with the byte behind the field

pub field_read : (bytes : List ℕ) (n : ℕ) (rest : List ℕ) → field_at bytes ≡ given (n, rest) → (tail : List ℕ) × FieldAt bytes n tail × (drop 1 tail ≡ rest)
unfolding pair
field_read bytes n rest e =
    let number = bind_ok (number_at bytes) (λ x. Ok (x.0, drop 1 x.1)) (pair n rest) e in
    let both = same_value (pair number.0.0 (drop 1 number.0.1)) (pair n rest) number.2 in
    let value : number.0.0 ≡ n = ap (λ (p : ℕ × List ℕ). p.0) both in
    (number.0.1, subst (λ (m : ℕ). FieldAt bytes m number.0.1) value (number_read bytes number.0.0 number.0.1 number.1), ap (λ (p : ℕ × List ℕ). p.1) both)

pub field_written : (field tail : List ℕ) (n : ℕ) → WritesNumber field n → field_length tail ≡ 0 → field_at (field ++ tail) ≡ given (n, drop 1 tail)
field_written field tail n w stops = rw (number_written field tail n w stops) refl

pub all_some : (lines : List (List ℕ)) (numbers : List ℕ) → AllZip WritesNumber lines numbers → AllSome lines
all_some [] [] each = tt
all_some [] (n ∷ ns) each = absurd each
all_some (line ∷ lines) [] each = absurd each
all_some (line ∷ lines) (n ∷ ns) each = (field_some line n each.0, all_some lines ns each.1)
