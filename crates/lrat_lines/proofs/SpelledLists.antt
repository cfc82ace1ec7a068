-- Fields that write numbers, and lists of them.
use Rattle.std.proofs.Common.{◌≡◌, ◌∙◌, ◌<◌, ◌≤◌, ℕ, Bool, true, false, refl, sym, ap, subst, arith, List, [], ◌∷◌, ◌++◌, inl, inr, Option, Some, None}
use Rattle.std.specs.Prelude.{◌==◌, cond, option_map}
use Rattle.std.specs.List.{AllZip, list_any, list_all}
use Rattle.std.specs.Char.{is_ascii_digit}
use Rattle.std.specs.Str.{bytes_eq}
use Rattle.std.proofs.lemmas.Bool.{cases_Bool, ne_eqb, and_parts, and_from}
use Rattle.std.proofs.lemmas.Bool.Decides.{eqb_tells}
use Rattle.std.proofs.lemmas.Slice.Eq.{bytes_eq-Decides}
use Rattle.dimacs_text.specs.Parts.{Part, is_space}
use Rattle.decimal_text.specs.Number.{is_numeral, number_up_to}
use Rattle.dimacs_text.specs.Number.{signed_of}
use Rattle.dimacs_text.specs.Spelled.{WritesNumber}
use Rattle.dimacs_text.specs.declared.number.Signed.{Signed}
use Rattle.dimacs_text.proofs.Fields.{up_to, up_to_back, number_read, number_written}
use Rattle.lrat_lines.specs.declared.field.Field.{Field}
use Rattle.lrat_lines.specs.declared.field.Field.TheVariants.{End, Number, Broken}
use Rattle.lrat_lines.specs.Lines.{number_field, field_of, list_from, list_of}
use Rattle.lrat_lines.specs.Spelled.{WritesId, WritesListed, zero_field}
use Rattle.lrat_lines.proofs.SpelledFields.{bytes_of, is_field}

-- ---- no space in a number

pub digit_apart : (d k : ℕ) → is_ascii_digit k ≡ false → is_ascii_digit d ≡ true → (d == k) ≡ false
digit_apart d k other digit = elim (eqb_tells d k) [
  | inl t ↦ let no : false ≡ true = sym other ∙ ap is_ascii_digit (sym t.1) ∙ digit in absurd cc
  | inr t ↦ t.0
]

digits_free : (ds : List ℕ) → list_all is_ascii_digit ds ≡ true → list_any is_space ds ≡ false
digits_free [] all = refl
digits_free (d ∷ ds) all = let both = and_parts (is_ascii_digit d) (list_all is_ascii_digit ds) all in rw (digit_apart d 32 refl both.0) (digits_free ds both.1)

signed_field : (negative : Bool) (ds : List ℕ) → is_numeral ds ≡ true → is_field (cond negative (45 ∷ []) [] ++ ds) ≡ true
signed_field negative [] numeral = absurd cc
signed_field true (d ∷ ds) numeral = let free : list_any is_space (d ∷ ds) ≡ false = digits_free (d ∷ ds) numeral in rw free refl
signed_field false (d ∷ ds) numeral = let free : list_any is_space (d ∷ ds) ≡ false = digits_free (d ∷ ds) numeral in rw free refl

pub number_field_is : (field : List ℕ) (negative : Bool) (n : ℕ) → WritesNumber field negative n → is_field field ≡ true
number_field_is field negative n writes = ap is_field writes.field_is ∙ signed_field negative writes.digits writes.numeral

pub listed_fields : (fields : List (List ℕ)) (numbers : List Signed) → AllZip WritesListed fields numbers → list_all is_field fields ≡ true
listed_fields [] numbers all = refl
listed_fields (field ∷ fields) [] all = absurd all
listed_fields (field ∷ fields) (number ∷ numbers) all =
    and_from (is_field field) (list_all is_field fields) (number_field_is field number.negative number.size all.0.writes) (listed_fields fields numbers all.1)

-- ---- ids

-- the first byte of an id is a digit
pub record BeginsDigit (field : List ℕ) : Type 0 where
  pub first : ℕ
  pub others : List ℕ
  pub is : field ≡ first ∷ others
  pub digit : is_ascii_digit first ≡ true

numeral_begins : (ds : List ℕ) → is_numeral ds ≡ true → BeginsDigit ds
numeral_begins [] numeral = absurd cc
numeral_begins (d ∷ ds) numeral = record { first = d; others = ds; is = refl; digit = (and_parts (is_ascii_digit d) (list_all is_ascii_digit ds) numeral).0 }

pub id_begins : (field : List ℕ) (id : ℕ) → WritesId field id → BeginsDigit field
id_begins field id is = subst BeginsDigit (sym is.writes.field_is) (numeral_begins is.writes.digits is.writes.numeral)

pub id_read : (field : List ℕ) (id : ℕ) → WritesId field id → number_up_to 4294967295 field ≡ Some id
id_read field id is = ap (number_up_to 4294967295) is.writes.field_is ∙ up_to_back 4294967295 is.writes.digits id is.writes.numeral is.writes.value is.small

pub id_found : (field : List ℕ) (id : ℕ) → number_up_to 4294967295 field ≡ Some id → WritesId field id
id_found field id is =
    let of = up_to 4294967295 field id is in
    record { writes = record { digits = field; field_is = refl; numeral = of.numeral; value = of.value }; small = of.small }

-- ---- fields of a list

abbrev as_signed : Bool → ℕ → Signed
as_signed negative n = record { negative = negative; size = n }

small_from : (negative : Bool) (ds : List ℕ) (number : Signed) (o : Option ℕ) → number_up_to 4294967295 ds ≡ o → option_map (as_signed negative) o ≡ Some number → number.size ≤ 4294967295
small_from negative ds number None has is = absurd cc
small_from negative ds number (Some n) has is =
    let same : as_signed negative n ≡ number = cc in
    let size : n ≡ number.size = ap (λ (s : Signed). s.size) same in
    let small = (up_to 4294967295 ds n has).small in
    omega arith

signed_small : (field : List ℕ) (number : Signed) → signed_of field ≡ Some number → number.size ≤ 4294967295
signed_small [] number is = absurd cc
signed_small (b ∷ bs) number is = elim (eqb_tells b 45) [
  | inl t ↦ small_from true bs number (number_up_to 4294967295 bs) refl (rw t.0 at is)
  | inr t ↦ small_from false (b ∷ bs) number (number_up_to 4294967295 (b ∷ bs)) refl (rw t.0 at is)
]

some_number : (number : Signed) → 0 < number.size → number_field (Some number) ≡ Number number
some_number number some = let other : (number.size == 0) ≡ false = ne_eqb number.size 0 (λ e. omega arith) in rw other refl

field_read : (field : List ℕ) (number : Signed) → WritesListed field number → field_of field ≡ Number number
field_read field number is =
    let read = number_read field number.negative number.size is.writes is.small in
    let some = is.some in
    elim (cases_Bool (bytes_eq field zero_field)) [
      | inl e ↦
          let zero : field ≡ zero_field = (bytes_eq-Decides field zero_field).0 e in
          let same : Some (as_signed false 0) ≡ Some (as_signed number.negative number.size) = ap signed_of (sym zero) ∙ read in
          let none : 0 ≡ number.size = cc in
          absurd (omega arith)
      | inr e ↦ rw e (ap number_field read ∙ some_number number some)
    ]

not_end : (o : Option Signed) → number_field o ≡ End → ⊥
not_end None is = cc
not_end (Some number) is = elim (cases_Bool (number.size == 0)) [ inl e ↦ let no : Broken ≡ End = rw e at is in cc | inr e ↦ let no : Number number ≡ End = rw e at is in cc ]

end_found : (field : List ℕ) → field_of field ≡ End → field ≡ zero_field
end_found field is = elim (cases_Bool (bytes_eq field zero_field)) [
  | inl e ↦ (bytes_eq-Decides field zero_field).0 e
  | inr e ↦ absurd (not_end (signed_of field) (rw e at is))
]

numbered : (field : List ℕ) (number : Signed) (o : Option Signed) → signed_of field ≡ o → number_field o ≡ Number number → WritesListed field number
numbered field number None has is = absurd cc
numbered field number (Some n) has is = elim (eqb_tells n.size 0) [
  | inl t ↦ let no : Broken ≡ Number number = rw t.0 at is in absurd cc
  | inr t ↦
      let same : Number n ≡ Number number = rw t.0 at is in
      let number_is : n ≡ number = cc in
      let some = t.1 in
      subst (WritesListed field) number_is (record { writes = number_written field n has; some = omega arith; small = signed_small field n has })
]

number_found : (field : List ℕ) (number : Signed) → field_of field ≡ Number number → WritesListed field number
number_found field number is = elim (cases_Bool (bytes_eq field zero_field)) [
  | inl e ↦ let no : End ≡ Number number = rw e at is in absurd cc
  | inr e ↦ numbered field number (signed_of field) refl (rw e at is)
]

-- ---- lists

-- the fields of a list, and those behind its 0
pub record IsList (words : List Part) (numbers : List Signed) (rest : List (List ℕ)) : Type 0 where
  pub fields : List (List ℕ)
  pub fields_are : bytes_of words ≡ fields ++ zero_field ∷ rest
  pub write : AllZip WritesListed fields numbers

ended : (word : Part) (words : List Part) → field_of word.bytes ≡ End → IsList (word ∷ words) [] (bytes_of words)
ended word words is = record { fields = []; fields_are = ap (λ (l : List ℕ). l ∷ bytes_of words) (end_found word.bytes is); write = tt }

one_more : (word : Part) (words : List Part) (number : Signed) (numbers : List Signed) (rest : List (List ℕ)) → field_of word.bytes ≡ Number number → IsList words numbers rest
    → IsList (word ∷ words) (number ∷ numbers) rest
one_more word words number numbers rest is more = record {
  fields = word.bytes ∷ more.fields;
  fields_are = ap (λ (fs : List (List ℕ)). word.bytes ∷ fs) more.fields_are;
  write = (number_found word.bytes number is, more.write);
}

-- what a list of words gives, as `list_of` says it
abbrev Lists : List Part → Option (List Signed × List Part) → Type 0
Lists words None = Unit {0}
Lists words (Some found) = IsList words found.0 (bytes_of found.1)

list_with : (word : Part) (words : List Part) (field : Field) (more : Option (List Signed × List Part)) → field_of word.bytes ≡ field → Lists words more → Lists (word ∷ words) (list_from field words more)
list_with word words End more is lists = ended word words is
list_with word words (Number number) None is lists = tt
list_with word words (Number number) (Some found) is lists = one_more word words number found.0 (bytes_of found.1) is lists
list_with word words Broken more is lists = tt

lists : (words : List Part) → Lists words (list_of words)
lists [] = tt
lists (word ∷ words) = list_with word words (field_of word.bytes) (list_of words) refl (lists words)

pub list_found : (words : List Part) (numbers : List Signed) (rest : List Part) → list_of words ≡ Some (numbers, rest) → IsList words numbers (bytes_of rest)
list_found words numbers rest is = subst (Lists words) is (lists words)

-- a list that is read
pub record ReadsList (words : List Part) (numbers : List Signed) (rest : List (List ℕ)) : Type 0 where
  pub others : List Part
  pub is : list_of words ≡ Some (numbers, others)
  pub others_are : bytes_of others ≡ rest

pub list_read : (fields : List (List ℕ)) (numbers : List Signed) (words : List Part) (rest : List (List ℕ)) → AllZip WritesListed fields numbers → bytes_of words ≡ fields ++ zero_field ∷ rest → ReadsList words numbers rest
list_read [] [] [] rest all is = absurd cc
list_read [] [] (word ∷ words) rest all is =
    let first : word.bytes ≡ zero_field = cc in
    let others : bytes_of words ≡ rest = cc in
    record { others = words; is = ap (λ (l : List ℕ). list_from (field_of l) words (list_of words)) first; others_are = others }
list_read [] (number ∷ numbers) words rest all is = absurd all
list_read (field ∷ fields) [] words rest all is = absurd all
list_read (field ∷ fields) (number ∷ numbers) [] rest all is = absurd cc
list_read (field ∷ fields) (number ∷ numbers) (word ∷ words) rest all is =
    let first : word.bytes ≡ field = cc in
    let others : bytes_of words ≡ fields ++ zero_field ∷ rest = cc in
    let more = list_read fields numbers words rest all.1 others in
    record {
      others = more.others;
      is = ap (λ (l : List ℕ). list_from (field_of l) words (list_of words)) first
          ∙ ap (λ (f : Field). list_from f words (list_of words)) (field_read field number all.0)
          ∙ ap (λ (o : Option (List Signed × List Part)). list_from (Number number) words o) more.is;
      others_are = more.others_are;
    }
