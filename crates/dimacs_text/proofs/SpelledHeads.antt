-- A line is a head exactly where it is spelled as one.
use Rattle.std.proofs.Common.{◌≡◌, ◌∙◌, ◌≤◌, ℕ, Bool, true, false, refl, sym, ap, subst, take, drop, List, [], ◌∷◌, ◌++◌, length, inl, inr, Option, Some, None}
use Rattle.rsfq_ids.specs.declared.limits.TheConstants.{FORMULA_LIMIT}
use Rattle.std.specs.Prelude.{◌==◌, ◌||◌, codes, option_map}
use Rattle.std.specs.List.{list_any}
use Rattle.std.specs.Option.{option_and_then}
use Rattle.std.specs.Str.{bytes_eq}
use Rattle.std.proofs.lemmas.Bool.{cases_Bool, eqb-true}
use Rattle.std.proofs.lemmas.List.{take-append-drop}
use Rattle.std.proofs.lemmas.List.Folds.{list_any-append}
use Rattle.std.proofs.lemmas.Slice.Eq.{bytes_eq-Decides}
use Rattle.dimacs_text.specs.Parts.{front, is_space, is_blank, is_newline}
use Rattle.decimal_text.specs.Number.{number_up_to}
use Rattle.dimacs_text.specs.Reading.{count_of, sizes_of, head_of, is_comment}
use Rattle.dimacs_text.specs.Spelled.{WritesNumber, IsHeadLine}
use Rattle.dimacs_text.specs.declared.head.Head.{Head}
use Rattle.dimacs_text.proofs.Cases.{none_some, same_some}
use Rattle.dimacs_text.proofs.Written.{or_left, or_right}
use Rattle.dimacs_text.proofs.PartLemmas.{take_front}
use Rattle.dimacs_text.proofs.HeadSays.{as_head, is_head, is_no_head}
use Rattle.dimacs_text.proofs.Fields.{up_to, up_to_back, field_free}
use Rattle.dimacs_text.proofs.Middle.{no_newline}
use Rattle.dimacs_text.proofs.ReadBack.{front_is, rest_of}

-- ---- a spelled head is read

no_space : (xs : List ℕ) → list_any is_blank xs ≡ false → list_any is_space xs ≡ false
no_space [] free = refl
no_space (x ∷ xs) free =
    let here = or_left (is_blank x) (list_any is_blank xs) free in
    let a = or_left (x == 32 || x == 10 || x == 9 || x == 13) (x == 12) here in
    let b = or_left (x == 32 || x == 10 || x == 9) (x == 13) a in
    let c = or_left (x == 32 || x == 10) (x == 9) b in
    let other : (x == 32) ≡ false = or_left (x == 32) (x == 10) c in
    rw other (no_space xs (or_right (is_blank x) (list_any is_blank xs) free))

sizes_read : (first second : List ℕ) (vars clauses : ℕ) → list_any is_space first ≡ false → number_up_to FORMULA_LIMIT first ≡ Some vars → number_up_to FORMULA_LIMIT second ≡ Some clauses
    → sizes_of (first ++ 32 ∷ second) ≡ Some (as_head vars clauses)
sizes_read first second vars clauses free one two =
    ap (λ (f : List ℕ). option_and_then (λ (v : ℕ). option_map (as_head v) (count_of (drop (length f) (first ++ 32 ∷ second)))) (number_up_to FORMULA_LIMIT f)) (front_is is_space first 32 second free refl)
    ∙ ap (λ (r : List ℕ). option_and_then (λ (v : ℕ). option_map (as_head v) (count_of r)) (number_up_to FORMULA_LIMIT first)) (rest_of first (32 ∷ second))
    ∙ ap (option_and_then (λ (v : ℕ). option_map (as_head v) (number_up_to FORMULA_LIMIT second))) one
    ∙ ap (option_map (as_head vars)) two

plain : (field : List ℕ) (n : ℕ) → WritesNumber field false n → n ≤ FORMULA_LIMIT → number_up_to FORMULA_LIMIT field ≡ Some n
plain field n writes small = ap (number_up_to FORMULA_LIMIT) writes.field_is ∙ up_to_back FORMULA_LIMIT writes.digits n writes.numeral writes.value small

abbrev letters : List ℕ → List ℕ
letters sizes = 112 ∷ 32 ∷ 99 ∷ 110 ∷ 102 ∷ 32 ∷ sizes

pub head_read : (line : List ℕ) (vars clauses : ℕ) → IsHeadLine line vars clauses → head_of line ≡ Some (as_head vars clauses)
head_read line vars clauses is =
    let sizes = is.first ++ 32 ∷ is.second in
    ap head_of is.line_is
    ∙ is_head (letters sizes) refl
    ∙ sizes_read is.first is.second vars clauses (no_space is.first (field_free is.first false vars is.first_writes)) (plain is.first vars is.first_writes is.first_small) (plain is.second clauses is.second_writes is.second_small)

pub head_free : (line : List ℕ) (vars clauses : ℕ) → IsHeadLine line vars clauses → list_any is_newline line ≡ false
head_free line vars clauses is =
    let one = no_newline is.first (field_free is.first false vars is.first_writes) in
    let two = no_newline is.second (field_free is.second false clauses is.second_writes) in
    ap (list_any is_newline) is.line_is ∙ (rw (list_any-append is_newline is.first (32 ∷ is.second), one, two) refl)

pub head_no_comment : (line : List ℕ) (vars clauses : ℕ) → IsHeadLine line vars clauses → is_comment line ≡ false
head_no_comment line vars clauses is = ap is_comment is.line_is

-- ---- what is read as a head is spelled

-- the front and the rest
halves : (p : ℕ → Bool) (xs : List ℕ) → front p xs ++ drop (length (front p xs)) xs ≡ xs
halves p xs = ap (λ (l : List ℕ). l ++ drop (length (front p xs)) xs) (sym (take_front p xs)) ∙ take-append-drop (length (front p xs)) xs

behind_front : (p : ℕ → Bool) (xs : List ℕ) (y : ℕ) (ys : List ℕ) → drop (length (front p xs)) xs ≡ y ∷ ys → p y ≡ true
behind_front p [] y ys is = absurd cc
behind_front p (x ∷ xs) y ys is = elim (cases_Bool (p x)) [
  | inl e ↦ let same : x ∷ xs ≡ y ∷ ys = rw e at is in let first : x ≡ y = cc in ap p (sym first) ∙ e
  | inr e ↦ behind_front p xs y ys (rw e at is)
]

record IsSizes (bytes : List ℕ) (head : Head) : Type 0 where
  pub first : List ℕ
  pub second : List ℕ
  pub bytes_are : bytes ≡ first ++ 32 ∷ second
  pub one : number_up_to FORMULA_LIMIT first ≡ Some head.vars
  pub two : number_up_to FORMULA_LIMIT second ≡ Some head.clauses

counted : (bytes : List ℕ) (vars : ℕ) (second : List ℕ) (space : ℕ) (o : Option ℕ) (head : Head) → number_up_to FORMULA_LIMIT (front is_space bytes) ≡ Some vars → drop (length (front is_space bytes)) bytes ≡ space ∷ second
    → number_up_to FORMULA_LIMIT second ≡ o → option_map (as_head vars) o ≡ Some head → IsSizes bytes head
counted bytes vars second space None head one rest two is = absurd (none_some head is)
counted bytes vars second space (Some clauses) head one rest two is =
    let blank : space ≡ 32 = eqb-true space 32 (behind_front is_space bytes space second rest) in
    let same : as_head vars clauses ≡ head = same_some (as_head vars clauses) head is in
    subst (IsSizes bytes) same (record {
      first = front is_space bytes;
      second = second;
      bytes_are = sym (halves is_space bytes) ∙ ap (λ (l : List ℕ). front is_space bytes ++ l) (rest ∙ ap (λ (x : ℕ). x ∷ second) blank);
      one = one;
      two = two;
    })

behind_vars : (bytes : List ℕ) (vars : ℕ) (rest : List ℕ) (head : Head) → number_up_to FORMULA_LIMIT (front is_space bytes) ≡ Some vars → drop (length (front is_space bytes)) bytes ≡ rest
    → option_map (as_head vars) (count_of rest) ≡ Some head → IsSizes bytes head
behind_vars bytes vars [] head one rest is = absurd (none_some head is)
behind_vars bytes vars (space ∷ second) head one rest is = counted bytes vars second space (number_up_to FORMULA_LIMIT second) head one rest refl is

with_vars : (bytes : List ℕ) (o : Option ℕ) (head : Head) → number_up_to FORMULA_LIMIT (front is_space bytes) ≡ o
    → option_and_then (λ (v : ℕ). option_map (as_head v) (count_of (drop (length (front is_space bytes)) bytes))) o ≡ Some head → IsSizes bytes head
with_vars bytes None head one is = absurd (none_some head is)
with_vars bytes (Some vars) head one is = behind_vars bytes vars (drop (length (front is_space bytes)) bytes) head one refl is

sizes_are : (bytes : List ℕ) (head : Head) → sizes_of bytes ≡ Some head → IsSizes bytes head
sizes_are bytes head is = with_vars bytes (number_up_to FORMULA_LIMIT (front is_space bytes)) head refl is

writes_plain : (field : List ℕ) (n : ℕ) → number_up_to FORMULA_LIMIT field ≡ Some n → WritesNumber field false n
writes_plain field n is =
    let of = up_to FORMULA_LIMIT field n is in
    record { digits = field; field_is = refl; numeral = of.numeral; value = of.value }

pub head_spelled : (line : List ℕ) (head : Head) → head_of line ≡ Some head → IsHeadLine line head.vars head.clauses
head_spelled line head is = elim (cases_Bool (bytes_eq (take 6 line) (codes "p cnf "))) [
  | inr e ↦ absurd (none_some head (sym (is_no_head line e) ∙ is))
  | inl e ↦
      let sizes = sizes_are (drop 6 line) head (sym (is_head line e) ∙ is) in
      let word : take 6 line ≡ codes "p cnf " = (bytes_eq-Decides (take 6 line) (codes "p cnf ")).0 e in
      let line_is : line ≡ letters (sizes.first ++ 32 ∷ sizes.second) =
      sym (take-append-drop 6 line) ∙ ap (λ (l : List ℕ). l ++ drop 6 line) word ∙ ap letters sizes.bytes_are in
      record {
        first = sizes.first;
        second = sizes.second;
        line_is = line_is;
        first_writes = writes_plain sizes.first head.vars sizes.one;
        second_writes = writes_plain sizes.second head.clauses sizes.two;
        first_small = (up_to FORMULA_LIMIT sizes.first head.vars sizes.one).small;
        second_small = (up_to FORMULA_LIMIT sizes.second head.clauses sizes.two).small;
      }
]
