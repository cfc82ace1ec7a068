-- What of a text is still to come: words and what parts them, a comment only where no clause is open, and the clauses that they close.
use Rattle.std.proofs.Common.{◌≡◌, ◌∙◌, ◌<◌, ◌≤◌, ◌+◌, ◌*◌, ◌/◌, ◌%◌, ℕ, Bool, true, false, suc, refl, sym, ap, arith, List, [], ◌∷◌, ◌++◌, length, append_assoc, append-nil, inl, inr, Result, Ok}
use Rattle.rsfq_ids.specs.declared.limits.TheConstants.{FORMULA_LIMIT}
use Rattle.std.specs.Prelude.{◌==◌}
use Rattle.std.specs.List.{list_any}
use Rattle.std.proofs.lemmas.Bool.Decides.{eqb_tells}
use Rattle.rsfq_ids.specs.Formula.{Clause}
use Rattle.dimacs_text.specs.Parts.{lines, is_blank, is_newline, is_empty}
use Rattle.dimacs_text.specs.Reading.{Said, after_word, after_lines, unless_fault, once, is_comment}
use Rattle.dimacs_text.specs.Spelled.{WritesNumber}
use Rattle.dimacs_text.specs.declared.number.Signed.{Signed}
use Rattle.dimacs_text.specs.declared.fault.TextFault.{TextFault}
use Rattle.dimacs_text.proofs.Cases.{and_none}
use Rattle.dimacs_text.proofs.Written.{part_first, signed_literal, literal_back}
use Rattle.dimacs_text.proofs.WordSays.{says_zero, says_literal}
use Rattle.dimacs_text.proofs.Fields.{number_read, field_free, field_begins}
use Rattle.dimacs_text.proofs.Middle.{middle, middle_blank, middle_word, middle_line}

abbrev pub said : List Clause → Clause → Said
said closed pending = record { closed = closed; pending = pending }

-- from within a line on, with the literals of the clause that is open
pub data Tail (vars : ℕ) : Clause → List ℕ → List Clause → Type 0 where
  nothing : Tail vars [] [] []
  blank_first : {pending : Clause} {bytes : List ℕ} {clauses : List Clause} (b : ℕ) → is_blank b ≡ true → Tail vars pending bytes clauses → Tail vars pending (b ∷ bytes) clauses
  comment_first : {bytes : List ℕ} {clauses : List Clause} (note : List ℕ) → list_any is_newline note ≡ false → Tail vars [] (10 ∷ bytes) clauses → Tail vars [] (10 ∷ 99 ∷ (note ++ 10 ∷ bytes)) clauses
  literal_first : {pending : Clause} {bytes : List ℕ} {clauses : List Clause} (field : List ℕ) (lit b : ℕ) → WritesNumber field (lit % 2 == 1) (lit / 2 + 1) → lit < 2 * vars → is_blank b ≡ true
      → Tail vars (pending ++ lit ∷ []) (b ∷ bytes) clauses → Tail vars pending (field ++ b ∷ bytes) clauses
  end_first : {pending : Clause} {bytes : List ℕ} {clauses : List Clause} (field : List ℕ) (negative : Bool) (b : ℕ) → WritesNumber field negative 0 → is_blank b ≡ true
      → Tail vars [] (b ∷ bytes) clauses → Tail vars pending (field ++ b ∷ bytes) (once pending ∷ clauses)

-- ---- a tail is read

blank_is_no_c : (b : ℕ) → is_blank b ≡ true → (b == 99) ≡ false
blank_is_no_c b blank = elim (eqb_tells b 99) [
  | inr t ↦ t.0
  | inl t ↦ let no : false ≡ true = ap is_blank (sym t.1) ∙ blank in absurd cc
]

field_is_no_comment : (field rest : List ℕ) (negative : Bool) (n : ℕ) → WritesNumber field negative n → is_comment (field ++ rest) ≡ false
field_is_no_comment field rest negative n writes =
    let begins = field_begins field negative n writes in
    ap (λ (w : List ℕ). is_comment (w ++ rest)) begins.is ∙ begins.letter

no_comment : {vars : ℕ} {pending : Clause} {bytes : List ℕ} {clauses : List Clause} → Tail vars pending bytes clauses → is_comment bytes ≡ false
no_comment nothing = refl
no_comment (blank_first b is rest) = blank_is_no_c b is
no_comment (comment_first note free rest) = refl
no_comment (literal_first {bytes = bytes} field lit b writes within is rest) = field_is_no_comment field (b ∷ bytes) (lit % 2 == 1) (lit / 2 + 1) writes
no_comment (end_first {bytes = bytes} field negative b writes is rest) = field_is_no_comment field (b ∷ bytes) negative 0 writes

some_field : (field : List ℕ) (negative : Bool) (n : ℕ) → WritesNumber field negative n → 0 < length field
some_field field negative n writes =
    let begins = field_begins field negative n writes in
    rw begins.is (omega arith)

pub note_line : (vars : ℕ) (closed : List Clause) (at : ℕ) (note bytes : List ℕ) → list_any is_newline note ≡ false
    → middle vars (said closed []) (lines at (10 ∷ 99 ∷ (note ++ 10 ∷ bytes))) ≡ middle vars (said closed []) (lines (at + suc (suc (length note))) (10 ∷ bytes))
note_line vars closed at note bytes free =
    let place : at + 1 + suc (suc (length note)) ≡ at + suc (suc (length note)) + 1 = omega arith in
    ap (after_lines vars (said closed [])) (part_first is_newline (at + 1) (99 ∷ note) 10 bytes free refl)
    ∙ ap (λ (k : ℕ). after_lines vars (said closed []) (lines k bytes)) place

abbrev Reads : ℕ → Said → List ℕ → Said → Type 0
Reads vars from bytes to = (at : ℕ) → middle vars from (lines at bytes) ≡ Ok to

blank_read : (vars : ℕ) (from to : Said) (b : ℕ) (bytes : List ℕ) → is_blank b ≡ true → is_comment bytes ≡ false → Reads vars from bytes to → Reads vars from (b ∷ bytes) to
blank_read vars from to b bytes blank other reads at = elim (eqb_tells b 10) [
  | inl t ↦
      ap (λ (x : ℕ). middle vars from (lines at (x ∷ bytes))) t.1
      ∙ middle_line vars from (at + 1) bytes (and_none (is_empty from.pending) (is_comment bytes) other)
      ∙ reads (at + 1)
  | inr t ↦ middle_blank vars from at b bytes blank t.0 ∙ reads (at + 1)
]

word_read : (vars : ℕ) (from mid to : Said) (field : List ℕ) (b : ℕ) (bytes : List ℕ) → 0 < length field → list_any is_blank field ≡ false → is_blank b ≡ true
    → ((at : ℕ) → after_word vars from (record { start = at; bytes = field }) ≡ Ok mid) → Reads vars mid (b ∷ bytes) to → Reads vars from (field ++ b ∷ bytes) to
word_read vars from mid to field b bytes some free blank says reads at =
    middle_word vars from at field b bytes some free blank
    ∙ ap (unless_fault (λ (next : Said). middle vars next (lines (at + length field) (b ∷ bytes)))) (says at)
    ∙ reads (at + length field)

abbrev given : Said → Result Said TextFault
given s = Ok s

pub tail_read : {vars : ℕ} {pending : Clause} {bytes : List ℕ} {clauses : List Clause} → vars ≤ FORMULA_LIMIT → (closed : List Clause) → Tail vars pending bytes clauses
    → Reads vars (said closed pending) bytes (said (closed ++ clauses) [])
tail_read small closed nothing = λ at. ap (λ (c : List Clause). given (said c [])) (sym (append-nil closed))
tail_read {vars} {pending} {bytes = _} {clauses} small closed (blank_first {bytes = bytes} b is rest) =
    blank_read vars (said closed pending) (said (closed ++ clauses) []) b bytes is (no_comment rest) (tail_read small closed rest)
tail_read {vars} small closed (comment_first {bytes = bytes} note free rest) = λ at.
    note_line vars closed at note bytes free ∙ tail_read small closed rest (at + suc (suc (length note)))
tail_read {vars} {pending} {bytes = _} {clauses} small closed (literal_first {bytes = bytes} field lit b writes within is rest) =
    let number : Signed = signed_literal lit in
    let read = number_read field (lit % 2 == 1) (lit / 2 + 1) writes (omega arith) in
    word_read vars (said closed pending) (said closed (pending ++ lit ∷ [])) (said (closed ++ clauses) []) field b bytes
    (some_field field (lit % 2 == 1) (lit / 2 + 1) writes) (field_free field (lit % 2 == 1) (lit / 2 + 1) writes) is
    (λ at. says_literal vars (said closed pending) at field number (sym read) (λ e. omega arith) (omega arith) ∙ ap (λ (l : ℕ). given (said closed (pending ++ l ∷ []))) (literal_back lit))
    (tail_read small closed rest)
tail_read {vars} {pending} small closed (end_first {bytes = bytes} {clauses = clauses} field negative b writes is rest) =
    let number : Signed = record { negative = negative; size = 0 } in
    let read = number_read field negative 0 writes (omega arith) in
    word_read vars (said closed pending) (said (closed ++ once pending ∷ []) []) (said (closed ++ once pending ∷ clauses) []) field b bytes
    (some_field field negative 0 writes) (field_free field negative 0 writes) is
    (λ at. says_zero vars (said closed pending) at field number (sym read) refl)
    (λ at. tail_read small (closed ++ once pending ∷ []) rest at ∙ ap (λ (c : List Clause). given (said c [])) (append_assoc closed (once pending ∷ []) clauses))
