-- A text read from within a line on: the words up to the line's end, and the lines behind it.
use Rattle.std.proofs.Common.{◌≡◌, ◌∙◌, ◌<◌, ◌+◌, ℕ, Bool, true, false, suc, refl, sym, ap, arith, drop, List, [], ◌∷◌, ◌++◌, length, append-nil, inl, inr, Result, Ok, Err}
use Rattle.std.specs.Prelude.{◌==◌, ◌&&◌, ◌||◌}
use Rattle.std.specs.List.{filter, list_any}
use Rattle.std.proofs.lemmas.Bool.{cases_Bool}
use Rattle.dimacs_text.specs.Parts.{Part, front, parts, words, lines, with_byte, has_bytes, is_blank, is_newline, is_empty}
use Rattle.dimacs_text.specs.Reading.{Said, after_word, after_words, after_line, after_lines, unless_fault, is_comment}
use Rattle.dimacs_text.specs.declared.fault.TextFault.{TextFault}
use Rattle.dimacs_text.proofs.Cases.{and_none}
use Rattle.dimacs_text.proofs.PartLemmas.{parts_first}
use Rattle.dimacs_text.proofs.WordLemmas.{kept}
use Rattle.dimacs_text.proofs.Written.{or_left, or_right, word_first}

abbrev part : ℕ → List ℕ → Part
part at bytes = record { start = at; bytes = bytes }

-- what the lines say, where no comment begins with the first
abbrev pub middle : ℕ → Said → List Part → Result Said TextFault
middle vars said [] = Ok said
middle vars said (line ∷ rest) = unless_fault (λ next. after_lines vars next rest) (after_words vars said (words is_blank line.start line.bytes))

-- ---- parts

skip : (p : ℕ → Bool) (at b : ℕ) (bs : List ℕ) → p b ≡ false → parts p at (b ∷ bs) ≡ with_byte at b (parts p (at + 1) bs)
skip p at b bs e = rw e refl

skip_word : (p : ℕ → Bool) (at b : ℕ) (bs : List ℕ) → p b ≡ true → words p at (b ∷ bs) ≡ words p (at + 1) bs
skip_word p at b bs e = rw e refl

-- bytes that end no part, before a part
grow : (p : ℕ → Bool) (at : ℕ) (w f ys : List ℕ) (rest : List Part) → list_any p w ≡ false → parts p (at + length w) ys ≡ part (at + length w) f ∷ rest
    → parts p at (w ++ ys) ≡ part at (w ++ f) ∷ rest
grow p at [] f ys rest free is = let none : at + 0 ≡ at = omega arith in rw none at is
grow p at (x ∷ w) f ys rest free is =
    let here : p x ≡ false = or_left (p x) (list_any p w) free in
    let place : at + suc (length w) ≡ at + 1 + length w = omega arith in
    skip p at x (w ++ ys) here ∙ ap (with_byte at x) (grow p (at + 1) w f ys rest (or_right (p x) (list_any p w) free) (rw place at is))

one_part : (p : ℕ → Bool) (at x : ℕ) (xs : List ℕ) → list_any p (x ∷ xs) ≡ false → parts p at (x ∷ xs) ≡ part at (x ∷ xs) ∷ []
one_part p at x [] free = rw (or_left (p x) (list_any p []) free) refl
one_part p at x (y ∷ ys) free =
    skip p at x (y ∷ ys) (or_left (p x) (list_any p (y ∷ ys)) free) ∙ ap (with_byte at x) (one_part p (at + 1) y ys (or_right (p x) (list_any p (y ∷ ys)) free))

only_word : (p : ℕ → Bool) (at : ℕ) (w : List ℕ) → 0 < length w → list_any p w ≡ false → words p at w ≡ part at w ∷ []
only_word p at [] some free = absurd (omega arith)
only_word p at (x ∷ w) some free = ap (filter has_bytes) (one_part p at x w free) ∙ kept (part at (x ∷ w)) [] refl

-- a word before the front of a line, which is empty or begins with a blank
word_before : (at : ℕ) (w : List ℕ) (b : ℕ) (bs : List ℕ) → 0 < length w → list_any is_blank w ≡ false → is_blank b ≡ true
    → words is_blank at (w ++ front is_newline (b ∷ bs)) ≡ part at w ∷ words is_blank (at + length w) (front is_newline (b ∷ bs))
word_before at w b bs some free blank = elim (cases_Bool (is_newline b)) [
  | inl e ↦ rw e (ap (words is_blank at) (append-nil w) ∙ only_word is_blank at w some free)
  | inr e ↦
      let place : at + suc (length w) ≡ at + length w + 1 = omega arith in
      rw e (word_first is_blank at w b (front is_newline bs) some free blank
      ∙ ap (λ (k : ℕ). part at w ∷ words is_blank k (front is_newline bs)) place
      ∙ ap (λ (ws : List Part). part at w ∷ ws) (sym (skip_word is_blank (at + length w) b (front is_newline bs) blank)))
]

-- no blank, so no newline
pub no_newline : (w : List ℕ) → list_any is_blank w ≡ false → list_any is_newline w ≡ false
no_newline [] free = refl
no_newline (x ∷ w) free =
    let here : is_blank x ≡ false = or_left (is_blank x) (list_any is_blank w) free in
    let a = or_left (x == 32 || x == 10 || x == 9 || x == 13) (x == 12) here in
    let b = or_left (x == 32 || x == 10 || x == 9) (x == 13) a in
    let c = or_left (x == 32 || x == 10) (x == 9) b in
    let other : (x == 10) ≡ false = or_right (x == 32) (x == 10) c in
    rw other (no_newline w (or_right (is_blank x) (list_any is_blank w) free))

-- ---- readings

grouped : (f g : Said → Result Said TextFault) (r : Result Said TextFault) → unless_fault f (unless_fault g r) ≡ unless_fault (λ next. unless_fault f (g next)) r
grouped f g (Ok s) = refl
grouped f g (Err e) = refl

pub middle_blank : (vars : ℕ) (said : Said) (at b : ℕ) (bs : List ℕ) → is_blank b ≡ true → (b == 10) ≡ false → middle vars said (lines at (b ∷ bs)) ≡ middle vars said (lines (at + 1) bs)
middle_blank vars said at b [] blank other =
    ap (middle vars said) (skip is_newline at b [] other)
    ∙ ap (λ (ws : List Part). unless_fault (λ (next : Said). after_lines vars next []) (after_words vars said ws)) (skip_word is_blank at b [] blank)
middle_blank vars said at b (y ∷ ys) blank other =
    let f = front is_newline (y ∷ ys) in
    let rest = parts is_newline (at + 1 + suc (length f)) (drop (suc (length f)) (y ∷ ys)) in
    ap (middle vars said) (skip is_newline at b (y ∷ ys) other ∙ ap (with_byte at b) (parts_first is_newline (at + 1) y ys))
    ∙ ap (λ (ws : List Part). unless_fault (λ (next : Said). after_lines vars next rest) (after_words vars said ws)) (skip_word is_blank at b f blank)
    ∙ ap (middle vars said) (sym (parts_first is_newline (at + 1) y ys))

pub middle_word : (vars : ℕ) (said : Said) (at : ℕ) (w : List ℕ) (b : ℕ) (bs : List ℕ) → 0 < length w → list_any is_blank w ≡ false → is_blank b ≡ true
    → middle vars said (lines at (w ++ b ∷ bs)) ≡ unless_fault (λ next. middle vars next (lines (at + length w) (b ∷ bs))) (after_word vars said (part at w))
middle_word vars said at w b bs some free blank =
    let f = front is_newline (b ∷ bs) in
    let rest = parts is_newline (at + length w + suc (length f)) (drop (suc (length f)) (b ∷ bs)) in
    let first = parts_first is_newline (at + length w) b bs in
    ap (middle vars said) (grow is_newline at w f (b ∷ bs) rest (no_newline w free) first)
    ∙ ap (λ (ws : List Part). unless_fault (λ (next : Said). after_lines vars next rest) (after_words vars said ws)) (word_before at w b bs some free blank)
    ∙ grouped (λ (next : Said). after_lines vars next rest) (λ (next : Said). after_words vars next (words is_blank (at + length w) f)) (after_word vars said (part at w))
    ∙ ap (λ (ls : List Part). unless_fault (λ (next : Said). middle vars next ls) (after_word vars said (part at w))) (sym first)

no_comment_first : (pending : List ℕ) (bytes : List ℕ) → (is_empty pending && is_comment bytes) ≡ false → (is_empty pending && is_comment (front is_newline bytes)) ≡ false
no_comment_first pending [] e = e
no_comment_first pending (y ∷ ys) e = elim (cases_Bool (is_newline y)) [
  | inl d ↦ rw d (and_none (is_empty pending) false refl)
  | inr d ↦ rw d e
]

as_words : (vars : ℕ) (said : Said) (line : Part) → (is_empty said.pending && is_comment line.bytes) ≡ false → after_line vars said line ≡ after_words vars said (words is_blank line.start line.bytes)
as_words vars said line e = rw e refl

-- where no comment begins, the start of a line is as any other place
pub middle_line : (vars : ℕ) (said : Said) (at : ℕ) (bytes : List ℕ) → (is_empty said.pending && is_comment bytes) ≡ false → after_lines vars said (lines at bytes) ≡ middle vars said (lines at bytes)
middle_line vars said at [] e = refl
middle_line vars said at (y ∷ ys) e =
    let f = front is_newline (y ∷ ys) in
    let rest = parts is_newline (at + suc (length f)) (drop (suc (length f)) (y ∷ ys)) in
    let first = parts_first is_newline at y ys in
    ap (after_lines vars said) first
    ∙ ap (unless_fault (λ (next : Said). after_lines vars next rest)) (as_words vars said (part at f) (no_comment_first said.pending (y ∷ ys) e))
    ∙ ap (middle vars said) (sym first)
