-- What a word, a line and a text say, piece by piece.
use Rattle.std.proofs.Common.{◌≡◌, ◌∙◌, ◌<◌, ◌≤◌, ◌+◌, ◌-◌, ℕ, Bool, true, false, zero, suc, refl, sym, ap, arith, take, drop, List, [], ◌∷◌, ◌++◌, length, get_or, inl, inr, zero-add, Some, None, Ok, Err}
use Rattle.std.specs.Prelude.{◌==◌, nat_lt}
use Rattle.std.proofs.lemmas.Bool.{lt-ltb, eq-eqb}
use Rattle.std.proofs.lemmas.Bool.Decides.{leb_tells, eqb_tells}
use Rattle.dimacs_text.specs.Parts.{Part, front, words, lines, is_blank, is_newline}
use Rattle.dimacs_text.specs.Number.{signed_of, literal_of, whole_of}
use Rattle.dimacs_text.specs.Reading.{Said, after_word, after_number, after_words, after_line, after_lines, unless_fault, once, fault, is_comment, without_comments, after_head, at_end, nothing_said, from_head, with_head, head_of, reading}
use Rattle.dimacs_text.specs.declared.number.Signed.{Signed}
use Rattle.dimacs_text.specs.declared.head.Head.{Head}
use Rattle.dimacs_text.specs.declared.fault.TextFault.{TextFault}
use Rattle.dimacs_text.specs.declared.fault.TextWhy.TheVariants as why
use Rattle.dimacs_text.proofs.PartLemmas.{parts_at, drop_out, split_at}
use Rattle.dimacs_text.proofs.WordLemmas.{one_word, no_word}

-- ---- words

pub says_nothing : (vars : ℕ) (said : Said) (at : ℕ) (bytes : List ℕ) → None ≡ signed_of bytes → after_word vars said (record { start = at; bytes = bytes }) ≡ Err (fault at why.Number)
unfolding after_word
says_nothing vars said at bytes is = rw (← is) refl

zero_says : (vars : ℕ) (said : Said) (at : ℕ) (number : Signed) → number.size ≡ 0
    → after_number vars said at (Some number) ≡ Ok (record { closed = said.closed ++ once said.pending ∷ []; pending = [] })
zero_says vars said at number none = rw (eq-eqb number.size 0 none) refl

pub says_zero : (vars : ℕ) (said : Said) (at : ℕ) (bytes : List ℕ) (number : Signed) → Some number ≡ signed_of bytes → number.size ≡ 0
    → after_word vars said (record { start = at; bytes = bytes }) ≡ Ok (record { closed = said.closed ++ once said.pending ∷ []; pending = [] })
unfolding after_word
says_zero vars said at bytes number is none = ap (after_number vars said at) (sym is) ∙ zero_says vars said at number none

beyond_says : (vars : ℕ) (said : Said) (at : ℕ) (number : Signed) → vars < number.size
    → after_number vars said at (Some number) ≡ Err (fault at (why.Range (whole_of number)))
beyond_says vars said at number beyond = elim (eqb_tells number.size 0) [
  | inl t ↦ let none = t.1 in absurd (omega arith)
  | inr t ↦ rw (t.0, lt-ltb vars number.size beyond) refl
]

pub says_beyond : (vars : ℕ) (said : Said) (at : ℕ) (bytes : List ℕ) (number : Signed) → Some number ≡ signed_of bytes → vars < number.size
    → after_word vars said (record { start = at; bytes = bytes }) ≡ Err (fault at (why.Range (whole_of number)))
unfolding after_word
says_beyond vars said at bytes number is beyond = ap (after_number vars said at) (sym is) ∙ beyond_says vars said at number beyond

not_below : (a b : ℕ) → b ≤ a → nat_lt a b ≡ false
not_below a b le = elim (leb_tells (suc a) b) [ inl t ↦ let more = t.1 in absurd (omega arith) | inr t ↦ t.0 ]

literal_says : (vars : ℕ) (said : Said) (at : ℕ) (number : Signed) → (number.size ≡ 0 → ⊥) → number.size ≤ vars
    → after_number vars said at (Some number) ≡ Ok (record { closed = said.closed; pending = said.pending ++ literal_of number ∷ [] })
literal_says vars said at number some within = elim (eqb_tells number.size 0) [
  | inl t ↦ absurd (some t.1)
  | inr t ↦ rw (t.0, not_below vars number.size within) refl
]

pub says_literal : (vars : ℕ) (said : Said) (at : ℕ) (bytes : List ℕ) (number : Signed) → Some number ≡ signed_of bytes → (number.size ≡ 0 → ⊥) → number.size ≤ vars
    → after_word vars said (record { start = at; bytes = bytes }) ≡ Ok (record { closed = said.closed; pending = said.pending ++ literal_of number ∷ [] })
unfolding after_word
says_literal vars said at bytes number is some within = ap (after_number vars said at) (sym is) ∙ literal_says vars said at number some within

-- ---- the words of a line

pub word_said : (vars : ℕ) (said next : Said) (s at end : ℕ) (line : List ℕ) → at < length line → end ≡ at + length (front is_blank (drop at line)) → at < end
    → after_word vars said (record { start = s + at; bytes = take (end - at) (drop at line) }) ≡ Ok next
    → after_words vars said (words is_blank (s + at) (drop at line)) ≡ after_words vars next (words is_blank (s + (end + 1)) (drop (end + 1) line))
word_said vars said next s at end line lt is some ok =
    ap (after_words vars said) (one_word is_blank s at end line lt is some)
    ∙ ap (unless_fault (λ (n : Said). after_words vars n (words is_blank (s + (end + 1)) (drop (end + 1) line)))) ok

pub word_fault : (vars : ℕ) (said : Said) (f : TextFault) (s at end : ℕ) (line : List ℕ) → at < length line → end ≡ at + length (front is_blank (drop at line)) → at < end
    → after_word vars said (record { start = s + at; bytes = take (end - at) (drop at line) }) ≡ Err f
    → after_words vars said (words is_blank (s + at) (drop at line)) ≡ Err f
word_fault vars said f s at end line lt is some err =
    ap (after_words vars said) (one_word is_blank s at end line lt is some)
    ∙ ap (unless_fault (λ (n : Said). after_words vars n (words is_blank (s + (end + 1)) (drop (end + 1) line)))) err

pub blank_said : (vars : ℕ) (said : Said) (s at end : ℕ) (line : List ℕ) → at < length line → end ≡ at + length (front is_blank (drop at line)) → end ≤ at
    → after_words vars said (words is_blank (s + at) (drop at line)) ≡ after_words vars said (words is_blank (s + (end + 1)) (drop (end + 1) line))
blank_said vars said s at end line lt is none = ap (after_words vars said) (no_word is_blank s at end line lt is none)

-- ---- the lines of a text

pub one_line : (at end : ℕ) (text : List ℕ) → at < length text → end ≡ at + length (front is_newline (drop at text))
    → lines at (drop at text) ≡ record { start = at; bytes = take (end - at) (drop at text) } ∷ lines (end + 1) (drop (end + 1) text)
one_line at end text lt is = rw (zero-add at, zero-add (end + 1)) at (parts_at is_newline 0 at end text lt is)

pub no_line : (at : ℕ) (text : List ℕ) → length text ≤ at → lines at (drop at text) ≡ []
no_line at text le = ap (lines at) (drop_out text at le)

pub line_said : (vars : ℕ) (said next : Said) (at end : ℕ) (text : List ℕ) → at < length text → end ≡ at + length (front is_newline (drop at text))
    → after_line vars said (record { start = at; bytes = take (end - at) (drop at text) }) ≡ Ok next
    → after_lines vars said (lines at (drop at text)) ≡ after_lines vars next (lines (end + 1) (drop (end + 1) text))
line_said vars said next at end text lt is ok =
    ap (after_lines vars said) (one_line at end text lt is) ∙ ap (unless_fault (λ (n : Said). after_lines vars n (lines (end + 1) (drop (end + 1) text)))) ok

pub line_fault : (vars : ℕ) (said : Said) (f : TextFault) (at end : ℕ) (text : List ℕ) → at < length text → end ≡ at + length (front is_newline (drop at text))
    → after_line vars said (record { start = at; bytes = take (end - at) (drop at text) }) ≡ Err f
    → after_lines vars said (lines at (drop at text)) ≡ Err f
line_fault vars said f at end text lt is err =
    ap (after_lines vars said) (one_line at end text lt is) ∙ ap (unless_fault (λ (n : Said). after_lines vars n (lines (end + 1) (drop (end + 1) text)))) err

pub head_fault : (len : ℕ) (head : Head) (rest : List Part) (f : TextFault) → after_lines head.vars nothing_said rest ≡ Err f → after_head len rest head ≡ Err f
head_fault len head rest f err = ap (unless_fault (at_end len head)) err

-- ---- comments before the head

begun : (n at : ℕ) (text : List ℕ) → 0 < n → at < length text → is_comment (take n (drop at text)) ≡ (get_or text at 0 == 99)
begun zero at text some lt = absurd (omega arith)
begun (suc n) at text some lt = ap (λ (bs : List ℕ). is_comment (take (suc n) bs)) (split_at text at lt)

pub passed : (line : Part) (rest : List Part) → is_comment line.bytes ≡ true → without_comments (line ∷ rest) ≡ without_comments rest
passed line rest is = rw is refl

pub stands : (line : Part) (rest : List Part) → is_comment line.bytes ≡ false → without_comments (line ∷ rest) ≡ line ∷ rest
stands line rest is = rw is refl

-- a line that begins with a byte that ends no line is not empty
goes_on : (p : ℕ → Bool) (at end : ℕ) (text : List ℕ) → at < length text → end ≡ at + length (front p (drop at text)) → p (get_or text at 0) ≡ false → at < end
goes_on p at end text lt is stays =
    let more : front p (get_or text at 0 ∷ drop (at + 1) text) ≡ get_or text at 0 ∷ front p (drop (at + 1) text) = rw stays refl in
    let size : length (front p (drop at text)) ≡ suc (length (front p (drop (at + 1) text))) = ap (λ (bs : List ℕ). length (front p bs)) (split_at text at lt) ∙ ap length more in
    omega arith

pub comment_passed : (at end : ℕ) (text : List ℕ) → at < length text → end ≡ at + length (front is_newline (drop at text)) → get_or text at 0 ≡ 99
    → without_comments (lines at (drop at text)) ≡ without_comments (lines (end + 1) (drop (end + 1) text))
comment_passed at end text lt is c =
    let more : at < end = goes_on is_newline at end text lt is (ap (λ b. b == 10) c) in
    ap without_comments (one_line at end text lt is)
    ∙ passed (record { start = at; bytes = take (end - at) (drop at text) }) (lines (end + 1) (drop (end + 1) text))
    (begun (end - at) at text (omega arith) lt ∙ ap (λ b. b == 99) c)

pub last_passed : (at end : ℕ) (text : List ℕ) → at < length text → end ≡ at + length (front is_newline (drop at text)) → get_or text at 0 ≡ 99 → length text ≤ end
    → without_comments (lines at (drop at text)) ≡ without_comments (lines end (drop end text))
last_passed at end text lt is c over =
    comment_passed at end text lt is c ∙ ap without_comments (no_line (end + 1) text (omega arith) ∙ sym (no_line end text over))

not_comment : (n at : ℕ) (text : List ℕ) → at < length text → (get_or text at 0 ≡ 99 → ⊥) → is_comment (take n (drop at text)) ≡ false
not_comment zero at text lt other = ap is_comment (let none : take 0 (drop at text) ≡ [] = refl in none)
not_comment (suc n) at text lt other = elim (eqb_tells (get_or text at 0) 99) [
  | inl t ↦ absurd (other t.1)
  | inr t ↦ begun (suc n) at text (omega arith) lt ∙ t.0
]

-- ---- the text

pub head_stands : (text : List ℕ) (at end : ℕ) → without_comments (lines 0 text) ≡ without_comments (lines at (drop at text)) → at < length text
    → end ≡ at + length (front is_newline (drop at text)) → (get_or text at 0 ≡ 99 → ⊥)
    → reading text ≡ with_head (length text) at (lines (end + 1) (drop (end + 1) text)) (head_of (take (end - at) (drop at text)))
head_stands text at end same lt is other =
    ap (from_head (length text)) (same ∙ ap without_comments (one_line at end text lt is)
    ∙ stands (record { start = at; bytes = take (end - at) (drop at text) }) (lines (end + 1) (drop (end + 1) text)) (not_comment (end - at) at text lt other))

pub no_head : (text : List ℕ) (at : ℕ) → without_comments (lines 0 text) ≡ without_comments (lines at (drop at text)) → at ≡ length text
    → reading text ≡ Err (fault (length text) why.Header)
no_head text at same is = ap (from_head (length text)) (same ∙ ap without_comments (no_line at text (omega arith)))
