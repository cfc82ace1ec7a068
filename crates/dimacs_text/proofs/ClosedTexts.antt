-- A newline behind a text changes no formula that it says.
use Rattle.std.proofs.Common.{◌≡◌, ◌∙◌, ◌+◌, ℕ, false, refl, sym, ap, List, [], ◌∷◌, ◌++◌, length, inl, inr, Option, Some, None, Result, Ok, Err}
use Rattle.std.specs.Prelude.{◌==◌, not, ◌⊎◌}
use Rattle.std.proofs.lemmas.Bool.{cases_Bool}
use Rattle.rsfq_ids.specs.declared.circuit.Cnf.{Cnf}
use Rattle.dimacs_text.specs.Parts.{Part, lines, with_byte, is_newline, is_empty}
use Rattle.dimacs_text.specs.Reading.{Said, after_line, after_lines, unless_fault, is_comment, at_end, nothing_said, with_head, from_head, head_of, without_comments, reading}
use Rattle.dimacs_text.specs.declared.head.Head.{Head}
use Rattle.dimacs_text.specs.declared.fault.TextFault.{TextFault}
use Rattle.dimacs_text.proofs.Cases.{and_none}
use Rattle.dimacs_text.proofs.HeadSays.{is_no_head}

abbrev empty_line : ℕ → Part
empty_line at = record { start = at; bytes = [] }

-- the formula that is answered, if one is
abbrev pub formula : Result Cnf TextFault → Option Cnf
formula (Ok cnf) = Some cnf
formula (Err f) = None

-- ---- the lines

-- the same lines, or an empty one more
abbrev IsClosed : List Part → List Part → Type 0
IsClosed some closed = (closed ≡ some) ⊎ ((at : ℕ) × (closed ≡ some ++ empty_line at ∷ []))

byte_more : (at b : ℕ) (some closed : List Part) → IsClosed some closed → IsClosed (with_byte at b some) (with_byte at b closed)
byte_more at b some closed is = elim is [
  | inl e ↦ inl (ap (with_byte at b) e)
  | inr e ↦ line_more at b some closed e.0 e.1
] where
  line_more : (at b : ℕ) (some closed : List Part) (k : ℕ) → closed ≡ some ++ empty_line k ∷ [] → IsClosed (with_byte at b some) (with_byte at b closed)
  line_more at b [] closed k e = inl (ap (with_byte at b) e)
  line_more at b (line ∷ some) closed k e = inr (k, ap (with_byte at b) e)

part_more : (line : Part) (some closed : List Part) → IsClosed some closed → IsClosed (line ∷ some) (line ∷ closed)
part_more line some closed is = elim is [
  | inl e ↦ inl (ap (λ (ls : List Part). line ∷ ls) e)
  | inr e ↦ inr (e.0, ap (λ (ls : List Part). line ∷ ls) e.1)
]

lines_closed : (at : ℕ) (text : List ℕ) → IsClosed (lines at text) (lines at (text ++ 10 ∷ []))
lines_closed at [] = inr (at, refl)
lines_closed at (b ∷ bs) = elim (cases_Bool (is_newline b)) [
  | inl e ↦ rw e (part_more (empty_line at) (lines (at + 1) bs) (lines (at + 1) (bs ++ 10 ∷ [])) (lines_closed (at + 1) bs))
  | inr e ↦ rw e (byte_more at b (lines (at + 1) bs) (lines (at + 1) (bs ++ 10 ∷ [])) (lines_closed (at + 1) bs))
]

-- ---- an empty line more

no_comment_more : (lines : List Part) (at : ℕ) → without_comments (lines ++ empty_line at ∷ []) ≡ without_comments lines ++ empty_line at ∷ []
no_comment_more [] at = refl
no_comment_more (line ∷ lines) at = elim (cases_Bool (is_comment line.bytes)) [
  | inl e ↦ rw e (no_comment_more lines at)
  | inr e ↦ rw e refl
]

empty_says_nothing : (vars : ℕ) (said : Said) (at : ℕ) → after_line vars said (empty_line at) ≡ Ok said
empty_says_nothing vars said at = rw (and_none (is_empty said.pending) false refl) refl

same_after : (f g : Said → Result Said TextFault) (r : Result Said TextFault) → ((s : Said) → f s ≡ g s) → unless_fault f r ≡ unless_fault g r
same_after f g (Ok s) same = same s
same_after f g (Err e) same = refl

lines_more : (vars : ℕ) (said : Said) (lines : List Part) (at : ℕ) → after_lines vars said (lines ++ empty_line at ∷ []) ≡ after_lines vars said lines
lines_more vars said [] at = ap (unless_fault (λ (next : Said). after_lines vars next [])) (empty_says_nothing vars said at)
lines_more vars said (line ∷ lines) at =
    same_after (λ (next : Said). after_lines vars next (lines ++ empty_line at ∷ [])) (λ (next : Said). after_lines vars next lines) (after_line vars said line) (λ s. lines_more vars s lines at)

-- ---- the text

end_anywhere : (len other : ℕ) (head : Head) (said : Said) → formula (at_end len head said) ≡ formula (at_end other head said)
end_anywhere len other head said = elim (cases_Bool (not (is_empty said.pending))) [
  | inl e ↦ rw e refl
  | inr e ↦ elim (cases_Bool (length said.closed == head.clauses)) [
    | inl d ↦ rw (e, d) refl
    | inr d ↦ rw (e, d) refl
  ]
]

ended : (len other : ℕ) (head : Head) (r : Result Said TextFault) → formula (unless_fault (at_end len head) r) ≡ formula (unless_fault (at_end other head) r)
ended len other head (Ok s) = end_anywhere len other head s
ended len other head (Err f) = refl

head_anywhere : (len other at : ℕ) (rest : List Part) (o : Option Head) → formula (with_head len at rest o) ≡ formula (with_head other at rest o)
head_anywhere len other at rest None = refl
head_anywhere len other at rest (Some head) = ended len other head (after_lines head.vars nothing_said rest)

head_closed : (len at k : ℕ) (rest : List Part) (o : Option Head) → with_head len at (rest ++ empty_line k ∷ []) o ≡ with_head len at rest o
head_closed len at k rest None = refl
head_closed len at k rest (Some head) = ap (unless_fault (at_end len head)) (lines_more head.vars nothing_said rest k)

anywhere : (len other : ℕ) (lines : List Part) → formula (from_head len lines) ≡ formula (from_head other lines)
anywhere len other [] = refl
anywhere len other (line ∷ lines) = head_anywhere len other line.start lines (head_of line.bytes)

line_closed : (len k : ℕ) (lines : List Part) → formula (from_head len (lines ++ empty_line k ∷ [])) ≡ formula (from_head len lines)
line_closed len k [] = ap (λ (o : Option Head). formula (with_head len k [] o)) (is_no_head [] refl)
line_closed len k (line ∷ lines) = ap formula (head_closed len line.start k lines (head_of line.bytes))

lines_say : (len : ℕ) (some closed : List Part) → IsClosed some closed → formula (from_head len (without_comments closed)) ≡ formula (from_head len (without_comments some))
lines_say len some closed is = elim is [
  | inl e ↦ ap (λ (ls : List Part). formula (from_head len (without_comments ls))) e
  | inr e ↦
      ap (λ (ls : List Part). formula (from_head len (without_comments ls))) e.1
      ∙ ap (λ (ls : List Part). formula (from_head len ls)) (no_comment_more some e.0)
      ∙ line_closed len e.0 (without_comments some)
]

closed_says : (text : List ℕ) → formula (reading (text ++ 10 ∷ [])) ≡ formula (reading text)
closed_says text =
    lines_say (length (text ++ 10 ∷ [])) (lines 0 text) (lines 0 (text ++ 10 ∷ [])) (lines_closed 0 text)
    ∙ anywhere (length (text ++ 10 ∷ [])) (length text) (without_comments (lines 0 text))

from_formula : (r : Result Cnf TextFault) (cnf : Cnf) → formula r ≡ Some cnf → r ≡ Ok cnf
from_formula (Ok x) cnf e = let same : x ≡ cnf = cc in ap (λ (c : Cnf). let r : Result Cnf TextFault = Ok c in r) same
from_formula (Err f) cnf e = absurd cc

pub to_closed : (text : List ℕ) (cnf : Cnf) → reading text ≡ Ok cnf → reading (text ++ 10 ∷ []) ≡ Ok cnf
to_closed text cnf is = from_formula (reading (text ++ 10 ∷ [])) cnf (closed_says text ∙ ap formula is)

pub from_closed : (text : List ℕ) (cnf : Cnf) → reading (text ++ 10 ∷ []) ≡ Ok cnf → reading text ≡ Ok cnf
from_closed text cnf is = from_formula (reading text) cnf (sym (closed_says text) ∙ ap formula is)
