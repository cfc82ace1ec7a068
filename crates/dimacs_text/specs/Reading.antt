-- What a text in the DIMACS format says: the formula, or the first fault.
--
-- The text is its lines. Comments stand before the head, the head is one line, and what follows is clauses: numbers parted by blanks, each
-- clause ended by a 0, over any number of lines. A line of that part that begins with `c` is a comment too where no clause is open.
use Rattle.std.specs.Prelude.{ℕ, ◌+◌, ◌-◌, ◌*◌, ◌==◌, ◌&&◌, Bool, true, false, not, if◌then◌else◌, List, [], ◌∷◌, ◌++◌, length, drop, take, Option, Some, None, option_map, Result, Ok, Err, nat_le, nat_lt, ℤ, pos, neg_ℤ, codes}
use Rattle.rsfq_ids.specs.declared.limits.TheConstants.{FORMULA_LIMIT}
use Rattle.std.specs.List.{list_any}
use Rattle.std.specs.Option.{option_and_then}
use Rattle.std.specs.Str.{bytes_eq}
use Rattle.rsfq_ids.specs.Formula.{Clause}
use Rattle.rsfq_ids.specs.declared.circuit.Cnf.{Cnf}
use Rattle.dimacs_text.specs.Parts.{Part, front, lines, words, is_empty, is_blank, is_space}
use Rattle.decimal_text.specs.Number.{number_up_to}
use Rattle.dimacs_text.specs.Number.{signed_of, literal_of, whole_of}
use Rattle.dimacs_text.specs.declared.number.Signed.{Signed}
use Rattle.dimacs_text.specs.declared.head.Head.{Head}
use Rattle.dimacs_text.specs.declared.fault.TextFault.{TextFault}
use Rattle.dimacs_text.specs.declared.fault.TextWhy.{TextWhy}
use Rattle.dimacs_text.specs.declared.fault.TextWhy.TheVariants as why

-- what comes next, unless there was a fault
abbrev pub unless_fault : {A B : Type 0} → (A → Result B TextFault) → Result A TextFault → Result B TextFault
unless_fault next (Ok x) = next x
unless_fault next (Err f) = Err f

-- ---- the head

-- the number of clauses stands behind one space, up to the line's end
abbrev pub count_of : List ℕ → Option ℕ
count_of [] = None
count_of (space ∷ digits) = number_up_to FORMULA_LIMIT digits

-- the numbers of variables and of clauses
abbrev pub sizes_of : List ℕ → Option Head
sizes_of bytes =
    option_and_then (λ vars. option_map (λ clauses. record { vars = vars; clauses = clauses }) (count_of (drop (length (front is_space bytes)) bytes)))
    (number_up_to FORMULA_LIMIT (front is_space bytes))

-- the line `p cnf V C`
unfoldable pub head_of : List ℕ → Option Head
head_of line = if bytes_eq (take 6 line) (codes "p cnf ") then sizes_of (drop 6 line) else None

-- ---- the clauses

-- a literal more, unless it is there
abbrev pub with_literal : Clause → ℕ → Clause
with_literal clause lit = if list_any (λ other. lit == other) clause then clause else clause ++ lit ∷ []

abbrev pub with_literals : Clause → Clause → Clause
with_literals clause [] = clause
with_literals clause (lit ∷ lits) = with_literals (with_literal clause lit) lits

-- each literal once, at its first place
abbrev pub once : Clause → Clause
once lits = with_literals [] lits

-- the clauses that are closed, and the literals of the one that is open, which has none where no clause is open
pub record Said : Type 0 where
  pub closed : List Clause
  pub pending : Clause

abbrev pub fault : ℕ → TextWhy → TextFault
fault offset why = record { offset = offset; why = why }

-- a word that stands at a place is no number; it closes the clause; or it is a literal, of one of the variables or of none
abbrev pub after_number : ℕ → Said → ℕ → Option Signed → Result Said TextFault
after_number vars said at None = Err (fault at why.Number)
after_number vars said at (Some number) =
    if number.size == 0 then Ok (record { closed = said.closed ++ once said.pending ∷ []; pending = [] })
    else if nat_lt vars number.size then Err (fault at (why.Range (whole_of number)))
    else Ok (record { closed = said.closed; pending = said.pending ++ literal_of number ∷ [] })

unfoldable pub after_word : ℕ → Said → Part → Result Said TextFault
after_word vars said word = after_number vars said word.start (signed_of word.bytes)

-- the words in order, up to the first fault
abbrev pub after_words : ℕ → Said → List Part → Result Said TextFault
after_words vars said [] = Ok said
after_words vars said (word ∷ words) = unless_fault (λ next. after_words vars next words) (after_word vars said word)

abbrev pub is_comment : List ℕ → Bool
is_comment [] = false
is_comment (b ∷ bs) = b == 99

-- a line: a comment where no clause is open, or words
abbrev pub after_line : ℕ → Said → Part → Result Said TextFault
after_line vars said line = if is_empty said.pending && is_comment line.bytes then Ok said else after_words vars said (words is_blank line.start line.bytes)

abbrev pub after_lines : ℕ → Said → List Part → Result Said TextFault
after_lines vars said [] = Ok said
after_lines vars said (line ∷ rest) = unless_fault (λ next. after_lines vars next rest) (after_line vars said line)

-- the end of a text of so many bytes: the last clause is closed, and there are as many as the head names
abbrev pub at_end : ℕ → Head → Said → Result Cnf TextFault
at_end len head said =
    if not (is_empty said.pending) then Err (fault len why.Unended)
    else if length said.closed == head.clauses then Ok (record { vars = head.vars; clauses = said.closed })
    else Err (fault len (why.Count (length said.closed) head.clauses))

-- ---- the text

abbrev pub nothing_said : Said
nothing_said = record { closed = []; pending = [] }

-- what follows the head
abbrev pub after_head : ℕ → List Part → Head → Result Cnf TextFault
after_head len rest head = unless_fault (at_end len head) (after_lines head.vars nothing_said rest)

-- the line at a place is the head, or it should be
abbrev pub with_head : ℕ → ℕ → List Part → Option Head → Result Cnf TextFault
with_head len at rest None = Err (fault at why.Header)
with_head len at rest (Some head) = after_head len rest head

-- the lines of a text of so many bytes, from its head on
abbrev pub from_head : ℕ → List Part → Result Cnf TextFault
from_head len [] = Err (fault len why.Header)
from_head len (line ∷ rest) = with_head len line.start rest (head_of line.bytes)

abbrev pub without_comments : List Part → List Part
without_comments [] = []
without_comments (line ∷ rest) = if is_comment line.bytes then without_comments rest else line ∷ rest

-- what a text says
abbrev pub reading : List ℕ → Result Cnf TextFault
reading text = from_head (length text) (without_comments (lines 0 text))
