-- Texts as a writer makes them: a formula, and bytes that spell it, piece behind piece.
use Rattle.std.specs.Prelude.{◌≡◌, ℕ, ◌+◌, ◌*◌, ◌/◌, ◌%◌, ◌==◌, ◌<◌, ◌≤◌, ◌&&◌, ◌||◌, Bool, true, false, not, if◌then◌else◌, List, [], ◌∷◌, ◌++◌, length, Ok, codes}
use Rattle.rsfq_ids.specs.declared.limits.TheConstants.{FORMULA_LIMIT}
use Rattle.std.specs.List.{AllZip, list_any, list_all, concat, filter}
use Rattle.std.specs.Str.Parse.{digits_value}
use Rattle.rsfq_ids.specs.Formula.{Clause}
use Rattle.rsfq_ids.specs.declared.circuit.Cnf.{Cnf}
use Rattle.dimacs_text.specs.Parts.{is_newline, is_blank}
use Rattle.decimal_text.specs.Number.{is_numeral}
use Rattle.dimacs_text.specs.Reading.{is_comment, reading}

-- lines, each with a newline behind it
abbrev pub in_lines : List (List ℕ) → List ℕ
in_lines [] = []
in_lines (line ∷ lines) = line ++ 10 ∷ in_lines lines

-- one line, which begins with `c`
abbrev pub is_comment_line : List ℕ → Bool
is_comment_line line = not (list_any is_newline line) && is_comment line

-- ---- numbers

-- A field writes a number: one digit or more, leading zeros too, behind a hyphen (45) where the number is negative.
pub record WritesNumber (field : List ℕ) (negative : Bool) (n : ℕ) : Type 0 where
  pub digits : List ℕ
  pub field_is : field ≡ (if negative then 45 ∷ [] else []) ++ digits
  pub numeral : is_numeral digits ≡ true
  pub value : digits_value 10 digits ≡ n

-- The head, `p cnf `, the number of variables, a space, and the number of clauses.
pub record IsHeadLine (line : List ℕ) (vars clauses : ℕ) : Type 0 where
  pub first : List ℕ
  pub second : List ℕ
  pub line_is : line ≡ codes "p cnf " ++ first ++ 32 ∷ second
  pub first_writes : WritesNumber first false vars
  pub second_writes : WritesNumber second false clauses
  pub first_small : vars ≤ FORMULA_LIMIT
  pub second_small : clauses ≤ FORMULA_LIMIT

-- ---- clauses

-- A literal of one of the variables, which count from 1, and one blank or more behind it, newlines too.
pub record SpellsLiteral (vars : ℕ) (bytes : List ℕ) (lit : ℕ) : Type 0 where
  pub field : List ℕ
  pub behind : List ℕ
  pub bytes_are : bytes ≡ field ++ behind
  pub writes : WritesNumber field (lit % 2 == 1) (lit / 2 + 1)
  pub within : lit < 2 * vars
  pub blank : list_all is_blank behind ≡ true
  pub some : 0 < length behind

-- a blank comes first
abbrev pub begins_blank : List ℕ → Bool
begins_blank [] = false
begins_blank (b ∷ bs) = is_blank b

-- blanks or a comment
abbrev pub is_between : List ℕ → Bool
is_between line = is_comment_line line || list_all is_blank line

-- What parts a clause from the text before it: a blank first, lines that are blank or comments up to the last newline, and blanks behind that.
pub record IsGap (gap : List ℕ) : Type 0 where
  pub lines : List (List ℕ)
  pub last : List ℕ
  pub gap_is : gap ≡ in_lines lines ++ last
  pub begins : begins_blank gap ≡ true
  pub lines_are : list_all is_between lines ≡ true
  pub last_blank : list_all is_blank last ≡ true

-- each literal once, at its first place: the first one, and of the others, each once, those that are not it
abbrev pub each_once : List ℕ → List ℕ
each_once [] = []
each_once (lit ∷ lits) = lit ∷ filter (λ other. not (other == lit)) (each_once lits)

-- A clause: what parts it from the text before it, literals, of which one may stand again, and a number 0, which may have a hyphen.
pub record SpellsClause (vars : ℕ) (bytes : List ℕ) (clause : Clause) : Type 0 where
  pub gap : List ℕ
  pub spaced : List (List ℕ)
  pub lits : List ℕ
  pub ending : List ℕ
  pub negative : Bool
  pub bytes_are : bytes ≡ gap ++ concat spaced ++ ending
  pub gap_is : IsGap gap
  pub literals : AllZip (SpellsLiteral vars) spaced lits
  pub ends : WritesNumber ending negative 0
  pub clause_is : clause ≡ each_once lits

-- ---- the text

-- A text spells a formula: lines of comments, the head in a line, the clauses from the end of that line on, and what could part the last one from
-- another. A newline is put behind the text first, so that its last line ends as the others do.
pub record Spells (text : List ℕ) (cnf : Cnf) : Type 0 where
  pub comments : List (List ℕ)
  pub head : List ℕ
  pub rest : List ℕ
  pub clauses : List (List ℕ)
  pub behind : List ℕ
  pub text_is : text ++ 10 ∷ [] ≡ in_lines comments ++ head ++ 10 ∷ rest
  pub comments_are : list_all is_comment_line comments ≡ true
  pub head_is : IsHeadLine head cnf.vars (length cnf.clauses)
  pub rest_is : 10 ∷ rest ≡ concat clauses ++ behind
  pub clauses_are : AllZip (SpellsClause cnf.vars) clauses cnf.clauses
  pub behind_is : IsGap behind

-- a text says a formula exactly where it spells it
abbrev pub ReadingsAreSpelled : Type 0
ReadingsAreSpelled = (text : List ℕ) (cnf : Cnf) → (reading text ≡ Ok cnf → Spells text cnf) × (Spells text cnf → reading text ≡ Ok cnf)

-- there is at most one formula that a text spells
abbrev pub SpellOne : Type 0
SpellOne = (text : List ℕ) (one other : Cnf) → Spells text one → Spells text other → one ≡ other
