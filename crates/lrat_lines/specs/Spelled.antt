-- Lines of proofs as a writer makes them: fields that write numbers, the digit 0 behind each list, and spaces between the fields.
use Rattle.std.specs.Prelude.{◌≡◌, ℕ, ◌<◌, ◌≤◌, ◌⊎◌, true, false, not, List, [], ◌∷◌, ◌++◌, length}
use Rattle.std.specs.List.{AllZip, list_all, concat}
use Rattle.dimacs_text.specs.Parts.{is_space}
use Rattle.dimacs_text.specs.Spelled.{WritesNumber}
use Rattle.dimacs_text.specs.declared.number.Signed.{Signed}
use Rattle.lrat_lines.specs.Lines.{Line, skipped, broken, addition, deletion, line_of}

-- ---- fields

-- The id of a line: digits of a value up to 4,294,967,295, which may be 0.
pub record WritesId (field : List ℕ) (id : ℕ) : Type 0 where
  pub writes : WritesNumber field false id
  pub small : id ≤ 4294967295

-- A number of a list: digits of such a value that is not 0, behind a hyphen or behind nothing.
pub record WritesListed (field : List ℕ) (number : Signed) : Type 0 where
  pub writes : WritesNumber field number.negative number.size
  pub some : 0 < number.size
  pub small : number.size ≤ 4294967295

-- the digit 0 (48), which ends a list
abbrev pub zero_field : List ℕ
zero_field = 48 ∷ []

-- the letter `d` (100)
abbrev pub letter_d : List ℕ
letter_d = 100 ∷ []

-- ---- fields in a line

-- One space or more, and a field.
pub record IsSpaced (bytes field : List ℕ) : Type 0 where
  pub gap : List ℕ
  pub bytes_are : bytes ≡ gap ++ field
  pub gap_is : list_all is_space gap ≡ true
  pub some : 0 < length gap

-- A line has fields: it begins with the first one, and each further one stands behind spaces.
pub record HasFields (line first : List ℕ) (others : List (List ℕ)) : Type 0 where
  pub spaced : List (List ℕ)
  pub line_is : line ≡ first ++ concat spaced
  pub others_are : AllZip IsSpaced spaced others

-- ---- lines

-- An addition: its id, its literals, the digit 0, its hints, and the digit 0.
pub record WritesAddition (line : List ℕ) (id : ℕ) (lits hints : List Signed) : Type 0 where
  pub id_field : List ℕ
  pub lit_fields : List (List ℕ)
  pub hint_fields : List (List ℕ)
  pub fields_are : HasFields line id_field (lit_fields ++ zero_field ∷ hint_fields ++ zero_field ∷ [])
  pub id_writes : WritesId id_field id
  pub lits_write : AllZip WritesListed lit_fields lits
  pub hints_write : AllZip WritesListed hint_fields hints

-- A deletion: an id of its own, `d`, the ids of what it deletes, which have no hyphen, and the digit 0.
pub record WritesDeletion (line : List ℕ) (ids : List Signed) : Type 0 where
  pub own : ℕ
  pub own_field : List ℕ
  pub id_fields : List (List ℕ)
  pub fields_are : HasFields line own_field (letter_d ∷ id_fields ++ zero_field ∷ [])
  pub own_writes : WritesId own_field own
  pub ids_write : AllZip WritesListed id_fields ids
  pub no_hyphen : list_all (λ (id : Signed). not id.negative) ids ≡ true

-- Bytes write a line of the format. One that says nothing is empty, or a comment, which begins with `c` (99).
abbrev pub WritesLine : List ℕ → Line → Type 0
WritesLine bytes skipped = (bytes ≡ []) ⊎ ((note : List ℕ) × (bytes ≡ 99 ∷ note))
WritesLine bytes broken = ⊥
WritesLine bytes (addition id lits hints) = WritesAddition bytes id lits hints
WritesLine bytes (deletion ids) = WritesDeletion bytes ids

-- Bytes spell the line that they write, and a broken one where they write none.
abbrev pub SpellsLine : List ℕ → Line → Type 0
SpellsLine bytes broken = (line : Line) → WritesLine bytes line → ⊥
SpellsLine bytes line = WritesLine bytes line

-- bytes say a line exactly where they spell it
abbrev pub LinesAreSpelled : Type 0
LinesAreSpelled = (bytes : List ℕ) (line : Line) → (line_of bytes ≡ line → SpellsLine bytes line) × (SpellsLine bytes line → line_of bytes ≡ line)
