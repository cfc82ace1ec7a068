-- What a line of a proof in the LRAT text format says: its fields, parted by spaces, as an addition or a deletion.
use Rattle.std.specs.Prelude.{ℕ, ◌==◌, ◌-◌, ◌||◌, Bool, if◌then◌else◌, List, [], ◌∷◌, length, Option, Some, None, option_map, slice_index}
use Rattle.std.specs.List.{list_any}
use Rattle.std.specs.Str.{bytes_eq}
use Rattle.dimacs_text.specs.Parts.{Part, words, is_space}
use Rattle.decimal_text.specs.Number.{number_up_to}
use Rattle.dimacs_text.specs.Number.{signed_of}
use Rattle.dimacs_text.specs.declared.number.Signed.{Signed}
use Rattle.lrat_lines.specs.declared.field.Field.{Field}
use Rattle.lrat_lines.specs.declared.field.Field.TheVariants.{End, Number, Broken}

-- A line: nothing that counts, a clause with its id and its hints, ids of clauses that are deleted, or no line of the format.
pub data Line : Type 0 where
  skipped : Line
  broken : Line
  addition : ℕ → List Signed → List Signed → Line
  deletion : List Signed → Line

-- a number that is not 0
abbrev pub number_field : Option Signed → Field
number_field None = Broken
number_field (Some number) = if number.size == 0 then Broken else Number number

-- a field of a list: the one digit 0, or a number of another value
abbrev pub field_of : List ℕ → Field
field_of bytes = if bytes_eq bytes (48 ∷ []) then End else number_field (signed_of bytes)

-- the numbers up to the first field `0`, and the fields behind it
abbrev pub list_from : Field → List Part → Option (List Signed × List Part) → Option (List Signed × List Part)
list_from End rest more = Some ([], rest)
list_from (Number number) rest more = option_map (λ found. (number ∷ found.0, found.1)) more
list_from Broken rest more = None

abbrev pub list_of : List Part → Option (List Signed × List Part)
list_of [] = None
list_of (field ∷ fields) = list_from (field_of field.bytes) fields (list_of fields)

-- the ids of a deletion have no hyphen, and nothing stands behind them
abbrev pub deletion_of : Option (List Signed × List Part) → Line
deletion_of None = broken
deletion_of (Some (ids, [])) = if list_any (λ (id : Signed). id.negative) ids then broken else deletion ids
deletion_of (Some (ids, field ∷ fields)) = broken

-- nothing stands behind the hints of an addition
abbrev pub with_hints : ℕ → List Signed → Option (List Signed × List Part) → Line
with_hints id lits None = broken
with_hints id lits (Some (hints, [])) = addition id lits hints
with_hints id lits (Some (hints, field ∷ fields)) = broken

abbrev pub addition_of : ℕ → Option (List Signed × List Part) → Line
addition_of id None = broken
addition_of id (Some (lits, fields)) = with_hints id lits (list_of fields)

-- the fields behind the id: `d` begins a deletion
abbrev pub behind_id : ℕ → List Part → Line
behind_id id [] = broken
behind_id id (field ∷ fields) = if bytes_eq field.bytes (100 ∷ []) then deletion_of (list_of fields) else addition_of id (list_of (field ∷ fields))

abbrev pub with_id : Option ℕ → List Part → Line
with_id None fields = broken
with_id (Some id) fields = behind_id id fields

abbrev pub fields_say : List Part → Line
fields_say [] = broken
fields_say (id ∷ fields) = with_id (number_up_to 4294967295 id.bytes) fields

-- a space at the beginning or at the end
abbrev pub has_outer_space : List ℕ → Bool
has_outer_space bytes = slice_index bytes 0 == 32 || slice_index bytes (length bytes - 1) == 32

-- An empty line, and one that begins with `c`, says nothing.
abbrev pub line_of : List ℕ → Line
line_of [] = skipped
line_of (b ∷ bytes) = if b == 99 then skipped else if has_outer_space (b ∷ bytes) then broken else fields_say (words is_space 0 (b ∷ bytes))
