-- The records of a table and the causes for which one is refused.
use Rattle.std.specs.Prelude.{◌≡◌, ◌≢◌, ◌==◌, ℕ, Bool, not, ◌&&◌, nat_le, if◌then◌else◌, List, [], ◌∷◌, length, slice_index_or, Option, Some, None, ℤ, pos}
use Rattle.rsfq_ids.specs.declared.limits.TheConstants.{TIME_LIMIT}
use Rattle.std.specs.List.{list_all, range_with_len}
use Rattle.std.specs.Str.{all_ascii_digits, bytes_eq, is_utf8}
use Rattle.std.specs.Str.Parse.{digits_value}
use Rattle.csv.specs.Reading.{default_config, records, strip_bom}
use Rattle.rsfq_ids.specs.declared.table_fault.TableWhy.{TableWhy}
use Rattle.rsfq_ids.specs.declared.table_fault.TableWhy.TheVariants.{Utf8, Header, Fields, Number, OutOfRange, Memory}

-- the records of the bytes, by csv's rules; a blank line is none
abbrev pub records_of : List ℕ → List (List (List ℕ))
records_of bytes = records default_config (strip_bom bytes)

-- the field at a place of a record, empty where there is none
abbrev pub field : List (List ℕ) → ℕ → List ℕ
field fields place = slice_index_or fields place []

-- ---- causes

-- a cause that stands unless a check passes
abbrev pub unless : Bool → TableWhy → Option TableWhy
unless passes why = if passes then None else Some why

-- the first cause that stands, if one does
unfoldable pub first_of : List (Option TableWhy) → Option TableWhy
first_of [] = None
first_of (None ∷ more) = first_of more
first_of (Some why ∷ more) = Some why

-- what is answered is the cause that stands, or want of memory
abbrev pub IsCause : Option TableWhy → TableWhy → Type 0
IsCause stands why = why ≢ Memory → stands ≡ Some why

-- ---- the checks of single fields

-- every field is UTF-8
abbrev pub text_fault : List (List ℕ) → Option TableWhy
text_fault fields = unless (list_all is_utf8 fields) Utf8

-- the record has so many fields
abbrev pub count_fault : ℕ → List (List ℕ) → Option TableWhy
count_fault count fields = unless (length fields == count) (Fields (length fields))

abbrev pub is_empty : List ℕ → Bool
is_empty text = length text == 0

-- one digit or more, and nothing else
abbrev pub is_number : List ℕ → Bool
is_number text = not (is_empty text) && all_ascii_digits text

-- the time in femtoseconds that a text of digits stands for; an empty text stands for 0
abbrev pub time_of : List ℕ → ℤ
time_of text = pos (digits_value 10 text)

-- the number of a text lies within the limits of a table
abbrev pub is_in_range : ℕ → List ℕ → Bool
is_in_range least text = nat_le least (digits_value 10 text) && nat_le (digits_value 10 text) TIME_LIMIT

-- the field of a column is the number of a time of at least so many femtoseconds
abbrev pub time_fault : ℕ → ℕ → List ℕ → Option TableWhy
time_fault column least text = first_of (unless (is_number text) (Number column) ∷ unless (is_in_range least text) (OutOfRange column) ∷ [])

-- the field of a column is empty
abbrev pub empty_fault : ℕ → List ℕ → Option TableWhy
empty_fault column text = unless (is_empty text) (Number column)

-- the fields are these, as many and in order
abbrev pub are_fields : List (List ℕ) → List (List ℕ) → Bool
are_fields wanted fields = (length fields == length wanted) && list_all (λ place. bytes_eq (field fields place) (field wanted place)) (range_with_len 0 (length wanted))

-- the record of row 0 is the head of the table
abbrev pub head_fault : List (List ℕ) → List (List ℕ) → Option TableWhy
head_fault head fields = first_of (text_fault fields ∷ unless (are_fields head fields) Header ∷ [])
