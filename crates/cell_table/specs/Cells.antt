-- The cell table that bytes stand for, and the first fault of bytes that stand for none.
use Rattle.std.specs.Prelude.{◌≡◌, ℕ, zero, suc, ◌+◌, ◌-◌, ◌^◌, ◌<◌, true, max, List, [], ◌∷◌, ◌++◌, codes, drop, take, map, length, slice_index, slice_index_or, Option, Some, None, is_some, unwrap_or, option_to_list}
use Rattle.std.specs.Int.{bit_at}
use Rattle.std.specs.Option.{option_map}
use Rattle.std.specs.List.{list_all}
use Rattle.rsfq_ids.specs.declared.table.Kind.{Kind}
use Rattle.rsfq_ids.specs.declared.table.Kind.TheVariants as kind
use Rattle.rsfq_ids.specs.declared.table.CellRow.{CellRow}
use Rattle.rsfq_ids.specs.declared.table.CellTable.{CellTable}
use Rattle.rsfq_ids.specs.declared.table_fault.TableFault.{TableFault}
use Rattle.rsfq_ids.specs.declared.table_fault.TableWhy.{TableWhy}
use Rattle.rsfq_ids.specs.declared.table_fault.TableWhy.TheVariants.{Name, Kind as NoKind, Repeated}
use Rattle.table_fields.specs.Names.{is_plain_name}
use Rattle.name_table.specs.Names.{number_of}
use Rattle.table_fields.specs.Records.{count_fault, field, first_of, head_fault, text_fault, time_of, unless}
use Rattle.cell_table.specs.Fields.{function_fault, times_fault, truth_of}
use Rattle.cell_table.specs.Kinds.{clock_of, kind_of, kind_text, names_in, pins_fault}

-- The head, which is row 0.
abbrev pub head : List (List ℕ)
head = codes "cell" ∷ codes "kind" ∷ codes "inputs" ∷ codes "clock" ∷ codes "outputs" ∷ codes "function"
    ∷ codes "lo" ∷ codes "hi" ∷ codes "setup" ∷ codes "hold" ∷ codes "dead" ∷ []

-- A record stands for a row: its fields are the row's name, the word of its kind, its pins, its truth string and its times.
pub record StandsFor (fields : List (List ℕ)) (row : CellRow) : Type 0 where
  pub name : row.name ≡ field fields 0
  pub kind_is : field fields 1 ≡ kind_text row.kind
  pub inputs : row.inputs ≡ names_in (field fields 2)
  pub clock : row.clock ≡ clock_of row.kind (field fields 3)
  pub outputs : row.outputs ≡ names_in (field fields 4)
  pub truth : row.truth ≡ truth_of (field fields 5)
  pub low : row.low ≡ time_of (field fields 6)
  pub high : row.high ≡ time_of (field fields 7)
  pub setup : row.setup ≡ time_of (field fields 8)
  pub hold : row.hold ≡ time_of (field fields 9)
  pub dead : row.dead ≡ time_of (field fields 10)

-- the kind that a record names
abbrev pub kind_in : List (List ℕ) → Kind
kind_in fields = unwrap_or (kind_of (field fields 1)) kind.Jtl

-- the first checks of a cell: text, number of fields, name, kind
abbrev pub start_fault : List (List ℕ) → Option TableWhy
start_fault fields = first_of (
    text_fault fields
    ∷ count_fault 11 fields
    ∷ unless (is_plain_name (field fields 0)) Name
    ∷ unless (is_some (kind_of (field fields 1))) NoKind
    ∷ [])

-- an earlier cell has the name; the head is row 0, so cell k, from 0, stands in row k + 1
abbrev pub repeated_fault : List (List ℕ) → List ℕ → Option TableWhy
repeated_fault earlier name = option_map (λ place. Repeated (place + 1)) (number_of earlier name)

-- The first cause for which a record is no cell, where the cells before it have these names.
abbrev pub cell_fault : List (List ℕ) → List (List ℕ) → Option TableWhy
cell_fault earlier fields = first_of (
    start_fault fields
    ∷ pins_fault (kind_in fields) (field fields 2) (field fields 3) (field fields 4)
    ∷ function_fault (kind_in fields) (length (names_in (field fields 2))) (field fields 5)
    ∷ times_fault (kind_in fields) fields
    ∷ repeated_fault earlier (field fields 0)
    ∷ [])

-- the names of so many cells from the first on
abbrev pub first_names : List (List (List ℕ)) → ℕ → List (List ℕ)
first_names records count = map (λ fields. field fields 0) (take count (drop 1 records))

-- The first cause for which a row is refused. Row 0 is the head, and there always is one; the cell at a place stands in the row after it.
abbrev pub row_fault : List (List (List ℕ)) → ℕ → Option TableWhy
row_fault records zero = head_fault head (slice_index_or records 0 [])
row_fault records (suc place) = cell_fault (first_names records place) (slice_index_or records (suc place) [])

-- The first row that is refused, and the first cause.
pub record IsFirstCellFault (records : List (List (List ℕ))) (fault : TableFault) : Type 0 where
  pub there : fault.row < max 1 (length records)
  pub cause : row_fault records fault.row ≡ Some fault.why
  pub first : (row : ℕ) → row < fault.row → row_fault records row ≡ None

-- No row is refused, and each row but the head stands for a cell of the table, in order.
pub record AreCellsOf (records : List (List (List ℕ))) (table : CellTable) : Type 0 where
  pub passed : (row : ℕ) → row < max 1 (length records) → row_fault records row ≡ None
  pub count : length table.rows + 1 ≡ length records
  pub cells : (place : ℕ) (d : CellRow) → place < length table.rows → StandsFor (slice_index_or records (suc place) []) (slice_index_or table.rows place d)

-- the names of a cell and of its pins are plain names that are not reserved
abbrev pub HasPlainNames : CellRow → Type 0
HasPlainNames row = (is_plain_name row.name ≡ true) × (list_all is_plain_name (row.inputs ++ option_to_list row.clock ++ row.outputs) ≡ true)

-- Bit r of a cell's truth table is the digit at place r of its truth string, and no bit stands behind the last digit.
pub record HasDigits (fields : List (List ℕ)) (row : CellRow) : Type 0 where
  pub each : (place : ℕ) → place < length (field fields 5) → bit_at row.truth place ≡ slice_index (field fields 5) place - 48
  pub no_more : row.truth < 2 ^ length (field fields 5)

-- each row but the head has the truth table of its digits
abbrev pub HaveDigits : List (List (List ℕ)) → CellTable → Type 0
HaveDigits records table = (place : ℕ) (d : CellRow) → place < length table.rows → HasDigits (slice_index_or records (suc place) []) (slice_index_or table.rows place d)
