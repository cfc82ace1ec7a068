-- The truth string and the times of a cell.
use Rattle.std.specs.Prelude.{ℕ, ◌+◌, ◌-◌, ◌*◌, ◌^◌, ◌==◌, nat_le, Bool, ◌&&◌, ◌||◌, List, [], ◌∷◌, length, Option}
use Rattle.std.specs.List.{list_all}
use Rattle.std.specs.Str.Parse.{digits_value}
use Rattle.rsfq_ids.specs.declared.table.Kind.{Kind}
use Rattle.rsfq_ids.specs.declared.table.Kind.TheVariants as kind
use Rattle.rsfq_ids.specs.declared.table_fault.TableWhy.{TableWhy}
use Rattle.rsfq_ids.specs.declared.table_fault.TableWhy.TheVariants.{Function, Interval}
use Rattle.table_fields.specs.Records.{empty_fault, field, first_of, is_empty, time_fault, unless}

-- a digit 0 or 1
abbrev pub is_bit : ℕ → Bool
is_bit byte = byte == 48 || byte == 49

-- the truth string of the digits: the digit at place r is bit r
abbrev pub truth_of : List ℕ → ℕ
truth_of [] = 0
truth_of (digit ∷ digits) = (digit - 48) + 2 * truth_of digits

-- a gate of so many inputs has a digit for each row of its truth table, any other cell none
abbrev pub fits_function : Kind → ℕ → List ℕ → Bool
fits_function kind.Jtl inputs text = is_empty text
fits_function kind.Split inputs text = is_empty text
fits_function kind.Merge inputs text = is_empty text
fits_function kind.Gate inputs text = (length text == 2 ^ inputs) && list_all is_bit text

abbrev pub function_fault : Kind → ℕ → List ℕ → Option TableWhy
function_fault kind inputs text = unless (fits_function kind inputs text) Function

-- setup and hold: at a gate a time of at least 1 fs, at any other cell nothing
abbrev pub guard_fault : Kind → ℕ → List ℕ → Option TableWhy
guard_fault kind.Jtl column text = empty_fault column text
guard_fault kind.Split column text = empty_fault column text
guard_fault kind.Merge column text = empty_fault column text
guard_fault kind.Gate column text = time_fault column 1 text

-- the least dead time in femtoseconds
abbrev pub least_dead : Kind → ℕ
least_dead kind.Jtl = 0
least_dead kind.Split = 0
least_dead kind.Merge = 0
least_dead kind.Gate = 1

-- The columns of times, one by one: the least and the greatest delay, setup, hold, dead time; then that the least delay is not above the greatest.
abbrev pub times_fault : Kind → List (List ℕ) → Option TableWhy
times_fault kind fields = first_of (
    time_fault 6 0 (field fields 6)
    ∷ time_fault 7 0 (field fields 7)
    ∷ guard_fault kind 8 (field fields 8)
    ∷ guard_fault kind 9 (field fields 9)
    ∷ time_fault 10 (least_dead kind) (field fields 10)
    ∷ unless (nat_le (digits_value 10 (field fields 6)) (digits_value 10 (field fields 7))) Interval
    ∷ [])
