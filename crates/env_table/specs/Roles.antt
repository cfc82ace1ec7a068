-- The roles of lines and the fields that each has.
use Rattle.std.specs.Prelude.{ℕ, nat_le, Bool, not, if◌then◌else◌, List, [], ◌∷◌, codes, Option, Some, None}
use Rattle.std.specs.Str.{bytes_eq}
use Rattle.std.specs.Str.Parse.{digits_value}
use Rattle.env_table.specs.declared.role.Role.{Role}
use Rattle.env_table.specs.declared.role.Role.TheVariants as role
use Rattle.rsfq_ids.specs.declared.table_fault.TableWhy.{TableWhy}
use Rattle.rsfq_ids.specs.declared.table_fault.TableWhy.TheVariants.{Interval}
use Rattle.table_fields.specs.Records.{empty_fault, field, first_of, is_empty, time_fault, unless}

-- the word for a role
abbrev pub role_text : Role → List ℕ
role_text role.Period = codes "period"
role_text role.Clock = codes "clock"
role_text role.Input = codes "input"
role_text role.Output = codes "output"

-- the role of a word, if it is one of the four
abbrev pub role_of : List ℕ → Option Role
role_of text = if bytes_eq text (role_text role.Period) then Some role.Period
    else if bytes_eq text (role_text role.Clock) then Some role.Clock
    else if bytes_eq text (role_text role.Input) then Some role.Input
    else if bytes_eq text (role_text role.Output) then Some role.Output
    else None

-- only the period has no port
abbrev pub fits_port : Role → List ℕ → Bool
fits_port role.Period port = is_empty port
fits_port role.Clock port = not (is_empty port)
fits_port role.Input port = not (is_empty port)
fits_port role.Output port = not (is_empty port)

-- a time of at least so many femtoseconds, and two empty columns
abbrev pub one_fault : ℕ → List (List ℕ) → Option TableWhy
one_fault least fields = first_of (time_fault 2 least (field fields 2) ∷ empty_fault 3 (field fields 3) ∷ empty_fault 4 (field fields 4) ∷ [])

-- The columns of times, one by one: a period of at least 1 fs; a jitter; the earliest and the latest arrival, the earliest not above the latest;
-- a strobe's offset, and its setup and hold of at least 1 fs. Unused columns are empty.
abbrev pub times_fault : Role → List (List ℕ) → Option TableWhy
times_fault role.Period fields = one_fault 1 fields
times_fault role.Clock fields = one_fault 0 fields
times_fault role.Input fields = first_of (
    time_fault 2 0 (field fields 2)
    ∷ time_fault 3 0 (field fields 3)
    ∷ empty_fault 4 (field fields 4)
    ∷ unless (nat_le (digits_value 10 (field fields 2)) (digits_value 10 (field fields 3))) Interval
    ∷ [])
times_fault role.Output fields = first_of (time_fault 2 0 (field fields 2) ∷ time_fault 3 1 (field fields 3) ∷ time_fault 4 1 (field fields 4) ∷ [])
