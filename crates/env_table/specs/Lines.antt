-- The timing table that bytes stand for, and the first fault of bytes that stand for none.
use Rattle.std.specs.Prelude.{◌≡◌, ℕ, zero, suc, ◌+◌, ◌<◌, ◌≤◌, ◌≤ℤ◌, ℤ, pos, Bool, true, false, max, nat_lt, if◌then◌else◌, List, [], ◌∷◌, codes, drop, take, length, slice_index_or, Option, Some, None, is_some, unwrap_or, position}
use Rattle.std.specs.Option.{option_map}
use Rattle.std.specs.List.{All, filter_map}
use Rattle.env_table.specs.declared.role.Role.{Role}
use Rattle.env_table.specs.declared.role.Role.TheVariants as role
use Rattle.env_table.specs.declared.env.Env.{Env}
use Rattle.env_table.specs.declared.env.EnvLine.{EnvLine}
use Rattle.rsfq_ids.specs.declared.circuit.PortUse.{PortUse}
use Rattle.rsfq_ids.specs.declared.circuit.PortUse.TheVariants as port_use
use Rattle.rsfq_ids.specs.declared.table_fault.TableFault.{TableFault}
use Rattle.rsfq_ids.specs.declared.table_fault.TableWhy.{TableWhy}
use Rattle.rsfq_ids.specs.declared.table_fault.TableWhy.TheVariants.{Kind, Period, Pins, Repeated}
use Rattle.rsfq_ids.specs.WellFormed.{IsPositiveTime, IsTime}
use Rattle.table_fields.specs.Records.{count_fault, field, first_of, head_fault, text_fault, time_of, unless}
use Rattle.env_table.specs.Roles.{fits_port, role_of, times_fault}

-- The head, which is row 0.
abbrev pub head : List (List ℕ)
head = codes "role" ∷ codes "port" ∷ codes "x" ∷ codes "y" ∷ codes "z" ∷ []

abbrev pub is_of_period : Option Role → Bool
is_of_period None = false
is_of_period (Some role.Period) = true
is_of_period (Some role.Clock) = false
is_of_period (Some role.Input) = false
is_of_period (Some role.Output) = false

-- a record of the period
abbrev pub is_period : List (List ℕ) → Bool
is_period fields = is_of_period (role_of (field fields 0))

-- What a line of a role says of its port: the clock with its jitter, an arrival interval, or a strobe. The period says nothing of a port.
abbrev pub line_as : Role → List (List ℕ) → Option EnvLine
line_as role.Period fields = None
line_as role.Clock fields = Some (record { port = field fields 1; used = port_use.Clock; jitter = time_of (field fields 2) })
line_as role.Input fields = Some (record { port = field fields 1; used = port_use.Arrival (time_of (field fields 2)) (time_of (field fields 3)); jitter = pos 0 })
line_as role.Output fields =
    Some (record { port = field fields 1; used = port_use.Strobed (record { offset = time_of (field fields 2); setup = time_of (field fields 3); hold = time_of (field fields 4) }); jitter = pos 0 })

-- the role that a record names
abbrev pub role_in : List (List ℕ) → Role
role_in fields = unwrap_or (role_of (field fields 0)) role.Period

-- the line that a record stands for, if it is not the period's
abbrev pub line_of : List (List ℕ) → Option EnvLine
line_of fields = line_as (role_in fields) fields

-- an earlier row gives the period; the record at a place stands in the row after it
abbrev pub repeated_fault : List (List (List ℕ)) → List (List ℕ) → Option TableWhy
repeated_fault earlier fields = if is_period fields then option_map (λ place. Repeated (place + 1)) (position is_period earlier) else None

-- the first checks of a line: text, number of fields, role, port
abbrev pub start_fault : List (List ℕ) → Option TableWhy
start_fault fields = first_of (
    text_fault fields
    ∷ count_fault 5 fields
    ∷ unless (is_some (role_of (field fields 0))) Kind
    ∷ unless (fits_port (role_in fields) (field fields 1)) Pins
    ∷ [])

-- The first cause for which a record is no line of the table, where these are the records before it.
abbrev pub line_fault : List (List (List ℕ)) → List (List ℕ) → Option TableWhy
line_fault earlier fields = first_of (start_fault fields ∷ times_fault (role_in fields) fields ∷ repeated_fault earlier fields ∷ [])

-- no record gives the period
abbrev pub period_fault : List (List (List ℕ)) → Option TableWhy
period_fault records = unless (is_some (position is_period (drop 1 records))) Period

-- The first cause for which a row is refused. Row 0 is the head, and there always is one; the record at a place stands in the row after it.
abbrev pub row_fault : List (List (List ℕ)) → ℕ → Option TableWhy
row_fault records zero = head_fault head (slice_index_or records 0 [])
row_fault records (suc place) = line_fault (take place (drop 1 records)) (slice_index_or records (suc place) [])

-- The same, where the row after the last is refused for want of a period.
abbrev pub fault_at : List (List (List ℕ)) → ℕ → Option TableWhy
fault_at records row = if nat_lt row (max 1 (length records)) then row_fault records row else period_fault records

-- The first row that is refused, and the first cause.
pub record IsFirstEnvFault (records : List (List (List ℕ))) (fault : TableFault) : Type 0 where
  pub there : fault.row ≤ length records
  pub cause : fault_at records fault.row ≡ Some fault.why
  pub first : (row : ℕ) → row < fault.row → fault_at records row ≡ None

-- The period of a table is that of some record of the period; as no row is refused there is but one.
pub record IsPeriodOf (records : List (List (List ℕ))) (period : ℤ) : Type 0 where
  pub place : ℕ
  pub there : suc place < length records
  pub is : is_period (slice_index_or records (suc place) []) ≡ true
  pub time : period ≡ time_of (field (slice_index_or records (suc place) []) 2)

-- No row is refused, and the lines are those for which the records stand, in order.
pub record AreLinesOf (records : List (List (List ℕ))) (env : Env) : Type 0 where
  pub passed : (row : ℕ) → row ≤ length records → fault_at records row ≡ None
  pub period : IsPeriodOf records env.period
  pub lines : env.lines ≡ filter_map line_of (drop 1 records)

-- ---- well-formed timing tables

-- the times of a line lie within their limits, and only the clock has a jitter
abbrev pub FitsUse : PortUse → ℤ → Type 0
FitsUse port_use.Clock jitter = IsTime jitter
FitsUse (port_use.Arrival low high) jitter = IsTime low × IsTime high × (low ≤ℤ high) × (jitter ≡ pos 0)
FitsUse (port_use.Strobed strobe) jitter = IsTime strobe.offset × IsPositiveTime strobe.setup × IsPositiveTime strobe.hold × (jitter ≡ pos 0)

pub record IsEnv (env : Env) : Type 0 where
  pub period : IsPositiveTime env.period
  pub lines : All (λ line. FitsUse line.used line.jitter) env.lines
