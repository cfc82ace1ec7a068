-- A timing table that is read is well formed.
use Rattle.std.proofs.Common.{◌≡◌, ◌∙◌, ◌+◌, ℕ, zero, suc, ◌<◌, pos, true, sym, refl, ap, subst, arith, List, [], ◌∷◌, length, take, drop, get_or, Option, Some, None}
use Rattle.rsfq_ids.specs.declared.limits.TheConstants.{TIME_LIMIT}
use Rattle.std.specs.Prelude.{nat_le, unwrap_or}
use Rattle.std.specs.List.{All, filter_map}
use Rattle.std.specs.Str.Parse.{digits_value}
use Rattle.std.proofs.lemmas.List.{get_or-drop, length-drop}
use Rattle.std.proofs.lemmas.List.Elements.{All-cons, All-nil}
use Rattle.rsfq_ids.specs.declared.circuit.PortUse.TheVariants as port_use
use Rattle.rsfq_ids.specs.declared.table_fault.TableWhy.{TableWhy}
use Rattle.rsfq_ids.specs.declared.table_fault.TableWhy.TheVariants.{Interval}
use Rattle.rsfq_ids.specs.WellFormed.{IsPositiveTime}
use Rattle.rsfq_ids.specs.Time.{IsWithin}
use Rattle.table_fields.specs.Records.{empty_fault, field, time_fault, time_of, unless}
use Rattle.table_fields.proofs.CheckFacts.{none_first, none_later}
use Rattle.table_fields.proofs.TimeFacts.{interval, time_within}
use Rattle.env_table.specs.declared.env.Env.{Env}
use Rattle.env_table.specs.declared.env.EnvLine.{EnvLine}
use Rattle.env_table.specs.declared.role.Role.{Role}
use Rattle.env_table.specs.declared.role.Role.TheVariants as role
use Rattle.env_table.specs.Roles.{one_fault, role_of, times_fault}
use Rattle.env_table.specs.Lines.{AreLinesOf, FitsUse, IsEnv, is_of_period, line_as, line_fault, line_of, repeated_fault, role_in, start_fault}
use Rattle.env_table.proofs.ReadFacts.{fault_before}

one_time : (least : ℕ) (fields : List (List ℕ)) → one_fault least fields ≡ None → IsWithin (pos least) (pos TIME_LIMIT) (time_of (field fields 2))
one_time least fields none = time_within 2 least (field fields 2) (none_first (time_fault 2 least (field fields 2)) (empty_fault 3 (field fields 3) ∷ empty_fault 4 (field fields 4) ∷ []) none)

fits_line : (of : Role) (fields : List (List ℕ)) (line : EnvLine) → line_as of fields ≡ Some line → times_fault of fields ≡ None → FitsUse line.used line.jitter
fits_line role.Period fields line is none = cc
fits_line role.Clock fields line is none =
    let same : record { port = field fields 1; used = port_use.Clock; jitter = time_of (field fields 2) } ≡ line = cc in
    subst (λ (l : EnvLine). FitsUse l.used l.jitter) same (one_time 0 fields none)
fits_line role.Input fields line is none =
    let x = field fields 2 in
    let y = field fields 3 in
    let rest : List (Option TableWhy) = empty_fault 4 (field fields 4) ∷ unless (nat_le (digits_value 10 x) (digits_value 10 y)) Interval ∷ [] in
    let later = none_later (time_fault 2 0 x) (time_fault 3 0 y ∷ rest) none in
    let last = none_later (empty_fault 4 (field fields 4)) (unless (nat_le (digits_value 10 x) (digits_value 10 y)) Interval ∷ []) (none_later (time_fault 3 0 y) rest later) in
    let same : record { port = field fields 1; used = port_use.Arrival (time_of x) (time_of y); jitter = pos 0 } ≡ line = cc in
    subst (λ (l : EnvLine). FitsUse l.used l.jitter) same (
      time_within 2 0 x (none_first (time_fault 2 0 x) (time_fault 3 0 y ∷ rest) none),
      time_within 3 0 y (none_first (time_fault 3 0 y) rest later),
      interval x y (none_first (unless (nat_le (digits_value 10 x) (digits_value 10 y)) Interval) [] last),
      refl,
    )
fits_line role.Output fields line is none =
    let x = field fields 2 in
    let y = field fields 3 in
    let z = field fields 4 in
    let later = none_later (time_fault 2 0 x) (time_fault 3 1 y ∷ time_fault 4 1 z ∷ []) none in
    let last = none_later (time_fault 3 1 y) (time_fault 4 1 z ∷ []) later in
    let same : record { port = field fields 1; used = port_use.Strobed (record { offset = time_of x; setup = time_of y; hold = time_of z }); jitter = pos 0 } ≡ line = cc in
    subst (λ (l : EnvLine). FitsUse l.used l.jitter) same (
      time_within 2 0 x (none_first (time_fault 2 0 x) (time_fault 3 1 y ∷ time_fault 4 1 z ∷ []) none),
      time_within 3 1 y (none_first (time_fault 3 1 y) (time_fault 4 1 z ∷ []) later),
      time_within 4 1 z (none_first (time_fault 4 1 z) [] last),
      refl,
    )

all_lines : (records : List (List (List ℕ))) → ((i : ℕ) → i < length records → times_fault (role_in (get_or records i [])) (get_or records i []) ≡ None)
    → All (λ (line : EnvLine). FitsUse line.used line.jitter) (filter_map line_of records)
all_lines [] each = All-nil (λ (line : EnvLine). FitsUse line.used line.jitter)
all_lines (fields ∷ records) each = go (line_of fields) refl (all_lines records (λ i less. each (suc i) (omega arith)))
  where
    go : (o : Option EnvLine) → line_of fields ≡ o → All (λ (line : EnvLine). FitsUse line.used line.jitter) (filter_map line_of records)
        → All (λ (line : EnvLine). FitsUse line.used line.jitter) (filter_map line_of (fields ∷ records))
    go None is later = rw is later
    go (Some line) is later =
        rw is (All-cons (λ (l : EnvLine). FitsUse l.used l.jitter) line (filter_map line_of records) (fits_line (role_in fields) fields line is (each zero (omega arith))) later)

times_good : (earlier : List (List (List ℕ))) (fields : List (List ℕ)) → line_fault earlier fields ≡ None → times_fault (role_in fields) fields ≡ None
times_good earlier fields none =
    none_first (times_fault (role_in fields) fields) (repeated_fault earlier fields ∷ [])
    (none_later (start_fault fields) (times_fault (role_in fields) fields ∷ repeated_fault earlier fields ∷ []) none)

row_times : (records : List (List (List ℕ))) (env : Env) → AreLinesOf records env → (place : ℕ) → suc place < length records
    → times_fault (role_in (get_or records (suc place) [])) (get_or records (suc place) []) ≡ None
row_times records env lines place less =
    times_good (take place (drop 1 records)) (get_or records (suc place) []) (sym (fault_before records (suc place) (omega arith)) ∙ lines.passed (suc place) (omega arith))

period_in : (o : Option Role) → is_of_period o ≡ true → unwrap_or o role.Period ≡ role.Period
period_in None e = refl
period_in (Some role.Period) e = refl
period_in (Some role.Clock) e = cc
period_in (Some role.Input) e = cc
period_in (Some role.Output) e = cc

pub env_fits : (records : List (List (List ℕ))) (env : Env) → AreLinesOf records env → IsEnv env
env_fits records env lines =
    let found = lines.period in
    let fields : List (List ℕ) = get_or records (suc found.place) [] in
    let of : role_in fields ≡ role.Period = period_in (role_of (field fields 0)) found.is in
    let times : times_fault role.Period fields ≡ None = subst (λ (r : Role). times_fault r fields ≡ None) of (row_times records env lines found.place found.there) in
    record {
      period = subst IsPositiveTime (sym found.time) (one_time 1 fields times);
      lines = subst (All (λ (line : EnvLine). FitsUse line.used line.jitter)) (sym lines.lines) (all_lines (drop 1 records) (λ i less. at i less));
    }
  where
    at : (i : ℕ) → i < length (drop 1 records) → times_fault (role_in (get_or (drop 1 records) i [])) (get_or (drop 1 records) i []) ≡ None
    at i less =
        let index : 1 + i ≡ suc i = omega arith in
        let is : get_or (drop 1 records) i [] ≡ get_or records (suc i) [] = get_or-drop 1 records i [] ∙ ap (λ n. get_or records n []) index in
        subst (λ f. times_fault (role_in f) f ≡ None) (sym is) (row_times records env lines i (omega (arith, length-drop 1 records)))
