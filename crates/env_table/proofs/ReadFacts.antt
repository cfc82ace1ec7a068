-- The records of a timing table, one after another.
use Rattle.std.proofs.Common.{◌≡◌, ◌≢◌, ◌∙◌, ◌+◌, ℕ, suc, ◌<◌, ◌≤◌, ℤ, Bool, true, false, cond, sym, refl, ap, subst, arith, List, [], ◌∷◌, ◌++◌, map, length, take, drop, get_or, Option, Some, None, IfSome, option_map, add-one, eqb-true, ◌==◌, append-nil}
use Rattle.std.specs.Prelude.{is_some, max, nat_lt, position, option_to_list, unwrap_or}
use Rattle.std.specs.List.{filter_map}
use Rattle.std.proofs.lemmas.Bool.{lt-ltb, le-ltb, ltb-true, ltb-false}
use Rattle.std.proofs.lemmas.List.{get_or-drop, length-drop, length-take, take_all, take_more}
use Rattle.std.proofs.lemmas.List.Quantifiers.{position-Some}
use Rattle.std.proofs.lemmas.List.Elements.{filter_map-append}
use Rattle.rsfq_ids.specs.declared.table_fault.TableFault.{TableFault}
use Rattle.rsfq_ids.specs.declared.table_fault.TableWhy.{TableWhy}
use Rattle.rsfq_ids.specs.declared.table_fault.TableWhy.TheVariants.{Header, Kind, Period, Pins, Repeated}
use Rattle.table_fields.specs.Records.{count_fault, field, first_of, text_fault, time_of, unless}
use Rattle.table_fields.proofs.RowLists.{below_suc}
use Rattle.table_fields.proofs.CheckFacts.{none_first, none_later, passed, skip, skipped, stop}
use Rattle.env_table.specs.declared.env.Env.{Env}
use Rattle.env_table.specs.declared.env.EnvLine.{EnvLine}
use Rattle.env_table.specs.declared.line.Said.{Said}
use Rattle.env_table.specs.declared.line.Said.TheVariants as said
use Rattle.env_table.specs.declared.read.FoundPeriod.{FoundPeriod}
use Rattle.env_table.specs.declared.read.SoFar.{SoFar}
use Rattle.env_table.specs.declared.role.Role.{Role}
use Rattle.env_table.specs.declared.role.Role.TheVariants as role
use Rattle.env_table.specs.Roles.{fits_port, role_of, role_text, times_fault}
use Rattle.env_table.specs.Lines.{AreLinesOf, IsFirstEnvFault, fault_at, is_of_period, is_period, line_as, line_fault, line_of, period_fault, repeated_fault, role_in, row_fault, start_fault}
use Rattle.env_table.specs.Said.{Adds, Blocks, IsReadUpTo, SaysAs}
use Rattle.table_fields.proofs.PlaceFacts.{place_found, place_passed}

-- bytes without a record have no head
pub no_records : {X : Type 0} (f : X → List (List ℕ)) (xs : List X) → (length xs == 0) ≡ true → IsFirstEnvFault (map f xs) (record { row = 0; why = Header })
unfolding first_of
no_records f [] none = record { there = omega arith; cause = refl; first = λ row less. absurd (omega arith) }
no_records f (x ∷ xs) none = let same = eqb-true (length (x ∷ xs)) 0 none in absurd (omega arith)

-- the records up to one more
one_more : (records : List (List (List ℕ))) (place : ℕ) → place + 1 < length records → take (place + 1) (drop 1 records) ≡ take place (drop 1 records) ++ get_or records (suc place) [] ∷ []
one_more records place less =
    let at : 1 + place ≡ suc place = omega arith in
    take_more (drop 1 records) place [] (omega (arith, length-drop 1 records))
    ∙ ap (λ r. take place (drop 1 records) ++ r ∷ []) (get_or-drop 1 records place [] ∙ ap (λ n. get_or records n []) at)

lines_more : (records : List (List (List ℕ))) (place : ℕ) → place + 1 < length records
    → filter_map line_of (take (place + 1) (drop 1 records)) ≡ filter_map line_of (take place (drop 1 records)) ++ option_to_list (line_of (get_or records (suc place) []))
lines_more records place less =
    ap (filter_map line_of) (one_more records place less)
    ∙ (filter_map-append line_of (take place (drop 1 records)) (get_or records (suc place) [] ∷ [])
    ∙ ap (λ xs. filter_map line_of (take place (drop 1 records)) ++ xs) (alone (line_of (get_or records (suc place) [])) refl))
  where
    alone : (o : Option EnvLine) → line_of (get_or records (suc place) []) ≡ o → filter_map line_of (get_or records (suc place) [] ∷ []) ≡ option_to_list o
    alone None is = rw is refl
    alone (Some line) is = rw is refl

-- ---- roles

pub role_of_text : (of : Role) → role_of (role_text of) ≡ Some of
role_of_text role.Period = refl
role_of_text role.Clock = refl
role_of_text role.Input = refl
role_of_text role.Output = refl

other_role : (o : Option Role) (of : Role) → o ≡ Some of → of ≢ role.Period → is_of_period o ≡ false
other_role o role.Period is other = absurd (other refl)
other_role o role.Clock is other = ap is_of_period is
other_role o role.Input is other = ap is_of_period is
other_role o role.Output is other = ap is_of_period is

period_role : (o : Option Role) (of : Role) → o ≡ Some of → of ≡ role.Period → is_of_period o ≡ true
period_role o role.Period is same = ap is_of_period is
period_role o role.Clock is same = cc
period_role o role.Input is same = cc
period_role o role.Output is same = cc

named : (o : Option Role) → is_some o ≡ true → o ≡ Some (unwrap_or o role.Period)
named None e = cc
named (Some of) e = refl

third : (a b c d : Option TableWhy) → first_of (a ∷ b ∷ c ∷ d ∷ []) ≡ None → c ≡ None
third a b c d none = none_first c (d ∷ []) (none_later b (c ∷ d ∷ []) (none_later a (b ∷ c ∷ d ∷ []) none))

-- the role that a good record names
role_named : (fields : List (List ℕ)) → start_fault fields ≡ None → role_of (field fields 0) ≡ Some (role_in fields)
role_named fields none =
    named (role_of (field fields 0)) (passed (is_some (role_of (field fields 0))) Kind
    (third (text_fault fields) (count_fault 5 fields) (unless (is_some (role_of (field fields 0))) Kind) (unless (fits_port (role_in fields) (field fields 1)) Pins) none))

no_repeat : (earlier : List (List (List ℕ))) (fields : List (List ℕ)) → is_period fields ≡ false → repeated_fault earlier fields ≡ None
no_repeat earlier fields is = rw is refl

first_period : (earlier : List (List (List ℕ))) (fields : List (List ℕ)) → position is_period earlier ≡ None → repeated_fault earlier fields ≡ None
first_period earlier fields none = go (is_period fields) refl
  where
    go : (b : Bool) → is_period fields ≡ b → cond b (option_map (λ place. Repeated (place + 1)) (position is_period earlier)) None ≡ None
    go true is = ap (option_map (λ place. Repeated (place + 1))) none
    go false is = refl

good : (earlier : List (List (List ℕ))) (fields : List (List ℕ)) → start_fault fields ≡ None → times_fault (role_in fields) fields ≡ None → repeated_fault earlier fields ≡ None → line_fault earlier fields ≡ None
good earlier fields start times repeat =
    skip (start_fault fields) (times_fault (role_in fields) fields ∷ repeated_fault earlier fields ∷ []) None start
    (skip (times_fault (role_in fields) fields) (repeated_fault earlier fields ∷ []) None times (skip (repeated_fault earlier fields) [] None repeat skipped))

length_taken : (records : List (List (List ℕ))) (place : ℕ) → place + 1 < length records → length (take place (drop 1 records)) ≡ place
length_taken records place less = omega (arith, length-take place (drop 1 records), length-drop 1 records)

earlier_more : (o : Option FoundPeriod) (n : ℕ) → IfSome o (λ period. period.place < n) → IfSome o (λ period. period.place < n + 1)
earlier_more None n less = less
earlier_more (Some period) n less = omega (arith, less)

-- one more record is read
pub step : (records : List (List (List ℕ))) (place : ℕ) (old new : SoFar) (word : Said) → place + 1 < length records → IsReadUpTo records place old
    → start_fault (get_or records (suc place) []) ≡ None → times_fault (role_in (get_or records (suc place) [])) (get_or records (suc place) []) ≡ None
    → SaysAs (role_in (get_or records (suc place) [])) (get_or records (suc place) []) word → Adds old place word new → IsReadUpTo records (place + 1) new
step records place old new (said.Line line) less so_far start times says adds =
    let fields : List (List ℕ) = get_or records (suc place) [] in
    let earlier : List (List (List ℕ)) = take place (drop 1 records) in
    let other : is_period fields ≡ false = other_role (role_of (field fields 0)) (role_in fields) (role_named fields start) says.0 in
    let is_line : line_of fields ≡ Some line = says.1 in
    let more = lines_more records place less in
    let next : IsReadUpTo records (place + 1) (record { period = old.period; lines = old.lines ++ line ∷ [] }) = record {
      passed = below_suc (λ row. row_fault records row ≡ None) place so_far.passed (good earlier fields start times (no_repeat earlier fields other));
      lines_read = ap (λ ls. ls ++ line ∷ []) so_far.lines_read ∙ (ap (λ o. filter_map line_of earlier ++ option_to_list o) (sym is_line) ∙ sym more);
      found = ap (position is_period) (one_more records place less) ∙ (place_passed is_period earlier fields other ∙ so_far.found);
      time = so_far.time;
      before = earlier_more old.period place so_far.before;
    } in
    subst (IsReadUpTo records (place + 1)) (sym adds) next
step records place old new (said.Period time) less so_far start times says adds =
    let fields : List (List ℕ) = get_or records (suc place) [] in
    let earlier : List (List (List ℕ)) = take place (drop 1 records) in
    let same : is_period fields ≡ true = period_role (role_of (field fields 0)) (role_in fields) (role_named fields start) says.0 in
    let none : position is_period earlier ≡ None = so_far.found ∙ ap (option_map (λ (period : FoundPeriod). period.place)) adds.0 in
    let no_line : line_of fields ≡ None = ap (λ of. line_as of fields) says.0 in
    let more = lines_more records place less in
    let next : IsReadUpTo records (place + 1) (record { period = Some (record { place = place; time = time }); lines = old.lines }) = record {
      passed = below_suc (λ row. row_fault records row ≡ None) place so_far.passed (good earlier fields start times (first_period earlier fields none));
      lines_read = so_far.lines_read ∙ (sym (append-nil (filter_map line_of earlier)) ∙ (ap (λ o. filter_map line_of earlier ++ option_to_list o) (sym no_line) ∙ sym more));
      found = ap (position is_period) (one_more records place less) ∙ (place_found is_period earlier fields none same ∙ ap Some (length_taken records place less));
      time = says.1;
      before = omega arith;
    } in
    subst (IsReadUpTo records (place + 1)) (sym adds.1) next

pub blocked : (records : List (List (List ℕ))) (place : ℕ) (old : SoFar) (word : Said) (why : TableWhy) → IsReadUpTo records place old
    → start_fault (get_or records (suc place) []) ≡ None → times_fault (role_in (get_or records (suc place) [])) (get_or records (suc place) []) ≡ None
    → SaysAs (role_in (get_or records (suc place) [])) (get_or records (suc place) []) word → Blocks old word why → row_fault records (suc place) ≡ Some why
blocked records place old (said.Line line) why so_far start times says blocks = absurd blocks
blocked records place old (said.Period time) why so_far start times says blocks =
    let fields : List (List ℕ) = get_or records (suc place) [] in
    let earlier : List (List (List ℕ)) = take place (drop 1 records) in
    let same : is_period fields ≡ true = period_role (role_of (field fields 0)) (role_in fields) (role_named fields start) says.0 in
    let joined : option_map (λ p. Repeated (p + 1)) (position is_period earlier) ≡ Some why =
    ap (option_map (λ p. Repeated (p + 1))) so_far.found ∙ (map_twice old.period ∙ blocks) in
    let repeat : repeated_fault earlier fields ≡ Some why = rw same joined in
    skip (start_fault fields) (times_fault (role_in fields) fields ∷ repeated_fault earlier fields ∷ []) (Some why) start
    (skip (times_fault (role_in fields) fields) (repeated_fault earlier fields ∷ []) (Some why) times (stop (repeated_fault earlier fields) [] why repeat))
  where
    map_twice : (o : Option FoundPeriod) → option_map (λ p. Repeated (p + 1)) (option_map (λ (period : FoundPeriod). period.place) o) ≡ option_map (λ (period : FoundPeriod). Repeated (period.place + 1)) o
    map_twice None = refl
    map_twice (Some period) = refl

-- a record is refused by its own checks
pub refused : (earlier : List (List (List ℕ))) (fields : List (List ℕ)) (why : TableWhy) → first_of (start_fault fields ∷ times_fault (role_in fields) fields ∷ []) ≡ Some why → line_fault earlier fields ≡ Some why
unfolding first_of
refused earlier fields why some = go (start_fault fields) (times_fault (role_in fields) fields) some
  where
    go : (a b : Option TableWhy) → first_of (a ∷ b ∷ []) ≡ Some why → first_of (a ∷ b ∷ repeated_fault earlier fields ∷ []) ≡ Some why
    go (Some x) b some = some
    go None (Some x) some = some
    go None None some = cc

pub step_at : (records : List (List (List ℕ))) (place : ℕ) (fields : List (List ℕ)) (old new : SoFar) (word : Said) → get_or records (suc place) [] ≡ fields → place + 1 < length records
    → IsReadUpTo records place old → start_fault fields ≡ None → times_fault (role_in fields) fields ≡ None → SaysAs (role_in fields) fields word → Adds old place word new → IsReadUpTo records (place + 1) new
step_at records place fields old new word is less so_far start times says adds =
    step records place old new word less so_far (subst (λ f. start_fault f ≡ None) (sym is) start) (subst (λ f. times_fault (role_in f) f ≡ None) (sym is) times)
    (subst (λ f. SaysAs (role_in f) f word) (sym is) says) adds

pub blocked_at : (records : List (List (List ℕ))) (place : ℕ) (fields : List (List ℕ)) (old : SoFar) (word : Said) (why : TableWhy) → get_or records (suc place) [] ≡ fields
    → IsReadUpTo records place old → start_fault fields ≡ None → times_fault (role_in fields) fields ≡ None → SaysAs (role_in fields) fields word → Blocks old word why → row_fault records (suc place) ≡ Some why
blocked_at records place fields old word why is so_far start times says blocks =
    blocked records place old word why so_far (subst (λ f. start_fault f ≡ None) (sym is) start) (subst (λ f. times_fault (role_in f) f ≡ None) (sym is) times)
    (subst (λ f. SaysAs (role_in f) f word) (sym is) says) blocks

pub fault_before : (records : List (List (List ℕ))) (row : ℕ) → row < max 1 (length records) → fault_at records row ≡ row_fault records row
fault_before records row less = rw (lt-ltb row (max 1 (length records)) less) refl

fault_after : (records : List (List (List ℕ))) (row : ℕ) → max 1 (length records) ≤ row → fault_at records row ≡ period_fault records
fault_after records row le = rw (le-ltb row (max 1 (length records)) le) refl

pub first_refused : (records : List (List (List ℕ))) (place : ℕ) (so_far : SoFar) (why : TableWhy) → place + 1 < length records → IsReadUpTo records place so_far
    → row_fault records (suc place) ≡ Some why → IsFirstEnvFault records (record { row = place + 1; why = why })
first_refused records place so_far why less read cause = record {
  there = omega arith;
  cause = fault_before records (place + 1) (omega arith) ∙ (ap (row_fault records) (add-one place) ∙ cause);
  first = λ row lt. fault_before records row (omega arith) ∙ read.passed row lt;
}

all_read : (records : List (List (List ℕ))) (place : ℕ) → length records ≤ place + 1 → take place (drop 1 records) ≡ drop 1 records
all_read records place all = take_all place (drop 1 records) (omega (arith, length-drop 1 records))

found_period : (o : Option FoundPeriod) (z : ℤ) → option_map (λ (p : FoundPeriod). p.time) o ≡ Some z → (p : FoundPeriod) × (o ≡ Some p) × (p.time ≡ z)
found_period None z e = cc
found_period (Some p) z e = (p, refl, cc)

-- all records are read, and one of them gives the period
pub ended : (records : List (List (List ℕ))) (place : ℕ) (so_far : SoFar) (env : Env) → 0 < length records → place + 1 ≡ length records → IsReadUpTo records place so_far
    → (option_map (λ (p : FoundPeriod). p.time) so_far.period ≡ Some env.period) × (env.lines ≡ so_far.lines) → AreLinesOf records env
ended records place so_far env some all read end =
    let (p, is, time) = found_period so_far.period env.period end.0 in
    let at : position is_period (drop 1 records) ≡ Some p.place =
    ap (position is_period) (sym (all_read records place (omega arith))) ∙ (read.found ∙ ap (option_map (λ (q : FoundPeriod). q.place)) is) in
    let known = position-Some is_period (drop 1 records) p.place [] at in
    let index : 1 + p.place ≡ suc p.place = omega arith in
    let record_is : get_or (drop 1 records) p.place [] ≡ get_or records (suc p.place) [] = get_or-drop 1 records p.place [] ∙ ap (λ n. get_or records n []) index in
    let told : p.time ≡ time_of (field (get_or records (suc p.place) []) 2) =
    subst (λ o. IfSome o (λ (q : FoundPeriod). q.time ≡ time_of (field (get_or records (suc q.place) []) 2))) is read.time in
    let none : period_fault records ≡ None = ap (λ o. unless (is_some o) Period) at in
    record {
      passed = λ row le. row_passes row le none;
      period = record {
        place = p.place;
        there = omega (arith, known.0, length-drop 1 records);
        is = ap is_period (sym record_is) ∙ known.1;
        time = sym time ∙ told;
      };
      lines = end.1 ∙ (read.lines_read ∙ ap (filter_map line_of) (all_read records place (omega arith)));
    }
  where
    row_passes : (row : ℕ) → row ≤ length records → period_fault records ≡ None → fault_at records row ≡ None
    row_passes row le none = go (nat_lt row (max 1 (length records))) refl
      where
        go : (b : Bool) → nat_lt row (max 1 (length records)) ≡ b → fault_at records row ≡ None
        go true is = let less = ltb-true row (max 1 (length records)) is in fault_before records row less ∙ read.passed row (omega arith)
        go false is = let past = ltb-false row (max 1 (length records)) is in fault_after records row past ∙ none

-- all records are read, and none of them gives the period
pub no_period : (records : List (List (List ℕ))) (place : ℕ) (so_far : SoFar) (fault : TableFault) → 0 < length records → place + 1 ≡ length records → IsReadUpTo records place so_far
    → (fault.row ≡ length records) × (fault.why ≡ Period) × (so_far.period ≡ None) → IsFirstEnvFault records fault
no_period records place so_far fault some all read end =
    let at : position is_period (drop 1 records) ≡ None =
    ap (position is_period) (sym (all_read records place (omega arith))) ∙ (read.found ∙ ap (option_map (λ (q : FoundPeriod). q.place)) end.2) in
    let stands : period_fault records ≡ Some Period = ap (λ o. unless (is_some o) Period) at in
    record {
      there = omega (arith, end.0);
      cause = fault_after records fault.row (omega (arith, end.0)) ∙ (stands ∙ ap Some (sym end.1));
      first = λ row less. fault_before records row (omega (arith, end.0)) ∙ read.passed row (omega (arith, end.0));
    }
