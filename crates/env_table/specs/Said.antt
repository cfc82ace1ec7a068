-- How far a timing table is read.
use Rattle.std.specs.Prelude.{◌≡◌, ◌≢◌, ℕ, suc, ◌+◌, ◌<◌, List, [], ◌∷◌, ◌++◌, drop, take, slice_index_or, Some, None, IfSome, position}
use Rattle.std.specs.Option.{option_map}
use Rattle.std.specs.List.{filter_map}
use Rattle.env_table.specs.declared.role.Role.{Role}
use Rattle.env_table.specs.declared.role.Role.TheVariants as role
use Rattle.env_table.specs.declared.line.Said.{Said}
use Rattle.env_table.specs.declared.line.Said.TheVariants as said
use Rattle.env_table.specs.declared.read.SoFar.{SoFar}
use Rattle.rsfq_ids.specs.declared.table_fault.TableWhy.{TableWhy}
use Rattle.rsfq_ids.specs.declared.table_fault.TableWhy.TheVariants.{Repeated}
use Rattle.table_fields.specs.Records.{field, time_of}
use Rattle.env_table.specs.Lines.{is_period, line_as, line_of, row_fault}

-- What a record of a role says: the period, or the line on its port.
abbrev pub SaysAs : Role → List (List ℕ) → Said → Type 0
SaysAs of fields (said.Period time) = (of ≡ role.Period) × (time ≡ time_of (field fields 2))
SaysAs of fields (said.Line line) = (of ≢ role.Period) × (line_as of fields ≡ Some line)

-- No row up to a place is refused, and what stands there was read.
pub record IsReadUpTo (records : List (List (List ℕ))) (count : ℕ) (so_far : SoFar) : Type 0 where
  pub passed : (row : ℕ) → row < count + 1 → row_fault records row ≡ None
  pub lines_read : so_far.lines ≡ filter_map line_of (take count (drop 1 records))
  pub found : position is_period (take count (drop 1 records)) ≡ option_map (λ period. period.place) so_far.period
  pub time : IfSome so_far.period (λ period. period.time ≡ time_of (field (slice_index_or records (suc period.place) []) 2))
  pub before : IfSome so_far.period (λ period. period.place < count)

-- what is read after one more record says so
abbrev pub Adds : SoFar → ℕ → Said → SoFar → Type 0
Adds old place (said.Period time) new = (old.period ≡ None) × (new ≡ record { period = Some (record { place = place; time = time }); lines = old.lines })
Adds old place (said.Line line) new = new ≡ record { period = old.period; lines = old.lines ++ line ∷ [] }

-- it can't be added: a period is there
abbrev pub Blocks : SoFar → Said → TableWhy → Type 0
Blocks old (said.Period time) why = option_map (λ period. Repeated (period.place + 1)) old.period ≡ Some why
Blocks old (said.Line line) why = ⊥
