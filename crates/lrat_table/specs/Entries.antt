-- The clauses that a table holds, by their ids.
use Rattle.std.specs.Prelude.{◌≡◌, ◌<◌, ◌==◌, if◌then◌else◌, ℕ, List, [], ◌∷◌, length, Option, None, ⊤}
use Rattle.std.specs.List.{slice_index_or}
use Rattle.rsfq_ids.specs.Formula.{Clause}
use Rattle.lrat_table.specs.Found.{Found}

-- a clause under its id, or none where it was deleted
pub record TableEntry : Type 0 where
  pub id : ℕ
  pub clause : Option Clause

-- the clause of an id, if there is one
abbrev pub found_of : List TableEntry → Found
found_of [] id = None
found_of (entry ∷ entries) id = if id == entry.id then entry.clause else found_of entries id

-- the last id of entries that stand behind an id
abbrev pub last_of : ℕ → List TableEntry → ℕ
last_of last [] = last
last_of last (entry ∷ entries) = last_of entry.id entries

-- the ids of entries that stand behind an id rise
abbrev pub AreRising : ℕ → List TableEntry → Type 0
AreRising last [] = ⊤
AreRising last (entry ∷ entries) = (last < entry.id) × AreRising entry.id entries

abbrev pub id_at : List TableEntry → ℕ → ℕ
id_at entries place = (slice_index_or entries place (record { id = 0; clause = None })).id

-- the entry at a place has this id
pub record IsAt (entries : List TableEntry) (id place : ℕ) : Type 0 where
  pub within : place < length entries
  pub same : id_at entries place ≡ id

-- no entry has this id
abbrev pub IsAbsent : List TableEntry → ℕ → Type 0
IsAbsent entries id = (place : ℕ) → place < length entries → id_at entries place ≡ id → ⊥
