-- The first place of a name in a list of names.
use Rattle.std.specs.Prelude.{◌≡◌, ℕ, ◌<◌, List, map, slice_get, Option, Some, None}
use Rattle.rsfq_ids.specs.declared.table.CellTable.{CellTable}
use Rattle.verilog_tree.specs.Trees.{Module}

-- the first place of a name, or that it stands nowhere
abbrev pub IsFirstPlace : List (List ℕ) → List ℕ → Option ℕ → Type 0
IsFirstPlace names name (Some place) = (slice_get names place ≡ Some name) × ((earlier : ℕ) → earlier < place → slice_get names earlier ≡ Some name → ⊥)
IsFirstPlace names name None = (place : ℕ) → slice_get names place ≡ Some name → ⊥

abbrev pub module_names : List Module → List (List ℕ)
module_names modules = map (λ holder. holder.name) modules

abbrev pub cell_names : CellTable → List (List ℕ)
cell_names table = map (λ cell. cell.name) table.rows
