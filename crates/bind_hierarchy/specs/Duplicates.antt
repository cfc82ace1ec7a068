-- Names that two modules, or a module and a cell, have.
use Rattle.std.specs.Prelude.{◌⊎◌, ℕ, ◌<◌, List, Option, Some, None}
use Rattle.rsfq_ids.specs.declared.table.CellTable.{CellTable}
use Rattle.verilog_tree.specs.Trees.{Module}
use Rattle.bind_hierarchy.specs.Modules.{IsModuleNamed, IsCellNamed}

-- the module at a place has this name, and so has an earlier module or a cell
abbrev pub IsDuplicate : List Module → CellTable → ℕ → List ℕ → Type 0
IsDuplicate modules table at name = IsModuleNamed modules at name × (((earlier : ℕ) × (earlier < at) × IsModuleNamed modules earlier name) ⊎ ((row : ℕ) × IsCellNamed table row name))

-- the first such module, or that there is none
abbrev pub IsFirstDuplicate : List Module → CellTable → Option ℕ → Type 0
IsFirstDuplicate modules table (Some at) = ((name : List ℕ) × IsDuplicate modules table at name) × ((before : ℕ) (name : List ℕ) → before < at → IsDuplicate modules table before name → ⊥)
IsFirstDuplicate modules table None = (at : ℕ) (name : List ℕ) → IsDuplicate modules table at name → ⊥
