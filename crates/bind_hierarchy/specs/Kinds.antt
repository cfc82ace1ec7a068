-- What the maps of names hold.
use Rattle.std.specs.Prelude.{◌≡◌, ℕ, List, [], ◌∷◌, map, Option, Some, None}
use Rattle.std.specs.List.{filter_map}
use Rattle.std.specs.Option.{option_and_then}
use Rattle.rsfq_ids.specs.declared.table.CellTable.{CellTable}
use Rattle.verilog_tree.specs.Trees.{Module, Item, Instances}
use Rattle.name_table.specs.declared.places.FirstNames.{FirstNames}
use Rattle.name_table.specs.Places.{place_of}
use Rattle.bind_hierarchy.specs.declared.kinds.Kinds.{Kinds}
use Rattle.bind_hierarchy.specs.Names.{IsFirstPlace, module_names, cell_names}

-- the names of the modules and those of the cells, each with its first place
pub record AreKinds (modules : List Module) (table : CellTable) (kinds : Kinds) : Type 0 where
  pub modules_are : (name : List ℕ) → IsFirstPlace (module_names modules) name (place_of kinds.modules name)
  pub cells_are : (name : List ℕ) → IsFirstPlace (cell_names table) name (place_of kinds.cells name)

-- the type of the instances in an item, where it has any
abbrev pub type_of : Item → Option (List ℕ)
type_of (Instances kind (first ∷ rest)) = Some kind
type_of _ = None

-- the module that the instances in an item are of
abbrev pub inner_of : FirstNames → Item → Option ℕ
inner_of names item = option_and_then (place_of names) (type_of item)

-- the modules of the instances in a module, one for each item with instances
abbrev pub inner_modules : FirstNames → Module → List ℕ
inner_modules names holder = filter_map (inner_of names) holder.items
