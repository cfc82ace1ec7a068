-- What is bound: which modules the top reaches, and what the ports of a kind are.
use Rattle.std.specs.Prelude.{◌≡◌, ℕ, List, slice_get, Option, Some, None}
use Rattle.rsfq_ids.specs.declared.table.CellTable.{CellTable}
use Rattle.rsfq_ids.specs.declared.table.CellRow.{CellRow}
use Rattle.verilog_tree.specs.Trees.{Module}
use Rattle.bind_sites.specs.Sites.{port_names}
use Rattle.bind_hierarchy.specs.Modules as hierarchy
use Rattle.bind_hierarchy.specs.Top as root
use Rattle.bind_forms.specs.WellFormed.{cell_ports}

-- what is bound: the modules of a text, the cells, and the name of the top if one is given
pub record Setting : Type 0 where
  pub modules : List Module
  pub table : CellTable
  pub top : Option (List ℕ)

abbrev pub setting : List Module → CellTable → Option (List ℕ) → Setting
setting modules table top = record { modules = modules; table = table; top = top }

-- the module at a place has this name
abbrev pub IsModuleNamed : Setting → ℕ → List ℕ → Type 0
IsModuleNamed setting at name = hierarchy.IsModuleNamed setting.modules at name

-- the cell in a row of the table has this name
abbrev pub IsCellNamed : Setting → ℕ → List ℕ → Type 0
IsCellNamed setting row name = hierarchy.IsCellNamed setting.table row name

-- a name means the first module of that name
abbrev pub MeansModule : Setting → List ℕ → ℕ → Type 0
MeansModule setting name at = hierarchy.MeansModule setting.modules name at

-- or, where no module has it, the first cell
abbrev pub MeansCell : Setting → List ℕ → ℕ → Type 0
MeansCell setting name row = hierarchy.MeansCell setting.modules setting.table name row

-- the module at `outer` has an instance of the module at `inner`
abbrev pub Instantiates : Setting → ℕ → ℕ → Type 0
Instantiates setting outer inner = hierarchy.Instantiates setting.modules outer inner

-- a module that no module instantiates
abbrev pub IsFree : Setting → ℕ → Type 0
IsFree setting at = root.IsFree setting.modules at

-- The top: the module that is named or, where none is, the only one that no module instantiates.
abbrev pub IsTopBy : Setting → Option (List ℕ) → ℕ → Type 0
IsTopBy setting (Some name) at = MeansModule setting name at
IsTopBy setting None at = root.IsOnlyFree setting.modules at

abbrev pub IsTop : Setting → ℕ → Type 0
IsTop setting at = IsTopBy setting setting.top at

-- the modules that the top reaches: itself, and what a reached module instantiates
pub record IsReached (setting : Setting) (at : ℕ) : Type 0 where
  pub top : ℕ
  pub top_is : IsTop setting top
  pub reaches : hierarchy.IsReached setting.modules top at

-- The ports of a kind, by their names in port order: those in the head of a module; the inputs, the clock and the outputs of a cell.
pub data HasPorts (setting : Setting) (kind : List ℕ) (names : List (List ℕ)) : Type 0 where
  OfModule : (at : ℕ) (holder : Module) → MeansModule setting kind at → slice_get setting.modules at ≡ Some holder → names ≡ port_names holder.head → HasPorts setting kind names
  OfCell : (row : ℕ) (cell : CellRow) → MeansCell setting kind row → slice_get setting.table.rows row ≡ Some cell → names ≡ cell_ports cell → HasPorts setting kind names
