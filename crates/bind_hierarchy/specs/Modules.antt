-- What the modules of a text instantiate. A module is told by its place in text order, from 0.
use Rattle.std.specs.Prelude.{◌≡◌, ◌≢◌, ◌⊎◌, ℕ, ◌<◌, List, [], ◌∷◌, length, slice_get, Option, Some, None, MatchOption}
use Rattle.std.specs.List.{Contains}
use Rattle.rsfq_ids.specs.declared.table.CellTable.{CellTable}
use Rattle.rsfq_ids.specs.declared.table.CellRow.{CellRow}
use Rattle.verilog_tree.specs.Trees.{Module, Instance, Item, Instances}
use Rattle.bind_hierarchy.specs.declared.kinds.Meaning.{Meaning}
use Rattle.bind_hierarchy.specs.declared.kinds.Meaning.TheVariants as meaning

-- the module at a place has this name
abbrev pub IsModuleNamed : List Module → ℕ → List ℕ → Type 0
IsModuleNamed modules at name = (holder : Module) × (slice_get modules at ≡ Some holder) × (holder.name ≡ name)

-- the cell in a row of the table has this name
abbrev pub IsCellNamed : CellTable → ℕ → List ℕ → Type 0
IsCellNamed table row name = (cell : CellRow) × (slice_get table.rows row ≡ Some cell) × (cell.name ≡ name)

-- a name means the first module of that name
abbrev pub MeansModule : List Module → List ℕ → ℕ → Type 0
MeansModule modules name at = IsModuleNamed modules at name × ((earlier : ℕ) → earlier < at → ¬ IsModuleNamed modules earlier name)

-- or, where no module has it, the first cell
abbrev pub MeansCell : List Module → CellTable → List ℕ → ℕ → Type 0
MeansCell modules table name row = ((at : ℕ) → ¬ IsModuleNamed modules at name) × IsCellNamed table row name × ((earlier : ℕ) → earlier < row → ¬ IsCellNamed table earlier name)

-- what a name means, or that no module and no cell has it
abbrev pub Means : List Module → CellTable → List ℕ → Option Meaning → Type 0
Means modules table name (Some (meaning.Module at)) = MeansModule modules name at
Means modules table name (Some (meaning.Cell row)) = MeansCell modules table name row
Means modules table name None = ((at : ℕ) → ¬ IsModuleNamed modules at name) × ((row : ℕ) → ¬ IsCellNamed table row name)

-- the module at `outer` has an instance of the module at `inner`
pub record Instantiates (modules : List Module) (outer inner : ℕ) : Type 0 where
  pub holder : Module
  pub there : slice_get modules outer ≡ Some holder
  pub kind : List ℕ
  pub instances : List Instance
  pub stands : Contains holder.items (Instances kind instances)
  pub some : 0 < length instances
  pub means : MeansModule modules kind inner

-- the modules that a module reaches: itself, and what a reached module instantiates
pub data IsReached (modules : List Module) (top : ℕ) : ℕ → Type 0 where
  Top : IsReached modules top top
  Inner : (outer inner : ℕ) → IsReached modules top outer → Instantiates modules outer inner → IsReached modules top inner

-- each module instantiates the next, and the last one the module `back`
abbrev pub IsChain : List Module → ℕ → List ℕ → Type 0
IsChain modules back [] = ⊥
IsChain modules back (at ∷ []) = Instantiates modules at back
IsChain modules back (at ∷ next ∷ rest) = Instantiates modules at next × IsChain modules back (next ∷ rest)

-- a module instantiates itself, directly or through others
abbrev pub IsOnRing : List Module → ℕ → Type 0
IsOnRing modules at = (through : List ℕ) × IsChain modules at (at ∷ through)
