-- What the names of a module are, by the sites that declare or make them.
use Rattle.std.specs.Prelude.{◌≡◌, ◌⊎◌, ℕ, ◌<◌, Bool, List, sum, slice_get, Option, Some, None}
use Rattle.std.specs.List.{AllZip}
use Rattle.verilog_tree.specs.Trees.{Expr}
use Rattle.bind_sites.specs.Selects.{width_of, Selects}
use Rattle.bind_sites.specs.Sites.{Operand, operands, Site, Port, Wire, Linked}

-- a site stands at a place
abbrev pub IsAt : List Site → ℕ → Site → Type 0
IsAt sites at site = slice_get sites at ≡ Some site

-- somewhere
abbrev pub Stands : List Site → Site → Type 0
Stands sites site = (at : ℕ) × IsAt sites at site

-- somewhere before a place
abbrev pub StandsBefore : List Site → ℕ → Site → Type 0
StandsBefore sites at site = (earlier : ℕ) × (earlier < at) × IsAt sites earlier site

-- a name has a direction and a range as a port
abbrev pub IsPort : List Site → List ℕ → Bool → Option (ℕ × ℕ) → Type 0
IsPort sites name output range = Stands sites (Port name output range)

-- a name has a direction
abbrev pub HasDirection : List Site → List ℕ → Type 0
HasDirection sites name = (output : Bool) × (range : Option (ℕ × ℕ)) × IsPort sites name output range

-- a name is declared as a wire
abbrev pub HasDeclaration : List Site → List ℕ → Type 0
HasDeclaration sites name = (range : Option (ℕ × ℕ)) × Stands sites (Wire name range)

-- a name stands whole in an instance's link
abbrev pub IsLinked : List Site → List ℕ → Type 0
IsLinked sites name = Stands sites (Linked (record { name = name; select = None }))

-- a name is declared, as a port or a wire, or made by a link
abbrev pub IsKnown : List Site → List ℕ → Type 0
IsKnown sites name = HasDirection sites name ⊎ (HasDeclaration sites name ⊎ IsLinked sites name)

-- The range of a name: that of the port, where it has a direction; else that of its declaration as a wire; else none, where a link makes it.
pub data HasRange (sites : List Site) (name : List ℕ) (range : Option (ℕ × ℕ)) : Type 0 where
  AsPort : (output : Bool) → IsPort sites name output range → HasRange sites name range
  AsWire : (¬ HasDirection sites name) → Stands sites (Wire name range) → HasRange sites name range
  AsLinked : (¬ HasDirection sites name) → (¬ HasDeclaration sites name) → IsLinked sites name → range ≡ None → HasRange sites name range

-- the width of a name, whole or with bits selected: that of its range, or the number of bits that are selected
abbrev pub SelectWidth : List Site → List ℕ → Option (ℕ × ℕ) → ℕ → Type 0
SelectWidth sites name None width = (range : Option (ℕ × ℕ)) × HasRange sites name range × (width ≡ width_of range)
SelectWidth sites name (Some select) width = (range : ℕ × ℕ) × (bit : ℕ) × HasRange sites name (Some range) × Selects range select bit width

abbrev pub OperandWidth : List Site → Operand → ℕ → Type 0
OperandWidth sites operand width = SelectWidth sites operand.name operand.select width

-- the width of an expression: the sum over its operands
pub record ExprWidth (sites : List Site) (expr : Expr) (width : ℕ) : Type 0 where
  pub widths : List ℕ
  pub each : AllZip (OperandWidth sites) (operands expr) widths
  pub total : width ≡ sum widths
