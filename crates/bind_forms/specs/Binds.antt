-- Which bound source a source comes to, as a relation between the two trees.
use Rattle.std.specs.Prelude.{◌≡◌, ◌↔◌, ℕ, ◌<◌, List, [], ◌++◌, map, reverse, slice_get, Option, Some, None}
use Rattle.std.specs.Option.{option_map}
use Rattle.std.specs.List.{AllZip, AllPairs, Contains, filter_map, flat_map, enumerate_from}
use Rattle.verilog_tree.specs.Trees as tree
use Rattle.bind_sites.specs.Sites.{Operand, operands, Site, Wire, sites, port_names}
use Rattle.bind_sites.specs.Selects.{width_of, Selects}
use Rattle.bind_sites.specs.Scope.{IsAt, IsPort, HasDirection, HasDeclaration, IsLinked}
use Rattle.bind_sites.specs.Refused.{IsOperandAt}
use Rattle.bind_forms.specs.declared.bound.BoundPort.{BoundPort}
use Rattle.bind_forms.specs.declared.bound.BoundWire.{BoundWire}
use Rattle.bind_forms.specs.declared.bound.BoundPart.{BoundPart}
use Rattle.bind_forms.specs.declared.bound.BoundAssign.{BoundAssign}
use Rattle.bind_forms.specs.declared.bound.BoundKind.{BoundKind}
use Rattle.bind_forms.specs.declared.bound.BoundKind.TheVariants as kind
use Rattle.bind_forms.specs.declared.bound.BoundLink.{BoundLink}
use Rattle.bind_forms.specs.declared.bound.BoundInstance.{BoundInstance}
use Rattle.bind_forms.specs.declared.bound.BoundModule.{BoundModule}
use Rattle.bind_forms.specs.declared.bound.Bound.{Bound}
use Rattle.bind_forms.specs.WellFormed.{port_wire}
use Rattle.bind_forms.specs.Modules.{Setting, MeansModule, MeansCell, HasPorts, IsTop, IsReached}

-- ---- expressions

-- a whole name is all bits of its wire; a select takes bits of its wire's range
abbrev pub BindsSelect : BoundWire → Option (ℕ × ℕ) → BoundPart → Type 0
BindsSelect wire None part = (part.bit ≡ 0) × (part.count ≡ width_of wire.range)
BindsSelect wire (Some select) part = (range : ℕ × ℕ) × (wire.range ≡ Some range) × Selects range select part.bit part.count

-- An operand is a part of the wire of its name.
pub record BindsOperand (wires : List BoundWire) (operand : Operand) (part : BoundPart) : Type 0 where
  pub wire : BoundWire
  pub there : slice_get wires part.wire ≡ Some wire
  pub name : wire.name ≡ operand.name
  pub bits : BindsSelect wire operand.select part

-- The parts of an expression are its operands from the right.
abbrev pub BindsExpr : List BoundWire → tree.Expr → List BoundPart → Type 0
BindsExpr wires expr parts = AllZip (BindsOperand wires) (reverse (operands expr)) parts

pub record BindsAssign (wires : List BoundWire) (pair : tree.Expr × tree.Expr) (assign : BoundAssign) : Type 0 where
  pub to : BindsExpr wires pair.0 assign.to
  pub from : BindsExpr wires pair.1 assign.from

-- ---- instances

-- the links by name that have an expression, in text order
abbrev pub named_exprs : List tree.NamedLink → List (List ℕ × tree.Expr)
named_exprs links = filter_map (λ link. option_map (λ expr. (link.name, expr)) link.expr) links

-- the links by order that have an expression, each with its place from 0
abbrev pub ordered_exprs : List (Option tree.Expr) → List (ℕ × tree.Expr)
ordered_exprs links = filter_map (λ (place, link). option_map (λ expr. (place, expr)) link) (enumerate_from 0 links)

-- a link by name is one of the port of that name
pub record BindsNamed (names : List (List ℕ)) (wires : List BoundWire) (named : List ℕ × tree.Expr) (link : BoundLink) : Type 0 where
  pub port : slice_get names link.port ≡ Some named.0
  pub parts : BindsExpr wires named.1 link.parts

-- a link by order is one of the port at its place
pub record BindsOrdered (wires : List BoundWire) (ordered : ℕ × tree.Expr) (link : BoundLink) : Type 0 where
  pub port : link.port ≡ ordered.0
  pub parts : BindsExpr wires ordered.1 link.parts

abbrev pub BindsLinks : List (List ℕ) → List BoundWire → tree.Links → List BoundLink → Type 0
BindsLinks names wires (tree.Named links) bound = AllZip (BindsNamed names wires) (named_exprs links) bound
BindsLinks names wires (tree.Ordered links) bound = AllZip (BindsOrdered wires) (ordered_exprs links) bound

-- what a kind means, where the modules that are bound stand at these places of the text
abbrev pub BindsKind : Setting → List ℕ → List ℕ → BoundKind → Type 0
BindsKind setting places name (kind.Module number) = (at : ℕ) × (slice_get places number ≡ Some at) × MeansModule setting name at
BindsKind setting places name (kind.Cell row) = MeansCell setting name row

-- an instance, with the name of its kind
pub record BindsInstance (setting : Setting) (places : List ℕ) (wires : List BoundWire) (of_kind : List ℕ × tree.Instance) (bound : BoundInstance) : Type 0 where
  pub name : bound.name ≡ of_kind.1.name
  pub kind : BindsKind setting places of_kind.0 bound.kind
  pub names : List (List ℕ)
  pub ports : HasPorts setting of_kind.0 names
  pub links : BindsLinks names wires of_kind.1.links bound.links

-- ---- modules

-- a listed port has the direction and the range that are declared for it
pub record BindsPort (sites : List Site) (name : List ℕ) (port : BoundPort) : Type 0 where
  pub name_is : port.name ≡ name
  pub declared : IsPort sites name port.output port.range

-- a whole name is used at a place, in an assign or in a link
abbrev pub IsUsedAt : List Site → ℕ → List ℕ → Type 0
IsUsedAt sites at name = IsOperandAt sites at (record { name = name; select = None })

-- A site makes a wire that is no port. A declaration as a wire makes one. A name that is declared neither as a port nor as a wire, and that stands whole
-- in some link, is that of a scalar. Its first use makes it: the first place at which it stands whole, in a link or in an assign, which may be before
-- every link that it stands in.
pub data MakesWire (sites : List Site) (at : ℕ) (wire : BoundWire) : Type 0 where
  ByDeclaration : IsAt sites at (Wire wire.name wire.range) → ¬ HasDirection sites wire.name → MakesWire sites at wire
  ByUse : IsUsedAt sites at wire.name → ((earlier : ℕ) → earlier < at → ¬ IsUsedAt sites earlier wire.name) → IsLinked sites wire.name
      → ¬ HasDirection sites wire.name → ¬ HasDeclaration sites wire.name → wire.range ≡ None → MakesWire sites at wire

-- The wires that are no ports, in the order of the sites that make them.
pub record AreOthers (sites : List Site) (wires : List BoundWire) : Type 0 where
  pub places : List ℕ
  pub rising : AllPairs (λ one other. one < other) places
  pub each : AllZip (MakesWire sites) places wires
  pub all : (at : ℕ) (wire : BoundWire) → MakesWire sites at wire → Contains places at

abbrev pub item_assigns : tree.Item → List (tree.Expr × tree.Expr)
item_assigns (tree.PortItem d wire range names) = []
item_assigns (tree.Wires range names) = []
item_assigns (tree.Assigns pairs) = pairs
item_assigns (tree.Instances name instances) = []

abbrev pub item_instances : tree.Item → List (List ℕ × tree.Instance)
item_instances (tree.PortItem d wire range names) = []
item_instances (tree.Wires range names) = []
item_instances (tree.Assigns pairs) = []
item_instances (tree.Instances name instances) = map (λ instance. (name, instance)) instances

-- A module: its ports as they are listed, its wires, which are the ports and then the others, and its assigns and instances in text order.
pub record BindsModule (setting : Setting) (places : List ℕ) (owner : tree.Module) (bound : BoundModule) : Type 0 where
  pub name : bound.name ≡ owner.name
  pub ports : AllZip (BindsPort (sites owner)) (port_names owner.head) bound.ports
  pub others : List BoundWire
  pub wires : bound.wires ≡ map port_wire bound.ports ++ others
  pub others_are : AreOthers (sites owner) others
  pub assigns : AllZip (BindsAssign bound.wires) (flat_map item_assigns owner.items) bound.assigns
  pub instances : AllZip (BindsInstance setting places bound.wires) (flat_map item_instances owner.items) bound.instances

-- the module that stands at a place of the text
pub record BindsModuleAt (setting : Setting) (places : List ℕ) (at : ℕ) (bound : BoundModule) : Type 0 where
  pub owner : tree.Module
  pub there : slice_get setting.modules at ≡ Some owner
  pub binds : BindsModule setting places owner bound

-- The bound source of a source: the modules that the top reaches, in text order, and the number of the top.
pub record Binds (setting : Setting) (bound : Bound) : Type 0 where
  pub places : List ℕ
  pub rising : AllPairs (λ one other. one < other) places
  pub reached : (at : ℕ) → Contains places at ↔ IsReached setting at
  pub modules : AllZip (BindsModuleAt setting places) places bound.modules
  pub top : ℕ
  pub top_is : IsTop setting top
  pub top_place : slice_get places bound.top ≡ Some top
