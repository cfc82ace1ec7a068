-- Modules in which no cause for refusal stands.
use Rattle.std.specs.Prelude.{◌≡◌, ℕ, ◌<◌, List, [], ◌∷◌, ◌++◌, length, slice_get, Option, Some}
use Rattle.std.specs.Option.{option_map}
use Rattle.std.specs.List.{All, AllZip, Contains, filter_map}
use Rattle.bind_forms.specs.declared.bound.BoundWire.{BoundWire}
use Rattle.bind_forms.specs.declared.bound.BoundLink.{BoundLink}
use Rattle.bind_forms.specs.Modules.{Setting, MeansModule, HasPorts}
use Rattle.bind_forms.specs.Faults.{IsKind, IsUnknownPort}
use Rattle.bind_forms.specs.Binds.{BindsNamed, BindsOrdered, named_exprs}
use Rattle.verilog_tree.specs.Trees as tree
use Rattle.bind_sites.specs.Sites.{operands, Site, Instance, sites}
use Rattle.bind_sites.specs.Scope.{IsAt}
use Rattle.bind_sites.specs.Refused.{IsUnknownName, IsOutOfRange}
use Rattle.bind_sites.specs.Small.{HasSmall}
use Rattle.bind_kinds.specs.Netlist.{IsNetlist, setting_of}
use Rattle.verilog_bind.specs.Fitting.{IsUsed}
use Rattle.verilog_bind.specs.declared.binder.Binder.{Binder}
use Rattle.verilog_bind.specs.Places.{AreNumbers}

-- ---- what is bound

abbrev pub setting_in : Binder → Setting
setting_in binder = setting_of binder.netlist.now

pub record IsBinder (binder : Binder) : Type 0 where
  pub netlist : IsNetlist binder.netlist.now
  pub count : length binder.numbers.now ≡ length (setting_in binder).modules
  pub numbers_are : AreNumbers binder.places.now binder.numbers.now

-- ---- kinds and links

-- a name is that of a cell, or of a module that is bound
pub record IsSoundKind (setting : Setting) (places : List ℕ) (kind : List ℕ) : Type 0 where
  pub known : ¬ (¬ IsKind setting kind)
  pub bound : (at : ℕ) → MeansModule setting kind at → Contains places at

-- a kind has a port of this name
abbrev pub HasPort : Setting → List ℕ → List ℕ → Type 0
HasPort setting kind name = (names : List (List ℕ)) × HasPorts setting kind names × (¬ (¬ Contains names name))

-- a link by name is one of a port of the kind, and its operands stand in the module
pub record IsSoundNamed (setting : Setting) (all : List Site) (kind : List ℕ) (link : tree.NamedLink) : Type 0 where
  pub port : HasPort setting kind link.name
  pub used : (expr : tree.Expr) → link.expr ≡ Some expr → All (IsUsed all) (operands expr)

abbrev pub IsSoundOrdered : List Site → Option tree.Expr → Type 0
IsSoundOrdered all link = (expr : tree.Expr) → link ≡ Some expr → All (IsUsed all) (operands expr)

abbrev pub AreSoundLinks : Setting → List Site → List ℕ → tree.Links → Type 0
AreSoundLinks setting all kind (tree.Named links) = All (IsSoundNamed setting all kind) links
AreSoundLinks setting all kind (tree.Ordered links) = All (IsSoundOrdered all) links

-- the links so far, and one by name
abbrev pub AddsNamed : Setting → List ℕ → List BoundWire → tree.NamedLink → List BoundLink → List BoundLink → Type 0
AddsNamed setting kind wires link old new = (names : List (List ℕ)) (before : List (List ℕ × tree.Expr)) → HasPorts setting kind names → AllZip (BindsNamed names wires) before old
    → AllZip (BindsNamed names wires) (before ++ named_exprs (link ∷ [])) new

-- or one by order, at its place
abbrev pub ordered_expr : ℕ × Option tree.Expr → Option (ℕ × tree.Expr)
ordered_expr (place, link) = option_map (λ expr. (place, expr)) link

abbrev pub AddsOrdered : List BoundWire → ℕ × Option tree.Expr → List BoundLink → List BoundLink → Type 0
AddsOrdered wires link old new = (before : List (ℕ × tree.Expr)) → AllZip (BindsOrdered wires) before old → AllZip (BindsOrdered wires) (before ++ filter_map ordered_expr (link ∷ [])) new

-- ---- modules

-- The sites of a module in which no name, kind or port is unknown and no select out of range. The kinds of its instances are bound, and its numbers small.
pub record IsSoundModule (setting : Setting) (places : List ℕ) (all : List Site) : Type 0 where
  pub kinds : (at : ℕ) (kind name : List ℕ) (links : tree.Links) → IsAt all at (Instance kind name links) → IsSoundKind setting places kind
  pub ports : (at : ℕ) (name : List ℕ) → ¬ IsUnknownPort setting all at name
  pub names : (at : ℕ) (name : List ℕ) → ¬ IsUnknownName all at name
  pub ranges : (at : ℕ) (name : List ℕ) → ¬ IsOutOfRange all at name
  pub small : All HasSmall all

-- so are the modules at these places of the text
pub record AreSoundModules (setting : Setting) (places : List ℕ) : Type 0 where
  pub there : (at : ℕ) → Contains places at → at < length setting.modules
  pub sound : (at : ℕ) (owner : tree.Module) → Contains places at → slice_get setting.modules at ≡ Some owner → IsSoundModule setting places (sites owner)
