-- What is the only one of its sort: ranges, widths and ports by their names.
use Rattle.std.specs.Prelude.{◌≡◌, ℕ, List, slice_get, Option, Some}
use Rattle.verilog_tree.specs.Trees.{Expr, Links}
use Rattle.bind_sites.specs.Sites.{Site, Instance as InstanceSite}
use Rattle.bind_sites.specs.Scope.{IsAt, HasRange, ExprWidth}
use Rattle.bind_sites.specs.Again.{IsAgain}
use Rattle.bind_forms.specs.declared.bound.BoundWire.{BoundWire}
use Rattle.bind_forms.specs.Modules.{Setting, MeansModule, IsReached, HasPorts}
use Rattle.bind_forms.specs.Faults.{HasReachedSites, HasWidths}
use Rattle.bind_forms.specs.First.{Duplicates, StandsNowhere}

-- no thing of a module has the name of an earlier one of its sort
abbrev pub HasNoDouble : List Site → Type 0
HasNoDouble all = (at : ℕ) (name : List ℕ) → ¬ IsAgain all at name

-- A name has one range.
abbrev pub RangesAreOne : Type 0
RangesAreOne = (all : List Site) (name : List ℕ) (range other : Option (ℕ × ℕ)) → HasNoDouble all → HasRange all name range → HasRange all name other → range ≡ other

-- An expression has one width.
abbrev pub ExprWidthsAreOne : Type 0
ExprWidthsAreOne = (all : List Site) (expr : Expr) (width other : ℕ) → HasNoDouble all → ExprWidth all expr width → ExprWidth all expr other → width ≡ other

-- A kind has one list of ports.
abbrev pub PortsAreOne : Type 0
PortsAreOne = (setting : Setting) (kind : List ℕ) (names other : List (List ℕ)) → HasPorts setting kind names → HasPorts setting kind other → names ≡ other

-- What a reached module has an instance of is reached.
abbrev pub InnerAreReached : Type 0
InnerAreReached = (setting : Setting) (outer inner : ℕ) (all : List Site) (at : ℕ) (kind name : List ℕ) (links : Links) → HasReachedSites setting outer all → IsAt all at (InstanceSite kind name links) → MeansModule setting kind inner
    → IsReached setting inner

-- Where no name is given twice, the two sides of an assign or a link have one pair of widths.
abbrev pub WidthsAreOne : Type 0
WidthsAreOne = (setting : Setting) (at : ℕ) (all : List Site) (site have want other_have other_want : ℕ) → StandsNowhere setting Duplicates → HasReachedSites setting at all
    → HasWidths setting all site have want → HasWidths setting all site other_have other_want → (have ≡ other_have) × (want ≡ other_want)

-- each wire of a list has the range of its name
abbrev pub KnowsRanges : List Site → List BoundWire → Type 0
KnowsRanges all wires = (k : ℕ) (wire : BoundWire) → slice_get wires k ≡ Some wire → HasRange all wire.name wire.range
