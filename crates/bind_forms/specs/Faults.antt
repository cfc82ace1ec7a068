-- When a source cannot be bound: one predicate for each cause, over the site where it stands. The causes that need no other module stand in
-- bind_sites: Refused.antt and Again.antt.
use Rattle.std.specs.Prelude.{◌≡◌, ◌≢◌, ◌⊎◌, ℕ, Bool, ◌<◌, List, ◌∷◌, length, slice_get, Option, Some, None}
use Rattle.std.specs.List.{All, AllPairs, AllZip, Contains}
use Rattle.verilog_tree.specs.Trees.{Module, Expr, Links, Ordered as OrderedLinks}
use Rattle.bind_sites.specs.Sites.{Site, Listed, Port, Assign, Instance, Named, Ordered, sites}
use Rattle.bind_sites.specs.Selects.{width_of}
use Rattle.bind_sites.specs.Again.{IsAgain, IsBitAgain}
use Rattle.bind_sites.specs.Scope.{IsAt, Stands, IsPort, HasDirection, ExprWidth}
use Rattle.bind_hierarchy.specs.Modules.{IsChain}
use Rattle.bind_forms.specs.Modules.{Setting, IsModuleNamed, IsCellNamed, MeansModule, MeansCell, IsFree, IsTop, IsReached, HasPorts}

-- A place in the text: a site of a module, both counted from 0.
pub record Place : Type 0 where
  pub at : ℕ
  pub site : ℕ

-- one place stands before another
abbrev pub IsBefore : Place → Place → Type 0
IsBefore one other = (one.at < other.at) ⊎ ((one.at ≡ other.at) × (one.site < other.site))

-- the sites of the module at a place of the text
pub record HasSites (setting : Setting) (at : ℕ) (all : List Site) : Type 0 where
  pub owner : Module
  pub there : slice_get setting.modules at ≡ Some owner
  pub sites_are : all ≡ sites owner

-- the sites of a module that the top reaches
pub record HasReachedSites (setting : Setting) (at : ℕ) (all : List Site) : Type 0 where
  pub reached : IsReached setting at
  pub has : HasSites setting at all

-- ---- one name for two things

-- Two modules of one name, a module and a cell of one name, two things of one sort and name within a reached module, or two bits of the top's ports of one printed name.
pub data IsDuplicate (setting : Setting) (place : Place) (name : List ℕ) : Type 0 where
  OfModules : place.site ≡ 0 → IsModuleNamed setting place.at name → (earlier : ℕ) → earlier < place.at → IsModuleNamed setting earlier name → IsDuplicate setting place name
  OfCell : place.site ≡ 0 → IsModuleNamed setting place.at name → (row : ℕ) → IsCellNamed setting row name → IsDuplicate setting place name
  Within : (all : List Site) → HasReachedSites setting place.at all → IsAgain all place.site name → IsDuplicate setting place name
  OfBits : (all : List Site) → IsTop setting place.at → HasSites setting place.at all → IsBitAgain all place.site name → IsDuplicate setting place name

-- ---- the top

-- the name of the top is no module's; without one, each module is instantiated
abbrev pub HasNoTop : Setting → Option (List ℕ) → Type 0
HasNoTop setting (Some name) = (at : ℕ) → ¬ IsModuleNamed setting at name
HasNoTop setting None = (at : ℕ) → ¬ IsFree setting at

-- without a name for the top: a module that is instantiated by none, and an earlier one
pub record HasTwoTops (setting : Setting) (place : Place) (first second : List ℕ) : Type 0 where
  pub unnamed : setting.top ≡ None
  pub head : place.site ≡ 0
  pub second_is : IsModuleNamed setting place.at second
  pub free : IsFree setting place.at
  pub earlier : ℕ
  pub before : earlier < place.at
  pub first_is : IsModuleNamed setting earlier first
  pub free_too : IsFree setting earlier

-- ---- kinds

-- a name is that of a module or of a cell
abbrev pub IsKind : Setting → List ℕ → Type 0
IsKind setting name = ((at : ℕ) × IsModuleNamed setting at name) ⊎ ((row : ℕ) × IsCellNamed setting row name)

pub record HasNoKind (setting : Setting) (place : Place) (kind : List ℕ) : Type 0 where
  pub all : List Site
  pub sites_are : HasReachedSites setting place.at all
  pub name : List ℕ
  pub links : Links
  pub there : IsAt all place.site (Instance kind name links)
  pub none : ¬ IsKind setting kind

-- Reached modules that instantiate each other in a ring, from the first in text order on, by their places and their names.
pub record IsRing (setting : Setting) (place : Place) (names : List (List ℕ)) : Type 0 where
  pub head : place.site ≡ 0
  pub reached : IsReached setting place.at
  pub others : List ℕ
  pub later : All (λ at. place.at < at) others
  pub once : AllPairs (λ one other. one ≢ other) others
  pub chain : IsChain setting.modules place.at (place.at ∷ others)
  pub names_are : AllZip (IsModuleNamed setting) (place.at ∷ others) names

-- ---- ports

-- a listed port without a direction, a direction without a listed port, or a link by name without such a port
pub data IsUnknownPort (setting : Setting) (all : List Site) (at : ℕ) (name : List ℕ) : Type 0 where
  NoDirection : IsAt all at (Listed name) → ¬ HasDirection all name → IsUnknownPort setting all at name
  NoListing : (output : Bool) (range : Option (ℕ × ℕ)) → IsAt all at (Port name output range) → ¬ Stands all (Listed name) → IsUnknownPort setting all at name
  NoPort : (kind : List ℕ) (expr : Option Expr) (names : List (List ℕ)) → IsAt all at (Named kind name expr) → HasPorts setting kind names → ¬ Contains names name → IsUnknownPort setting all at name

-- more links by order than the kind has ports
pub record HasTooMany (setting : Setting) (all : List Site) (at have want : ℕ) : Type 0 where
  pub kind : List ℕ
  pub name : List ℕ
  pub links : List (Option Expr)
  pub names : List (List ℕ)
  pub there : IsAt all at (Instance kind name (OrderedLinks links))
  pub ports : HasPorts setting kind names
  pub have_is : have ≡ length links
  pub want_is : want ≡ length names
  pub more : want < have

-- ---- names and widths

-- the width of a port of a kind, by its name: a cell's pin is one bit wide
pub data PortWidth (setting : Setting) (kind name : List ℕ) (width : ℕ) : Type 0 where
  OfModulePort : (at : ℕ) (all : List Site) (output : Bool) (range : Option (ℕ × ℕ)) → MeansModule setting kind at → HasSites setting at all → IsPort all name output range → width ≡ width_of range
      → PortWidth setting kind name width
  OfPin : (row : ℕ) → MeansCell setting kind row → width ≡ 1 → PortWidth setting kind name width

-- the two sides of an assign, or of a link, and their widths
pub data HasWidths (setting : Setting) (all : List Site) (at have want : ℕ) : Type 0 where
  OfAssign : (to from : Expr) → IsAt all at (Assign to from) → ExprWidth all from have → ExprWidth all to want → HasWidths setting all at have want
  OfNamed : (kind name : List ℕ) (expr : Expr) → IsAt all at (Named kind name (Some expr)) → ExprWidth all expr have → PortWidth setting kind name want → HasWidths setting all at have want
  OfOrdered : (kind : List ℕ) (place : ℕ) (expr : Expr) (names : List (List ℕ)) (name : List ℕ) → IsAt all at (Ordered kind place (Some expr)) → ExprWidth all expr have
      → HasPorts setting kind names → slice_get names place ≡ Some name → PortWidth setting kind name want → HasWidths setting all at have want
