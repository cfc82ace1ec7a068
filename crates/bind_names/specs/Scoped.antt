-- The names of a module, as the code holds them.
use Rattle.std.specs.Prelude.{◌≡◌, ℕ, ◌<◌, nat_le, if◌then◌else◌, List, map, length, Option, Some, None, MatchOption}
use Rattle.bind_sites.specs.declared.sort.Sort.TheVariants as sort
use Rattle.bind_sites.specs.Sites.{Site, Port, Wire}
use Rattle.bind_sites.specs.Scope.{IsAt, HasDirection, HasDeclaration, IsLinked, HasRange}
use Rattle.bind_sites.specs.Again.{IsAgain}
use Rattle.bind_sites.specs.View.{view_site}
use Rattle.bind_names.specs.declared.scope.Scope.{Scope}
use Rattle.bind_names.specs.Indexed.{AreFirst}

-- the sites of the module
abbrev pub sites_of : Scope → List Site
sites_of scope = map view_site scope.sites.now

-- Each name stands with its first place as a listed port, a direction, a wire and a whole name in a link.
pub record IsScope (scope : Scope) : Type 0 where
  pub listed : AreFirst sort.Listed (sites_of scope) (length (sites_of scope)) scope.listed
  pub directions : AreFirst sort.Direction (sites_of scope) (length (sites_of scope)) scope.directions
  pub wires : AreFirst sort.Wire (sites_of scope) (length (sites_of scope)) scope.wires
  pub linked : AreFirst sort.Linked (sites_of scope) (length (sites_of scope)) scope.linked

-- no thing is given a name before a limit that an earlier one of its sort has
abbrev pub HasNoDouble : List Site → ℕ → Type 0
HasNoDouble all limit = (at : ℕ) (name : List ℕ) → at < limit → ¬ IsAgain all at name

-- where no thing is given a name that an earlier one of its sort has, a name has one range
abbrev pub RangesAreOne : Type 0
RangesAreOne = (all : List Site) (name : List ℕ) (one other : Option (ℕ × ℕ)) → HasNoDouble all (length all) → HasRange all name one → HasRange all name other → one ≡ other

-- The first place that gives a thing a name that an earlier one of its sort has, with the name; none where there is no such place.
abbrev pub IsFirstDouble : List Site → Option (ℕ × List ℕ) → Type 0
IsFirstDouble all double = MatchOption double (HasNoDouble all (length all)) (λ (at, name). (at < length all) × IsAgain all at name × HasNoDouble all at)

-- a name that links alone make: it has no direction, is not declared as a wire, and stands whole in a link
pub record IsMadeByLinks (all : List Site) (name : List ℕ) : Type 0 where
  pub undirected : ¬ HasDirection all name
  pub undeclared : ¬ HasDeclaration all name
  pub link : IsLinked all name

-- the range that a site declares
abbrev pub declared_range : Site → Option (ℕ × ℕ)
declared_range (Port name output range) = range
declared_range (Wire name range) = range
declared_range _ = None

-- the site at a place declares this range
abbrev pub Declares : List Site → ℕ → Option (ℕ × ℕ) → Type 0
Declares all at range = (site : Site) → IsAt all at site → range ≡ declared_range site

-- the one of two places that comes first
abbrev pub earlier : {A : Type 0} → Option (ℕ × A) → Option (ℕ × A) → Option (ℕ × A)
earlier None other = other
earlier (Some one) None = Some one
earlier (Some one) (Some other) = if nat_le one.0 other.0 then Some one else Some other
