-- One name for two things of a module.
use Rattle.std.specs.Prelude.{◌≡◌, ℕ, ◌<◌, Bool, true, false, List, Option, Some, None}
use Rattle.bind_sites.specs.declared.sort.Sort.{Sort}
use Rattle.bind_sites.specs.declared.sort.Sort.TheVariants as sort
use Rattle.bind_sites.specs.Selects.{width_of, bit_name}
use Rattle.bind_sites.specs.Sites.{Site, Listed, Port, Wire, Instance, Linked}
use Rattle.bind_sites.specs.Scope.{IsAt, StandsBefore}

-- the name of a listed port, of a direction, of a declaration as a wire, of an instance, or that stands whole in a link
abbrev pub listed_name : Site → Option (List ℕ)
listed_name (Listed name) = Some name
listed_name _ = None

abbrev pub direction_name : Site → Option (List ℕ)
direction_name (Port name output range) = Some name
direction_name _ = None

abbrev pub wire_name : Site → Option (List ℕ)
wire_name (Wire name range) = Some name
wire_name _ = None

abbrev pub instance_name : Site → Option (List ℕ)
instance_name (Instance kind name links) = Some name
instance_name _ = None

abbrev pub whole_name : List ℕ → Option (ℕ × ℕ) → Option (List ℕ)
whole_name name None = Some name
whole_name name (Some select) = None

abbrev pub linked_name : Site → Option (List ℕ)
linked_name (Linked operand) = whole_name operand.name operand.select
linked_name _ = None

-- the name that a site gives to a thing of a sort
abbrev pub name_as : Sort → Site → Option (List ℕ)
name_as sort.Listed site = listed_name site
name_as sort.Direction site = direction_name site
name_as sort.Wire site = wire_name site
name_as sort.Instance site = instance_name site
name_as sort.Linked site = linked_name site

-- the site at a place gives the name to a thing of the sort
abbrev pub Gives : Sort → List Site → ℕ → List ℕ → Type 0
Gives by all at name = (site : Site) × IsAt all at site × (name_as by site ≡ Some name)

-- and so does an earlier one
abbrev pub IsAgainBy : Sort → List Site → ℕ → List ℕ → Type 0
IsAgainBy by all at name = Gives by all at name × ((earlier : ℕ) × (earlier < at) × Gives by all earlier name)

-- ports, directions, wires and instances have names of their own; a link may use a name again
abbrev pub is_own : Sort → Bool
is_own sort.Listed = true
is_own sort.Direction = true
is_own sort.Wire = true
is_own sort.Instance = true
is_own sort.Linked = false

-- a thing is given the name that an earlier one of its sort has
abbrev pub IsAgain : List Site → ℕ → List ℕ → Type 0
IsAgain all at name = (by : Sort) × (is_own by ≡ true) × IsAgainBy by all at name

-- the range of a port, by the first direction that it has
pub record HasFirstRange (all : List Site) (name : List ℕ) (range : Option (ℕ × ℕ)) : Type 0 where
  pub at : ℕ
  pub output : Bool
  pub there : IsAt all at (Port name output range)
  pub first : (way : Bool) (other : Option (ℕ × ℕ)) → ¬ StandsBefore all at (Port name way other)

-- a bit of a port that is listed before a place has this printed name
pub record IsPrintedBefore (all : List Site) (at : ℕ) (printed : List ℕ) : Type 0 where
  pub name : List ℕ
  pub range : Option (ℕ × ℕ)
  pub bit : ℕ
  pub listed : StandsBefore all at (Listed name)
  pub range_is : HasFirstRange all name range
  pub within : bit < width_of range
  pub printed_is : printed ≡ bit_name name range bit

-- The first bit of a listed port whose printed name a bit of a port that is listed before has too. Ports of one name are told apart above.
pub record IsBitAgain (all : List Site) (at : ℕ) (printed : List ℕ) : Type 0 where
  pub name : List ℕ
  pub range : Option (ℕ × ℕ)
  pub bit : ℕ
  pub listed : IsAt all at (Listed name)
  pub alone : ¬ StandsBefore all at (Listed name)
  pub range_is : HasFirstRange all name range
  pub within : bit < width_of range
  pub printed_is : printed ≡ bit_name name range bit
  pub before : IsPrintedBefore all at printed
  pub first : (earlier : ℕ) → earlier < bit → ¬ IsPrintedBefore all at (bit_name name range earlier)
