-- Where names are listed, or given a direction, first.
use Rattle.std.specs.Prelude.{◌≡◌, ◌≢◌, ℕ, ◌<◌, ◌^◌, List, map, length, slice_get, Option, Some, None}
use Rattle.name_table.specs.declared.places.FirstNames.{FirstNames}
use Rattle.name_table.specs.Places.{place_of, Sees, Keeps}
use Rattle.bind_sites.specs.Sites.{Site, Module, Listed, Port, Wire, Assign, Instance, Named, Ordered, Assigned, Linked}
use Rattle.bind_names.specs.declared.ports.Ports.{Ports}

-- the name that a site lists
abbrev pub listed_name : Site → Option (List ℕ)
listed_name (Module name) = None
listed_name (Listed name) = Some name
listed_name (Port name output range) = None
listed_name (Wire name range) = None
listed_name (Assign to from) = None
listed_name (Instance kind name links) = None
listed_name (Named kind name expr) = None
listed_name (Ordered kind place expr) = None
listed_name (Assigned operand) = None
listed_name (Linked operand) = None

-- the name that a site gives a direction
abbrev pub directed_name : Site → Option (List ℕ)
directed_name (Module name) = None
directed_name (Listed name) = None
directed_name (Port name output range) = Some name
directed_name (Wire name range) = None
directed_name (Assign to from) = None
directed_name (Instance kind name links) = None
directed_name (Named kind name expr) = None
directed_name (Ordered kind place expr) = None
directed_name (Assigned operand) = None
directed_name (Linked operand) = None

-- the ends of a range fit 32 bits
abbrev pub FitsRange : Option (ℕ × ℕ) → Type 0
FitsRange None = Unit {0}
FitsRange (Some range) = (range.0 < 2 ^ 32) × (range.1 < 2 ^ 32)

-- the range that a site gives with a direction fits 32 bits
abbrev pub FitsSite : Site → Type 0
FitsSite (Module name) = Unit {0}
FitsSite (Listed name) = Unit {0}
FitsSite (Port name output range) = FitsRange range
FitsSite (Wire name range) = Unit {0}
FitsSite (Assign to from) = Unit {0}
FitsSite (Instance kind name links) = Unit {0}
FitsSite (Named kind name expr) = Unit {0}
FitsSite (Ordered kind place expr) = Unit {0}
FitsSite (Assigned operand) = Unit {0}
FitsSite (Linked operand) = Unit {0}

-- each range among the sites before a place fits 32 bits
abbrev pub FitSites : List Site → ℕ → Type 0
FitSites all upto = (at : ℕ) → at < upto → (site : Site) → slice_get all at ≡ Some site → FitsSite site

-- the first place before a limit at which a name stands, if there is one
abbrev pub IsFirstPlace : List (Option (List ℕ)) → ℕ → List ℕ → Option ℕ → Type 0
IsFirstPlace named upto name None = (at : ℕ) → at < upto → slice_get named at ≢ Some (Some name)
IsFirstPlace named upto name (Some place) = (place < upto) × (slice_get named place ≡ Some (Some name)) × ((at : ℕ) → at < place → slice_get named at ≢ Some (Some name))

-- names hold the first place of each name that stands before a limit
abbrev pub HoldsFirst : List (Option (List ℕ)) → ℕ → FirstNames → Type 0
HoldsFirst named upto names = (name : List ℕ) → IsFirstPlace named upto name (place_of names name)

-- the ports of a list of sites, by their names
pub record IsIndexOf (all : List Site) (upto : ℕ) (listed directed : FirstNames) : Type 0 where
  pub listed_first : HoldsFirst (map listed_name all) upto listed
  pub directed_first : HoldsFirst (map directed_name all) upto directed
  pub fit : FitSites all upto

abbrev pub Indexes : Ports → List Site → Type 0
Indexes ports all = IsIndexOf all (length all) ports.listed ports.directed

-- a name, where there is one, is seen at a place
abbrev pub SeesAny : FirstNames → FirstNames → Option (List ℕ) → ℕ → Type 0
SeesAny old new None place = Keeps old new
SeesAny old new (Some name) place = Sees old new name place
