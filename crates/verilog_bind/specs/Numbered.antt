-- The wires of a module with their numbers, as the code holds them.
use Rattle.std.specs.Prelude.{◌≡◌, ◌≢◌, ◌⊎◌, ℕ, ◌<◌, ◌^◌, List, [], ◌∷◌, ◌++◌, map, length, take, slice_get, Some, None, MatchOption}
use Rattle.std.specs.List.{All, AllZip, AllPairs, Contains, filter_map}
use Rattle.name_table.specs.declared.places.FirstNames.{FirstNames}
use Rattle.name_table.specs.Places.{place_of, Sees}
use Rattle.bind_forms.specs.declared.bound.BoundWire.{BoundWire}
use Rattle.bind_forms.specs.WellFormed.{port_wire}
use Rattle.bind_forms.specs.Binds.{BindsPort, MakesWire, AreOthers}
use Rattle.bind_sites.specs.Sites.{Site}
use Rattle.bind_sites.specs.Again.{listed_name}
use Rattle.bind_sites.specs.Scope.{HasDirection, IsKnown, HasRange}
use Rattle.bind_sites.specs.View.{view_site}
use Rattle.verilog_bind.specs.declared.wires.Wires.{Wires}

-- the sites of the module
abbrev pub sites_in : Wires → List Site
sites_in wires = map view_site wires.sites.now

-- a number is that of the wire of a name, which has the name's range
pub record IsNumberOf (all : List Site) (list : List BoundWire) (name : List ℕ) (number : ℕ) : Type 0 where
  pub wire : BoundWire
  pub there : slice_get list number ≡ Some wire
  pub name_is : wire.name ≡ name
  pub range : HasRange all name wire.range

-- The ports and the wires of a module. Each name that is known has the number of its wire, and no other name has one.
pub record AreWires (all : List Site) (wires : Wires) : Type 0 where
  pub ports : AllZip (BindsPort all) (filter_map listed_name all) wires.ports
  pub others : List BoundWire
  pub list : wires.list ≡ map port_wire wires.ports ++ others
  pub others_are : AreOthers all others
  pub numbers : (name : List ℕ) → MatchOption (place_of wires.numbers name) (¬ IsKnown all name) (IsNumberOf all wires.list name)
  pub count : length wires.list < 2 ^ 32

abbrev pub IsWires : Wires → Type 0
IsWires wires = AreWires (sites_in wires) wires

-- ---- while the wires are numbered

-- each name stands with the number of a wire that has it, and those of no wire do not stand
abbrev pub AreNumbered : List BoundWire → FirstNames → Type 0
AreNumbered list numbers = (name : List ℕ) → MatchOption (place_of numbers name) ((number : ℕ) (wire : BoundWire) → slice_get list number ≡ Some wire → wire.name ≢ name)
    (λ number. (wire : BoundWire) × (slice_get list number ≡ Some wire) × (wire.name ≡ name))

-- a site before a place makes a wire of a name
pub record IsMadeBefore (all : List Site) (limit : ℕ) (name : List ℕ) : Type 0 where
  pub at : ℕ
  pub below : at < limit
  pub wire : BoundWire
  pub makes : MakesWire all at wire
  pub name_is : wire.name ≡ name

-- the names of ports and of the wires that are made before a place: of the latter all, and no other names
abbrev pub AreMadeNames : List Site → ℕ → FirstNames → Type 0
AreMadeNames all limit names = (name : List ℕ) → MatchOption (place_of names name) (¬ IsMadeBefore all limit name) (λ number. HasDirection all name ⊎ IsMadeBefore all limit name)

-- a wire was added at the end
pub record Puts (old new : Wires) (wire : BoundWire) : Type 0 where
  pub list : new.list ≡ old.list ++ wire ∷ []
  pub seen : Sees old.numbers new.numbers wire.name (length old.list)
  pub count : length new.list < 2 ^ 32

-- nothing was added
pub record IsStarted (wires : Wires) : Type 0 where
  pub ports : wires.ports ≡ []
  pub list : wires.list ≡ []
  pub numbers : (name : List ℕ) → place_of wires.numbers name ≡ None

-- the ports that are listed before a place were added
pub record HasPortsTo (all : List Site) (limit : ℕ) (wires : Wires) : Type 0 where
  pub ports : AllZip (BindsPort all) (filter_map listed_name (take limit all)) wires.ports
  pub list : wires.list ≡ map port_wire wires.ports
  pub numbers : AreNumbered wires.list wires.numbers
  pub count : length wires.list < 2 ^ 32

-- the wires that are no ports and are made before a place
pub record AreOthersTo (all : List Site) (limit : ℕ) (wires : List BoundWire) : Type 0 where
  pub places : List ℕ
  pub rising : AllPairs (λ one other. one < other) places
  pub below : All (λ at. at < limit) places
  pub each : AllZip (MakesWire all) places wires
  pub each_is : (at : ℕ) (wire : BoundWire) → at < limit → MakesWire all at wire → Contains places at

-- all ports, and the other wires that are made before a place, were added
pub record HasOthersTo (all : List Site) (limit : ℕ) (wires : Wires) : Type 0 where
  pub ports : AllZip (BindsPort all) (filter_map listed_name all) wires.ports
  pub others : List BoundWire
  pub list : wires.list ≡ map port_wire wires.ports ++ others
  pub others_are : AreOthersTo all limit others
  pub numbers : AreNumbered wires.list wires.numbers
  pub count : length wires.list < 2 ^ 32
