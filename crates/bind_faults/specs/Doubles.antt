-- Names that are given twice, by where they stand.
use Rattle.std.specs.Prelude.{◌≡◌, ℕ, ◌+◌, ◌<◌, ◌==◌, nat_lt, Bool, ◌&&◌, ◌||◌, if◌then◌else◌, List, Option, Some, None, MatchOption}
use Rattle.std.specs.Option.{option_map}
use Rattle.bind_sites.specs.Sites.{Site}
use Rattle.bind_sites.specs.Again.{IsAgain, IsBitAgain}
use Rattle.bind_names.specs.declared.scope.Scope.{Scope}
use Rattle.bind_names.specs.Scoped.{HasNoDouble, IsFirstDouble}
use Rattle.bind_forms.specs.Modules.{Setting, IsModuleNamed, IsCellNamed}
use Rattle.bind_forms.specs.Faults.{Place, IsBefore, HasSites, HasReachedSites}
use Rattle.bind_faults.specs.declared.doubles.Double.{Double}

-- where a name stands
abbrev pub place_of : Double → Place
place_of double = record { at = double.at; site = double.site }

-- the first place at which a name of some kind stands, with the name; none where there is no such place
abbrev pub IsFirstOf : (Place → List ℕ → Type 0) → Option Double → Type 0
IsFirstOf P found = MatchOption found
    ((place : Place) (name : List ℕ) → ¬ P place name)
    (λ double. P (place_of double) double.name × ((before : Place) (name : List ℕ) → IsBefore before (place_of double) → ¬ P before name))

-- two modules of one name, or a module and a cell
pub data IsKindTwice (setting : Setting) (place : Place) (name : List ℕ) : Type 0 where
  OfModules : place.site ≡ 0 → IsModuleNamed setting place.at name → (earlier : ℕ) → earlier < place.at → IsModuleNamed setting earlier name → IsKindTwice setting place name
  OfCell : place.site ≡ 0 → IsModuleNamed setting place.at name → (row : ℕ) → IsCellNamed setting row name → IsKindTwice setting place name

-- two things of one sort and name in a reached module
abbrev pub IsWithin : Setting → Place → List ℕ → Type 0
IsWithin setting place name = (all : List Site) × HasReachedSites setting place.at all × IsAgain all place.site name

-- two bits of the ports of a module have one printed name, and nothing up to the later one is given twice
abbrev pub IsTopBit : Setting → ℕ → Place → List ℕ → Type 0
IsTopBit setting top place name = (place.at ≡ top) × ((all : List Site) × HasSites setting top all × IsBitAgain all place.site name × HasNoDouble all (place.site + 1))

-- the first name in a list of sites that is given twice, as a scope tells it
abbrev pub TellsDouble : List Site → Scope → Type 0
TellsDouble all scope = IsFirstDouble all (option_map (λ (at, name). (at, name.now)) scope.double)

-- where the name that a module gives twice first stands again; none where the module is not reached or has no such name
abbrev pub IsDoubleAt : Setting → ℕ → Option (ℕ × List ℕ) → Type 0
IsDoubleAt setting at double = MatchOption double
    ((site : ℕ) (name : List ℕ) → ¬ IsWithin setting (record { at = at; site = site }) name)
    (λ (site, name). IsWithin setting (record { at = at; site = site }) name × ((before : ℕ) (other : List ℕ) → before < site → ¬ IsWithin setting (record { at = at; site = before }) other))

-- the one of two that stands first
abbrev pub is_before : Double → Double → Bool
is_before one other = nat_lt one.at other.at || (one.at == other.at && nat_lt one.site other.site)

abbrev pub first_of : Option Double → Option Double → Option Double
first_of None other = other
first_of (Some one) None = Some one
first_of (Some one) (Some other) = Some (if is_before other one then other else one)
