-- Which fault is answered: the causes are looked for in one order, each over the whole text, and of one cause the first in text order counts.
use Rattle.std.specs.Prelude.{◌≡◌, ◌≢◌, ◌⊎◌, ℕ, List, [], ◌∷◌, ◌++◌}
use Rattle.std.specs.List.{All}
use Rattle.bind_sites.specs.Sites.{Site}
use Rattle.bind_sites.specs.Refused.{IsPortTwice, IsUnknownName, IsOutOfRange, IsTooWide}
use Rattle.bind_forms.specs.declared.fault.BindFault.{BindFault}
use Rattle.bind_forms.specs.declared.fault.BindFault.TheVariants as fault
use Rattle.bind_forms.specs.Modules.{Setting}
use Rattle.bind_forms.specs.Faults.{Place, IsBefore, HasReachedSites, IsDuplicate, HasNoTop, HasTwoTops, HasNoKind, IsRing, IsUnknownPort, HasTooMany, HasWidths}

-- the causes
pub data Line : Type 0 where
  Duplicates : Line
  Tops : Line
  Kinds : Line
  Rings : Line
  UnknownPorts : Line
  PortsTwice : Line
  TooManyLinks : Line
  UnknownNames : Line
  Ranges : Line
  Widths : Line
  WidthLimits : Line

-- the order in which they are looked for
abbrev pub lines : List Line
lines = Duplicates ∷ Tops ∷ Kinds ∷ Rings ∷ UnknownPorts ∷ PortsTwice ∷ TooManyLinks ∷ UnknownNames ∷ Ranges ∷ Widths ∷ WidthLimits ∷ []

-- a fact about the sites of a reached module
abbrev pub OfSites : Setting → ℕ → (List Site → Type 0) → Type 0
OfSites setting at Fact = (all : List Site) × HasReachedSites setting at all × Fact all

-- a cause stands at a place with this fault
abbrev pub StandsAt : Line → Setting → Place → BindFault → Type 0
StandsAt Duplicates setting place why = (name : List ℕ) × IsDuplicate setting place name × (why ≡ fault.DuplicateName name name)
StandsAt Tops setting place why = (HasNoTop setting setting.top × (why ≡ fault.NoTop)) ⊎ ((first second : List ℕ) × HasTwoTops setting place first second × (why ≡ fault.TwoTops first second))
StandsAt Kinds setting place why = (kind : List ℕ) × HasNoKind setting place kind × (why ≡ fault.NoSuchModule kind)
StandsAt Rings setting place why = (names : List (List ℕ)) × IsRing setting place names × (why ≡ fault.Recursive names)
StandsAt UnknownPorts setting place why = (name : List ℕ) × OfSites setting place.at (λ all. IsUnknownPort setting all place.site name) × (why ≡ fault.UnknownPort name)
StandsAt PortsTwice setting place why = (name : List ℕ) × OfSites setting place.at (λ all. IsPortTwice all place.site name) × (why ≡ fault.PortTwice name)
StandsAt TooManyLinks setting place why = (have want : ℕ) × OfSites setting place.at (λ all. HasTooMany setting all place.site have want) × (why ≡ fault.TooMany have want)
StandsAt UnknownNames setting place why = (name : List ℕ) × OfSites setting place.at (λ all. IsUnknownName all place.site name) × (why ≡ fault.NoSuchName name)
StandsAt Ranges setting place why = (name : List ℕ) × OfSites setting place.at (λ all. IsOutOfRange all place.site name) × (why ≡ fault.Range name)
StandsAt Widths setting place why = (have want : ℕ) × OfSites setting place.at (λ all. HasWidths setting all place.site have want) × (have ≢ want) × (why ≡ fault.Width have want)
StandsAt WidthLimits setting place why = (width : ℕ) × OfSites setting place.at (λ all. IsTooWide all place.site width) × (why ≡ fault.WidthLimit width)

-- a cause stands nowhere
abbrev pub StandsNowhere : Setting → Line → Type 0
StandsNowhere setting line = (place : Place) (why : BindFault) → ¬ StandsAt line setting place why

-- no cause stands anywhere
abbrev pub HasNoFault : Setting → Type 0
HasNoFault setting = All (StandsNowhere setting) lines

-- The fault that is answered: no earlier cause stands anywhere, and its own stands at no earlier place.
pub record IsFirstFault (setting : Setting) (why : BindFault) : Type 0 where
  pub earlier : List Line
  pub line : Line
  pub later : List Line
  pub order : lines ≡ earlier ++ line ∷ later
  pub none : All (StandsNowhere setting) earlier
  pub place : Place
  pub stands : StandsAt line setting place why
  pub first : (before : Place) (other : BindFault) → IsBefore before place → ¬ StandsAt line setting before other
