-- The causes that stand at sites of reached modules, each looked for module by module.
use Rattle.std.specs.Prelude.{◌≡◌, ◌≢◌, ℕ, ◌<◌, Bool, true, false, ◌↔◌, List, length, slice_index_or, Option, Some, None, Result}
use Rattle.verilog_tree.specs.Trees.{Links}
use Rattle.bind_sites.specs.Sites.{Site, Instance}
use Rattle.bind_sites.specs.Scope.{IsAt}
use Rattle.bind_sites.specs.Refused.{IsPortTwice, IsUnknownName, IsOutOfRange, IsTooWide}
use Rattle.bind_forms.specs.declared.fault.BindFault.{BindFault}
use Rattle.bind_forms.specs.declared.fault.BindFault.TheVariants as fault
use Rattle.bind_forms.specs.Modules.{Setting, IsReached}
use Rattle.bind_forms.specs.Faults.{IsKind, IsUnknownPort, HasTooMany, HasWidths}
use Rattle.bind_forms.specs.First as line
use Rattle.bind_faults.specs.declared.check.Check.{Check}
use Rattle.bind_faults.specs.declared.check.Check.TheVariants.{PortsTwice, EachSite}
use Rattle.bind_faults.specs.declared.check.SiteCheck.{SiteCheck}
use Rattle.bind_faults.specs.declared.check.SiteCheck.TheVariants as site
use Rattle.bind_faults.specs.Order.{Answers}

-- which cause a check looks for
abbrev pub site_line : SiteCheck → line.Line
site_line site.Kinds = line.Kinds
site_line site.UnknownPorts = line.UnknownPorts
site_line site.TooManyLinks = line.TooManyLinks
site_line site.UnknownNames = line.UnknownNames
site_line site.Ranges = line.Ranges
site_line site.Widths = line.Widths
site_line site.WidthLimits = line.WidthLimits

abbrev pub line_of : Check → line.Line
line_of PortsTwice = line.PortsTwice
line_of (EachSite check) = site_line check

-- the kind of an instance
abbrev pub kind_of : Site → Option (List ℕ)
kind_of (Instance kind name links) = Some kind
kind_of _ = None

-- an instance of a kind that is neither a module nor a cell
abbrev pub IsUnknownKind : Setting → List Site → ℕ → List ℕ → Type 0
IsUnknownKind setting all at kind = (name : List ℕ) × (links : Links) × IsAt all at (Instance kind name links) × (¬ IsKind setting kind)

-- the cause stands at a site of a module, with this fault
abbrev pub StandsAtSite : SiteCheck → Setting → List Site → ℕ → BindFault → Type 0
StandsAtSite site.Kinds setting all at why = (kind : List ℕ) × IsUnknownKind setting all at kind × (why ≡ fault.NoSuchModule kind)
StandsAtSite site.UnknownPorts setting all at why = (name : List ℕ) × IsUnknownPort setting all at name × (why ≡ fault.UnknownPort name)
StandsAtSite site.TooManyLinks setting all at why = (have want : ℕ) × HasTooMany setting all at have want × (why ≡ fault.TooMany have want)
StandsAtSite site.UnknownNames setting all at why = (name : List ℕ) × IsUnknownName all at name × (why ≡ fault.NoSuchName name)
StandsAtSite site.Ranges setting all at why = (name : List ℕ) × IsOutOfRange all at name × (why ≡ fault.Range name)
StandsAtSite site.Widths setting all at why = (have want : ℕ) × HasWidths setting all at have want × (have ≢ want) × (why ≡ fault.Width have want)
StandsAtSite site.WidthLimits setting all at why = (width : ℕ) × IsTooWide all at width × (why ≡ fault.WidthLimit width)

abbrev pub StandsIn : Check → Setting → List Site → ℕ → BindFault → Type 0
StandsIn PortsTwice setting all at why = (name : List ℕ) × IsPortTwice all at name × (why ≡ fault.PortTwice name)
StandsIn (EachSite check) setting all at why = StandsAtSite check setting all at why

-- the answer at one site
abbrev pub AnswersAt : SiteCheck → Setting → List Site → ℕ → Result (Unit {0}) BindFault → Type 0
AnswersAt check setting all at result = Answers result ((why : BindFault) → ¬ StandsAtSite check setting all at why) (StandsAtSite check setting all at)

-- it stands nowhere before a limit
abbrev pub HasNoneBefore : Check → Setting → List Site → ℕ → Type 0
HasNoneBefore check setting all limit = (at : ℕ) (why : BindFault) → at < limit → ¬ StandsIn check setting all at why

-- a site of a module at which it stands with this fault, and none before it
pub record IsFirstIn (check : Check) (setting : Setting) (all : List Site) (why : BindFault) : Type 0 where
  pub at : ℕ
  pub stands : StandsIn check setting all at why
  pub first : HasNoneBefore check setting all at

-- the answer for one module
abbrev pub AnswersIn : Check → Setting → List Site → Result (Unit {0}) BindFault → Type 0
AnswersIn check setting all result = Answers result ((at : ℕ) (why : BindFault) → ¬ StandsIn check setting all at why) (IsFirstIn check setting all)

-- flags of the modules of a text: which of them the top reaches
pub record AreReached (setting : Setting) (flags : List Bool) : Type 0 where
  pub count : length flags ≡ length setting.modules
  pub each : (at : ℕ) → (slice_index_or flags at false ≡ true) ↔ IsReached setting at
