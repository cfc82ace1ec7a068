-- Bound modules and the modules that they come from, and what holds where no cause of a fault stands.
use Rattle.std.proofs.Common.{◌≡◌, ◌≢◌, ◌<◌, ◌⊎◌, inl, inr, ℕ, List, Some, refl, arith}
use Rattle.std.specs.Prelude.{slice_get}
use Rattle.std.proofs.lemmas.Bool.{cases_order}
use Rattle.bind_sites.specs.Sites.{Site, sites}
use Rattle.bind_sites.specs.Refused.{IsPortTwice, IsTooWide}
use Rattle.bind_sites.specs.Again.{IsAgain, IsBitAgain}
use Rattle.bind_forms.specs.declared.bound.BoundModule.{BoundModule}
use Rattle.bind_forms.specs.declared.bound.Bound.{Bound}
use Rattle.bind_forms.specs.declared.fault.BindFault.TheVariants as fault
use Rattle.bind_forms.specs.Modules.{Setting, IsTop}
use Rattle.bind_forms.specs.Binds.{Binds, BindsModuleAt}
use Rattle.bind_forms.specs.Faults.{HasSites, HasReachedSites, Within, OfBits, HasTooMany, HasWidths}
use Rattle.bind_forms.specs.First.{Duplicates, PortsTwice, TooManyLinks, Widths, WidthLimits, StandsNowhere, HasNoFault}
use Rattle.bind_laws.proofs.Lists.{zip_left, zip_right, got_contains}

-- ---- the module that a bound module comes from

pub source_of : (setting : Setting) (bound : Bound) (binds : Binds setting bound) (k : ℕ) (owner : BoundModule) → slice_get bound.modules k ≡ Some owner
    → (at : ℕ) × (slice_get binds.places k ≡ Some at) × BindsModuleAt setting binds.places at owner
source_of setting bound binds k owner e = zip_right (BindsModuleAt setting binds.places) binds.places bound.modules k owner binds.modules e

pub bound_at : (setting : Setting) (bound : Bound) (binds : Binds setting bound) (k at : ℕ) → slice_get binds.places k ≡ Some at
    → (owner : BoundModule) × (slice_get bound.modules k ≡ Some owner) × BindsModuleAt setting binds.places at owner
bound_at setting bound binds k at e = zip_left (BindsModuleAt setting binds.places) binds.places bound.modules k at binds.modules e

pub has_sites : (setting : Setting) (places : List ℕ) (at : ℕ) (owner : BoundModule) → (m : BindsModuleAt setting places at owner) → HasSites setting at (sites m.owner)
has_sites setting places at owner m = record { owner = m.owner; there = m.there; sites_are = refl }

pub reached_sites : (setting : Setting) (bound : Bound) (binds : Binds setting bound) (k at : ℕ) (owner : BoundModule) → slice_get binds.places k ≡ Some at → (m : BindsModuleAt setting binds.places at owner)
    → HasReachedSites setting at (sites m.owner)
reached_sites setting bound binds k at owner e m = record { reached = (binds.reached at).0 (got_contains binds.places k at e); has = has_sites setting binds.places at owner m }

-- ---- no cause of a fault

no_duplicates : (setting : Setting) → HasNoFault setting → StandsNowhere setting Duplicates
no_duplicates setting none = none 0 Duplicates (omega arith)

no_ports_twice : (setting : Setting) → HasNoFault setting → StandsNowhere setting PortsTwice
no_ports_twice setting none = none 5 Duplicates (omega arith)

no_too_many : (setting : Setting) → HasNoFault setting → StandsNowhere setting TooManyLinks
no_too_many setting none = none 6 Duplicates (omega arith)

no_widths : (setting : Setting) → HasNoFault setting → StandsNowhere setting Widths
no_widths setting none = none 9 Duplicates (omega arith)

no_width_limits : (setting : Setting) → HasNoFault setting → StandsNowhere setting WidthLimits
no_width_limits setting none = none 10 Duplicates (omega arith)

pub not_again : (setting : Setting) → HasNoFault setting → (at : ℕ) (all : List Site) → HasReachedSites setting at all → (site : ℕ) (name : List ℕ) → ¬ IsAgain all site name
not_again setting none at all reached site name again =
    no_duplicates setting none (record { at = at; site = site }) (fault.DuplicateName name name) (name, Within all reached again, refl)

pub not_bit_again : (setting : Setting) → HasNoFault setting → (at : ℕ) (all : List Site) → IsTop setting at → HasSites setting at all → (site : ℕ) (name : List ℕ) → ¬ IsBitAgain all site name
not_bit_again setting none at all top has site name again =
    no_duplicates setting none (record { at = at; site = site }) (fault.DuplicateName name name) (name, OfBits all top has again, refl)

pub not_twice : (setting : Setting) → HasNoFault setting → (at : ℕ) (all : List Site) → HasReachedSites setting at all → (site : ℕ) (name : List ℕ) → ¬ IsPortTwice all site name
not_twice setting none at all reached site name twice =
    no_ports_twice setting none (record { at = at; site = site }) (fault.PortTwice name) (name, (all, reached, twice), refl)

pub not_too_many : (setting : Setting) → HasNoFault setting → (at : ℕ) (all : List Site) → HasReachedSites setting at all → (site have want : ℕ) → ¬ HasTooMany setting all site have want
not_too_many setting none at all reached site have want many =
    no_too_many setting none (record { at = at; site = site }) (fault.TooMany have want) (have, want, (all, reached, many), refl)

pub not_too_wide : (setting : Setting) → HasNoFault setting → (at : ℕ) (all : List Site) → HasReachedSites setting at all → (site width : ℕ) → ¬ IsTooWide all site width
not_too_wide setting none at all reached site width wide =
    no_width_limits setting none (record { at = at; site = site }) (fault.WidthLimit width) (width, (all, reached, wide), refl)

pub same_width : (setting : Setting) → HasNoFault setting → (at : ℕ) (all : List Site) → HasReachedSites setting at all → (site have want : ℕ) → HasWidths setting all site have want → have ≡ want
same_width setting none at all reached site have want has = elim (cases_order have want) [
  | inl same ↦ same
  | inr other ↦ absurd (no_widths setting none (record { at = at; site = site }) (fault.Width have want) (have, want, (all, reached, has), apart other, refl))
] where
  apart : (have < want) ⊎ (want < have) → have ≢ want
  apart (inl l) e = omega arith
  apart (inr l) e = omega arith

-- the first place of something is one place
pub first_one : (P : ℕ → Type 0) (a b : ℕ) → P a → ((earlier : ℕ) → earlier < a → ¬ P earlier) → P b → ((earlier : ℕ) → earlier < b → ¬ P earlier) → a ≡ b
first_one P a b here first there least = elim (cases_order a b) [
  | inl same ↦ same
  | inr other ↦ elim other [ inl l ↦ absurd (least a l here) | inr l ↦ absurd (first b l there) ]
]
