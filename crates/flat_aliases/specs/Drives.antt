-- What drives which place, and which places stand in a ring.
use Rattle.std.specs.Prelude.{◌≡◌, ◌≢◌, ◌⊎◌, ℕ, ◌<◌, ◌≤◌, List, [], ◌∷◌, length, slice_get, Option, Some}
use Rattle.std.specs.List.{All, AllPairs}
use Rattle.flat_aliases.specs.declared.link.Link.{Link}
use Rattle.flat_aliases.specs.declared.link.AliasFault.{AliasFault}
use Rattle.flat_aliases.specs.declared.link.AliasFault.TheVariants.{TwoDrivers, Ring, Memory}

-- a link leads from one place to another
abbrev pub Leads : List Link → ℕ → ℕ → Type 0
Leads links from to = (at : ℕ) × (slice_get links at ≡ Some (record { from = from; to = to }))

-- A driver drives the place where it starts, if it starts at one, and each place that a link leads to from a place that it drives. It drives nothing else.
pub data Drives (links : List Link) (starts : List (Option ℕ)) (driver : ℕ) : ℕ → Type 0 where
  start : (place : ℕ) → slice_get starts driver ≡ Some (Some place) → Drives links starts driver place
  next : (from to : ℕ) → Drives links starts driver from → Leads links from to → Drives links starts driver to

-- no two different drivers drive the place
abbrev pub HasOneDriver : List Link → List (Option ℕ) → ℕ → Type 0
HasOneDriver links starts place = (one other : ℕ) → Drives links starts one place → Drives links starts other place → one ≡ other

-- The first place that two different drivers drive, and the first two of its drivers.
pub record IsFirstTwo (links : List Link) (starts : List (Option ℕ)) (place first second : ℕ) : Type 0 where
  pub drives_first : Drives links starts first place
  pub drives_second : Drives links starts second place
  pub order : first < second
  pub others : (driver : ℕ) → Drives links starts driver place → (driver ≡ first) ⊎ (second ≤ driver)
  pub before : (earlier : ℕ) → earlier < place → HasOneDriver links starts earlier

-- links lead from one place over each of those between, in this order, to another
abbrev pub LeadsOver : List Link → ℕ → List ℕ → ℕ → Type 0
LeadsOver links from [] to = Leads links from to
LeadsOver links from (place ∷ places) to = Leads links from place × LeadsOver links place places to

-- places in a ring: links lead from each to the next, and from the last to the first
abbrev pub IsRing : List Link → List ℕ → Type 0
IsRing links [] = ⊥
IsRing links (place ∷ places) = LeadsOver links place places place

-- no place of the list comes before its first
abbrev pub BeginsAtLeast : List ℕ → Type 0
BeginsAtLeast [] = ⊥
BeginsAtLeast (place ∷ places) = All (λ other. place ≤ other) places

-- A ring as it is named: from its first place on, each place once.
pub record IsNamedRing (links : List Link) (ring : List ℕ) : Type 0 where
  pub closed : IsRing links ring
  pub once : AllPairs (λ one other. one ≢ other) ring
  pub least : BeginsAtLeast ring

-- links lead between places below the count
abbrev pub AreLinksInside : List Link → ℕ → Type 0
AreLinksInside links places = (from to : ℕ) → Leads links from to → (from < places) × (to < places)

-- links and starts name places below the count
pub record AreInside (links : List Link) (starts : List (Option ℕ)) (places : ℕ) : Type 0 where
  pub linked : AreLinksInside links places
  pub started : (driver place : ℕ) → slice_get starts driver ≡ Some (Some place) → place < places

-- Each place has at most one driver, and the answer has it; and there is no ring.
pub record IsResolved (links : List Link) (starts : List (Option ℕ)) (places : ℕ) (answer : List (Option ℕ)) : Type 0 where
  pub count : length answer ≡ places
  pub drives : (place driver : ℕ) → slice_get answer place ≡ Some (Some driver) → Drives links starts driver place
  pub found : (place driver : ℕ) → Drives links starts driver place → slice_get answer place ≡ Some (Some driver)
  pub no_ring : (ring : List ℕ) → ¬ IsRing links ring

-- Why there is no answer: the first place with two drivers; or, where there is none such, a ring. Want of memory is free.
abbrev pub IsAliasFault : List Link → List (Option ℕ) → AliasFault → Type 0
IsAliasFault links starts (TwoDrivers place first second) = IsFirstTwo links starts place first second
IsAliasFault links starts (Ring ring) = ((place : ℕ) → HasOneDriver links starts place) × IsNamedRing links ring
IsAliasFault links starts Memory = Unit {0}
