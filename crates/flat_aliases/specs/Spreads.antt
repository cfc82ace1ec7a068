-- What is known of the drivers of each place while one driver after another is spread along the links.
use Rattle.std.specs.Prelude.{◌≡◌, ◌⊎◌, ℕ, ◌+◌, ◌<◌, ◌≤◌, List, length, slice_get, Option, Some, None}
use Rattle.std.specs.List.{Contains, sum_by}
use Rattle.flat_aliases.specs.declared.link.Link.{Link}
use Rattle.flat_aliases.specs.declared.link.AliasFault.{AliasFault}
use Rattle.flat_aliases.specs.declared.link.AliasFault.TheVariants.{TwoDrivers, Ring, Memory}
use Rattle.flat_aliases.specs.declared.held.Held.{Held}
use Rattle.flat_aliases.specs.declared.held.Held.TheVariants.{Nothing, One, Two}
use Rattle.flat_aliases.specs.declared.spread.Spread.{Spread}
use Rattle.flat_aliases.specs.Drives.{Leads, Drives}

-- the driver is known, or would be the third
abbrev pub IsSettled : ℕ → Held → Type 0
IsSettled driver Nothing = ⊥
IsSettled driver (One first) = first ≡ driver
IsSettled driver (Two first second) = Unit {0}

-- with one more driver behind those that are known
abbrev pub with_driver : ℕ → Held → Held
with_driver driver Nothing = One driver
with_driver driver (One first) = Two first driver
with_driver driver (Two first second) = Two first second

-- how many drivers more a place has room for
abbrev pub room_of : Held → ℕ
room_of Nothing = 2
room_of (One first) = 1
room_of (Two first second) = 0

-- What is held of a place: true drivers below `top`, and of those below `bound` the first two.
abbrev pub IsTrueOf : List Link → List (Option ℕ) → ℕ → ℕ → ℕ → Held → Type 0
IsTrueOf links starts bound top place Nothing = (driver : ℕ) → driver < bound → Drives links starts driver place → ⊥
IsTrueOf links starts bound top place (One first) =
    (first < top) × Drives links starts first place × ((driver : ℕ) → driver < bound → Drives links starts driver place → driver ≡ first)
IsTrueOf links starts bound top place (Two first second) =
    (first < second) × (second < top) × Drives links starts first place × Drives links starts second place
    × ((driver : ℕ) → driver < bound → Drives links starts driver place → (driver ≡ first) ⊎ (second ≤ driver))

-- the same of each place
abbrev pub AreTrue : List Link → List (Option ℕ) → ℕ → ℕ → List Held → Type 0
AreTrue links starts bound top held = (place : ℕ) (h : Held) → slice_get held place ≡ Some h → IsTrueOf links starts bound top place h

-- a place is settled for a driver
abbrev pub IsSettledAt : List Held → ℕ → ℕ → Type 0
IsSettledAt held driver place = (h : Held) × (slice_get held place ≡ Some h) × IsSettled driver h

-- each place that waits has a number below the count, and the driver drives it
abbrev pub AreWaiting : List Link → List (Option ℕ) → ℕ → ℕ → List ℕ → Type 0
AreWaiting links starts places driver waiting = (place : ℕ) → Contains waiting place → (place < places) × Drives links starts driver place

-- A driver is on its way: what is held is true, and the places that wait are driven by it.
pub record IsSpreading (links : List Link) (starts : List (Option ℕ)) (places driver : ℕ) (spread : Spread) : Type 0 where
  pub count : length spread.held.items ≡ places
  pub held : AreTrue links starts driver (driver + 1) spread.held.items
  pub waiting : AreWaiting links starts places driver spread.waiting.items

-- how much is left to do at most
abbrev pub work_of : Spread → ℕ
work_of spread = sum_by room_of spread.held.items + length spread.waiting.items

-- Going on: what was settled stays so, what is settled anew waits, what waited still does, and no work is added.
pub record GoesOn (driver : ℕ) (old new : Spread) : Type 0 where
  pub grows : (place : ℕ) → IsSettledAt old.held.items driver place → IsSettledAt new.held.items driver place
  pub fresh : (place : ℕ) → IsSettledAt new.held.items driver place → IsSettledAt old.held.items driver place ⊎ Contains new.waiting.items place
  pub keeps : (place : ℕ) → Contains old.waiting.items place → Contains new.waiting.items place
  pub work : work_of new ≤ work_of old

-- each place that a link with a number from `low` on leads to from the place is settled
abbrev pub AreSettledFrom : List Link → List Held → ℕ → ℕ → ℕ → Type 0
AreSettledFrom links held driver place low = (at to : ℕ) → low ≤ at → slice_get links at ≡ Some (record { from = place; to = to }) → IsSettledAt held driver to

-- a place that is settled waits, or is followed by settled places alone
abbrev pub IsClosed : List Link → ℕ → Spread → Type 0
IsClosed links driver spread = (from to : ℕ) → IsSettledAt spread.held.items driver from → Leads links from to → Contains spread.waiting.items from ⊎ IsSettledAt spread.held.items driver to

-- nothing is on its way: of the drivers below the bound the first two are held of each place
pub record IsSpread (links : List Link) (starts : List (Option ℕ)) (places bound : ℕ) (spread : Spread) : Type 0 where
  pub count : length spread.held.items ≡ places
  pub held : AreTrue links starts bound bound spread.held.items
  pub idle : (place : ℕ) → Contains spread.waiting.items place → ⊥

-- the first two drivers are held of each place
pub record AreHeld (links : List Link) (starts : List (Option ℕ)) (places : ℕ) (held : List Held) : Type 0 where
  pub count : length held ≡ places
  pub hold : AreTrue links starts (length starts) (length starts) held

-- at most one driver is held of each place, and the list has it
pub record AreSingle (held : List Held) (drivers : List (Option ℕ)) : Type 0 where
  pub count : length drivers ≡ length held
  pub none : (place : ℕ) → slice_get drivers place ≡ Some None → slice_get held place ≡ Some Nothing
  pub one : (place driver : ℕ) → slice_get drivers place ≡ Some (Some driver) → slice_get held place ≡ Some (One driver)

-- the place is the first that holds two drivers, these
pub record IsFirstHeldTwo (held : List Held) (place first second : ℕ) : Type 0 where
  pub two : slice_get held place ≡ Some (Two first second)
  pub before : (earlier one other : ℕ) → earlier < place → slice_get held earlier ≡ Some (Two one other) → ⊥

-- a fault that says so, or want of memory
abbrev pub IsHeldTwice : List Held → AliasFault → Type 0
IsHeldTwice held (TwoDrivers place first second) = IsFirstHeldTwo held place first second
IsHeldTwice held (Ring ring) = ⊥
IsHeldTwice held Memory = Unit {0}
