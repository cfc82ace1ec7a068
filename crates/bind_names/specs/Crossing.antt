-- Bits of two ports with one printed name. One of the two ports is a scalar, and its name is that of a bit of the other one, a vector.
use Rattle.std.specs.Prelude.{◌≡◌, ◌⊎◌, ℕ, ◌<◌, ◌≤◌, nat_lt, max, if◌then◌else◌, List, Option, Some, None, MatchOption}
use Rattle.bind_sites.specs.Selects.{width_of, bit_name}
use Rattle.bind_sites.specs.Sites.{Site, Listed}
use Rattle.bind_sites.specs.Scope.{IsAt, StandsBefore}
use Rattle.bind_sites.specs.Again.{HasFirstRange}
use Rattle.bind_names.specs.declared.crossing.Crossing.{Crossing as Found}

-- a name is listed at a place, and is a scalar's
pub record IsScalarAt (all : List Site) (at : ℕ) (name : List ℕ) : Type 0 where
  pub listed : IsAt all at (Listed name)
  pub range_is : HasFirstRange all name None

-- a printed name is that of a vector's bit: the vector is listed first at one place, and has the bit at another, counted from the right end of its range
pub record IsVectorBit (all : List Site) (printed : List ℕ) (vector bit : ℕ) : Type 0 where
  pub name : List ℕ
  pub range : ℕ × ℕ
  pub listed : IsAt all vector (Listed name)
  pub alone : ¬ StandsBefore all vector (Listed name)
  pub range_is : HasFirstRange all name (Some range)
  pub within : bit < width_of (Some range)
  pub printed_is : printed ≡ bit_name name (Some range) bit

-- A scalar has the printed name of a vector's bit. Of the two the one that is listed later is at place `at`, and `bit` is the place of its bit.
pub record Crosses (all : List Site) (scalar at bit : ℕ) (printed : List ℕ) : Type 0 where
  pub is_scalar : IsScalarAt all scalar printed
  pub vector : ℕ
  pub place : ℕ
  pub is_bit : IsVectorBit all printed vector place
  pub at_is : at ≡ max scalar vector
  pub bit_is : bit ≡ (if nat_lt scalar vector then place else 0)

-- a crossing is that of the bit at a place of the port listed at a place, or of one that comes before it
abbrev pub IsNoLater : Found → ℕ → ℕ → Type 0
IsNoLater found at bit = (found.at < at) ⊎ ((found.at ≡ at) × (found.bit ≤ bit))

-- the first crossing of a kind, where there is one
abbrev pub IsLeast : (ℕ → ℕ → List ℕ → Type 0) → Option Found → Type 0
IsLeast P found = MatchOption found
    ((at bit : ℕ) (printed : List ℕ) → ¬ P at bit printed)
    (λ f. P f.at f.bit f.printed.now × ((at bit : ℕ) (printed : List ℕ) → P at bit printed → IsNoLater f at bit))

-- the crossings of one scalar before a limit
abbrev pub CrossesBefore : List Site → ℕ → ℕ → ℕ → ℕ → List ℕ → Type 0
CrossesBefore all limit scalar at bit printed = (at < limit) × Crosses all scalar at bit printed

-- the crossings of the scalars before a place
abbrev pub CrossesAmong : List Site → ℕ → ℕ → ℕ → ℕ → List ℕ → Type 0
CrossesAmong all limit upto at bit printed = (scalar : ℕ) × (scalar < upto) × CrossesBefore all limit scalar at bit printed
