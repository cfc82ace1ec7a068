-- Why a bound source has no circuit, in the order in which the causes are looked for.
use Rattle.std.specs.Prelude.{◌≡◌, ◌≢◌, ◌⊎◌, ℕ, ◌<◌, ◌≤◌, List, [], ◌∷◌, slice_get, Some}
use Rattle.std.specs.List.{AllPairs}
use Rattle.rsfq_ids.specs.declared.table.CellTable.{CellTable}
use Rattle.rsfq_ids.specs.declared.circuit.Driver.{Driver}
use Rattle.rsfq_ids.specs.declared.circuit.Reader.{Reader}
use Rattle.bind_forms.specs.declared.bound.Bound.{Bound}
use Rattle.flat_places.specs.Places.{Place, places_of}
use Rattle.flat_places.specs.Drives.{Drives, Follows}
use Rattle.flat_places.specs.Circuit.{ReadsFromDriver}

-- no two different drivers drive the place
abbrev pub HasOneDriver : CellTable → Bound → Place → Type 0
HasOneDriver table bound place = (one other : Driver) → Drives table bound one place → Drives table bound other place → one ≡ other

-- The first place that two different drivers drive, and its first two drivers in the order of nets, where `nets` lists all drivers in that order.
pub record IsFirstTwo (table : CellTable) (bound : Bound) (nets : List Driver) (place : Place) (first second : Driver) : Type 0 where
  pub number : ℕ
  pub numbered : slice_get (places_of bound) number ≡ Some place
  pub drives_first : Drives table bound first place
  pub drives_second : Drives table bound second place
  pub low : ℕ
  pub high : ℕ
  pub first_at : slice_get nets low ≡ Some first
  pub second_at : slice_get nets high ≡ Some second
  pub order : low < high
  pub others : (net : ℕ) (other : Driver) → slice_get nets net ≡ Some other → Drives table bound other place → (net ≡ low) ⊎ (high ≤ net)
  pub before : (earlier : ℕ) (one : Place) → earlier < number → slice_get (places_of bound) earlier ≡ Some one → HasOneDriver table bound one

-- each place follows the one before it, the first of them `before`, and `first` follows the last
abbrev pub GoesRound : Bound → Place → Place → List Place → Type 0
GoesRound bound first before [] = Follows bound bound.top before first
GoesRound bound first before (place ∷ places) = Follows bound bound.top before place × GoesRound bound first place places

-- places in a ring, each following the one before
abbrev pub IsRing : Bound → List Place → Type 0
IsRing bound [] = ⊥
IsRing bound (place ∷ places) = GoesRound bound place place places

-- A ring as it is named: each place once, from the first in the order of places on.
pub record IsNamedRing (bound : Bound) (ring : List Place) : Type 0 where
  pub closed : IsRing bound ring
  pub once : AllPairs (λ one other. one ≢ other) ring
  pub least : (first : Place) → slice_get ring 0 ≡ Some first → (k low high : ℕ) (other : Place) → slice_get ring k ≡ Some other → slice_get (places_of bound) low ≡ Some first → slice_get (places_of bound) high ≡ Some other → low ≤ high

-- nothing drives what the reader reads
abbrev pub HasNoDriver : CellTable → Bound → Reader → Type 0
HasNoDriver table bound by = (from : Driver) → ReadsFromDriver table bound from by → ⊥

-- the first reader in the order of pins that nothing drives, where `readers` lists all of them in that order
pub record IsFirstUndriven (table : CellTable) (bound : Bound) (readers : List Reader) (by : Reader) : Type 0 where
  pub pin : ℕ
  pub numbered : slice_get readers pin ≡ Some by
  pub undriven : HasNoDriver table bound by
  pub before : (earlier : ℕ) (one : Reader) → earlier < pin → slice_get readers earlier ≡ Some one → (from : Driver) × ReadsFromDriver table bound from one
