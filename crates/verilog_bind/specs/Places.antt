-- The places and the numbers of the modules that are bound.
use Rattle.std.specs.Prelude.{◌≡◌, ◌↔◌, ℕ, ◌<◌, Bool, true, false, List, length, slice_get, slice_index_or, Option, Some}
use Rattle.std.specs.List.{All, AllPairs, Contains}

-- a number stands for each place in the list, and is the place of that place in it
pub record AreNumbers (places : List ℕ) (numbers : List (Option ℕ)) : Type 0 where
  pub numbered : (at number : ℕ) → slice_get numbers at ≡ Some (Some number) → slice_get places number ≡ Some at
  pub each : (at : ℕ) → Contains places at → (number : ℕ) × (slice_get numbers at ≡ Some (Some number))

-- The places with a flag, in rising order, and their numbers.
pub record ArePlaces (reached : List Bool) (places : List ℕ) (numbers : List (Option ℕ)) : Type 0 where
  pub count : length numbers ≡ length reached
  pub rising : AllPairs (λ one other. one < other) places
  pub flagged : (at : ℕ) → Contains places at ↔ (slice_index_or reached at false ≡ true)
  pub numbers_are : AreNumbers places numbers

-- the same of the places before a limit
pub record HasPlacesTo (reached : List Bool) (limit : ℕ) (places : List ℕ) (numbers : List (Option ℕ)) : Type 0 where
  pub count : length numbers ≡ limit
  pub rising : AllPairs (λ one other. one < other) places
  pub below : All (λ at. at < limit) places
  pub to : (at : ℕ) → at < limit → slice_index_or reached at false ≡ true → Contains places at
  pub from : (at : ℕ) → Contains places at → slice_index_or reached at false ≡ true
  pub numbers_are : AreNumbers places numbers
