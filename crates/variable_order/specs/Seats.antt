-- Which variable has the greatest score of those that are present.
use Rattle.std.specs.Prelude.{◌≡◌, ◌≢◌, ◌⊎◌, ℕ, ◌<◌, true, false, List, length, Option, Some, None}
use Rattle.std.specs.List.{slice_index_or}
use Rattle.variable_order.specs.declared.order.Seat.{Seat}

abbrev pub seat_at : List Seat → ℕ → Seat
seat_at seats var = slice_index_or seats var (record { score = 0; present = false })

-- a variable is present, and each other one that is has a lower score, or the same one and a lower number
pub record IsBest (seats : List Seat) (var : ℕ) : Type 0 where
  pub known : var < length seats
  pub here : (seat_at seats var).present ≡ true
  pub others : (other : ℕ) → (seat_at seats other).present ≡ true → other ≢ var
      → ((seat_at seats other).score < (seat_at seats var).score) ⊎ (((seat_at seats other).score ≡ (seat_at seats var).score) × (other < var))

abbrev pub IsGreatest : List Seat → Option ℕ → Type 0
IsGreatest seats None = (var : ℕ) → (seat_at seats var).present ≡ false
IsGreatest seats (Some var) = IsBest seats var
