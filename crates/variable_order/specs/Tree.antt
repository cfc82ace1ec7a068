-- The nodes of a tournament.
use Rattle.std.specs.Prelude.{◌≡◌, ◌≢◌, ℕ, ◌+◌, ◌*◌, ◌<◌, ◌≤◌, ◌==◌, ◌&&◌, ◌||◌, nat_lt, Bool, if◌then◌else◌, List, Option, Some, None}
use Rattle.std.specs.List.{slice_index_or}
use Rattle.variable_order.specs.declared.order.Ranked.{Ranked}
use Rattle.variable_order.specs.declared.order.Seat.{Seat}
use Rattle.variable_order.specs.Seats.{seat_at}

abbrev pub node_at : List (Option Ranked) → ℕ → Option Ranked
node_at tree node = slice_index_or tree node None

-- the first has the greater score, or the same one and the greater number
abbrev pub outranks : Ranked → Ranked → Bool
outranks one other = nat_lt other.score one.score || ((other.score == one.score) && nat_lt other.var one.var)

abbrev pub better : Option Ranked → Option Ranked → Option Ranked
better None other = other
better (Some one) None = Some one
better (Some one) (Some other) = if outranks one other then Some one else Some other

-- a node holds the better of its children
abbrev pub IsRight : List (Option Ranked) → ℕ → Type 0
IsRight tree node = node_at tree node ≡ better (node_at tree (2 * node)) (node_at tree (2 * node + 1))

-- each inner node does
abbrev pub AreRight : ℕ → List (Option Ranked) → Type 0
AreRight count tree = (node : ℕ) → 0 < node → node < count → IsRight tree node

abbrev pub AreRightBut : ℕ → ℕ → List (Option Ranked) → Type 0
AreRightBut but count tree = (node : ℕ) → 0 < node → node < count → node ≢ but → IsRight tree node

-- what the leaf of a variable holds
abbrev pub leaf : Seat → ℕ → Option Ranked
leaf seat var = if seat.present then Some (record { score = seat.score; var = var }) else None

-- each leaf has what its variable's seat says
abbrev pub AreLeaves : List Seat → ℕ → List (Option Ranked) → Type 0
AreLeaves seats count tree = (var : ℕ) → var < count → node_at tree (count + var) ≡ leaf (seat_at seats var) var
