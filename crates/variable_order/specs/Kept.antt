-- What the fields of an order keep.
use Rattle.std.specs.Prelude.{◌≡◌, ℕ, ◌*◌, ◌<◌, ◌^◌, List, length}
use Rattle.variable_order.specs.declared.order.Seat.{Seat}
use Rattle.variable_order.specs.declared.order.VariableOrder.TheInside.{Inside}
use Rattle.variable_order.specs.Tree.{AreRight, AreLeaves}

abbrev pub seats_of : Inside → List Seat
seats_of a = a.seats.items

pub record IsKept (a : Inside) : Type 0 where
  pub few : length a.seats.items < 2 ^ 32
  pub size : length a.tree.items ≡ 2 * length a.seats.items
  pub right : AreRight (length a.seats.items) a.tree.items
  pub leaves : AreLeaves a.seats.items (length a.seats.items) a.tree.items
