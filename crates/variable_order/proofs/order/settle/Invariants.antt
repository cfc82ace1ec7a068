use Rattle.std.proofs.Common.{◌≡◌, ◌*◌, ◌<◌, ◌≤◌, ℕ, length}
use Rattle.variable_order.specs.Tree.{AreRightBut, node_at}
use Rattle.variable_order.proofs.order.settle.Given as goal

abbrev pub invariant-up : goal.invariant-up
invariant-up l = record {
  size : length l.tree ≡ length l.fn.tree;
  right : (count : ℕ) → length l.fn.tree ≡ 2 * count → (l.node < count) × AreRightBut l.node count l.tree;
  leaves : (count place : ℕ) → length l.fn.tree ≡ 2 * count → count ≤ place → node_at l.tree place ≡ node_at l.fn.tree place;
}

abbrev pub decreases-up : goal.decreases-up
decreases-up l = l.node
