use Rattle.std.proofs.Common.{◌≡◌, ◌⊎◌, ℕ, true, false, take, length, get_or}
use Rattle.std.specs.List.{Contains}
use Rattle.bind_hierarchy.proofs.top.mark_edges.Given as goal

abbrev pub invariant-loop-node : goal.invariant-loop-node
invariant-loop-node l = record {
  len : length l.marks.items ≡ length l.initial.marks.items;
  kept : (node : ℕ) → get_or l.initial.marks.items node false ≡ true → get_or l.marks.items node false ≡ true;
  marked : (node : ℕ) → Contains (take l.node-index l.edges) node → get_or l.marks.items node false ≡ true;
  only : (node : ℕ) → get_or l.marks.items node false ≡ true → (get_or l.initial.marks.items node false ≡ true) ⊎ Contains (take l.node-index l.edges) node;
}
