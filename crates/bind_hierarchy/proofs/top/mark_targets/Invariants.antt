use Rattle.std.proofs.Common.{◌≡◌, ◌<◌, ℕ, true, false, length, get_or}
use Rattle.graph_rings.specs.Graph.{HasEdge}
use Rattle.bind_hierarchy.proofs.top.mark_targets.Given as goal

abbrev pub invariant-loop-edges : goal.invariant-loop-edges
invariant-loop-edges l = record {
  len : length l.marks.items ≡ length l.graph;
  marked : (outer node : ℕ) → outer < l.edges-index → HasEdge l.graph outer node → get_or l.marks.items node false ≡ true;
  only : (node : ℕ) → get_or l.marks.items node false ≡ true → (outer : ℕ) × HasEdge l.graph outer node;
}
