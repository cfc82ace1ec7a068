use Rattle.std.proofs.Common.{◌≡◌, ℕ, take, length}
use Rattle.std.specs.List.{Contains}
use Rattle.graph_rings.specs.Search.{mark_of}
use Rattle.graph_rings.specs.declared.search.Mark.TheVariants as mark
use Rattle.graph_rings.proofs.search.settle.Given as goal

abbrev pub invariant-loop-node : goal.invariant-loop-node
invariant-loop-node l = record {
  len : length l.marks.items ≡ length l.initial.marks.items;
  within : (node : ℕ) → Contains (take l.node-index l.nodes) node → mark_of l.marks.items node ≡ mark.Done l.on_ring;
  without : (node : ℕ) → (Contains (take l.node-index l.nodes) node → ⊥) → mark_of l.marks.items node ≡ mark_of l.initial.marks.items node;
}
