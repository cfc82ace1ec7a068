use Rattle.std.proofs.Common.{◌<◌, length, take}
use Rattle.std.specs.List.{All}
use Rattle.graph_rings.proofs.edges.is_graph.Given as goal

abbrev pub invariant-loop-edges : goal.invariant-loop-edges
invariant-loop-edges l = All (All (λ node. node < length l.graph)) (take l.edges-index l.graph)
