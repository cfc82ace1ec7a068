-- The graph of the modules of a text.
use Rattle.std.specs.Prelude.{◌≡◌, ◌↔◌, ℕ, List, length}
use Rattle.verilog_tree.specs.Trees.{Module}
use Rattle.graph_rings.specs.Graph.{IsGraph, HasEdge}
use Rattle.bind_hierarchy.specs.Modules.{Instantiates}

-- an edge leads from each module to each that it instantiates
pub record IsModuleGraph (modules : List Module) (graph : List (List ℕ)) : Type 0 where
  pub nodes : length graph ≡ length modules
  pub is_graph : IsGraph graph
  pub edges : (outer inner : ℕ) → HasEdge graph outer inner ↔ Instantiates modules outer inner
