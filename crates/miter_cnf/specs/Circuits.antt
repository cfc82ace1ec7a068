-- A circuit whose nets have variables, with the clauses of its gates and mergers.
use Rattle.std.specs.Prelude.{ℕ, ℤ, List, length}
use Rattle.std.specs.List.{Contains}
use Rattle.rsfq_ids.specs.declared.id.PortId.{PortId}
use Rattle.rsfq_ids.specs.declared.circuit.Bench.{Bench}
use Rattle.rsfq_ids.specs.declared.circuit.PortUse.TheVariants as port_use
use Rattle.rsfq_ids.specs.Bench.{IsUsed}
use Rattle.rsfq_ids.specs.Ready.{HasGoodShape}
use Rattle.rsfq_ids.specs.WellFormed.{IsBench}
use Rattle.rsfq_ids.specs.Formula.{Clause}
use Rattle.net_graph.specs.Graph.{NetGraph, IsGraph}
use Rattle.clock_tree.specs.Clock.{design_of}
use Rattle.miter_cnf.specs.Variables.{AreVariables, AreCellClauses}

-- A circuit of good shape on a bench, all of whose data inputs are among those that have variables; the variables of its nets, and the clauses of its cells.
pub record IsNamedCircuit (graph : NetGraph) (bench : Bench) (inputs : List PortId) (variables : List ℕ) (clauses : List Clause) : Type 0 where
  pub fits : IsGraph graph
  pub bench_fits : IsBench graph.flat bench
  pub shape : HasGoodShape (design_of graph bench)
  pub listed : (port : PortId) (low high : ℤ) → IsUsed bench port (port_use.Arrival low high) → Contains inputs port
  pub named : AreVariables graph inputs variables
  pub grouped : AreCellClauses graph (length inputs) variables (length graph.flat.cells) clauses
