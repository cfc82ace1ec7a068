-- What the parts of a miter have in number, so that its literals fit.
use Rattle.std.specs.Prelude.{◌≡◌, ◌≢◌, ◌+◌, ◌/◌, ◌<◌, ◌≤◌, ◌^◌, length}
use Rattle.std.specs.List.{All, AllPairs}
use Rattle.rsfq_ids.specs.declared.limits.TheConstants.{CELL_LIMIT, WIRE_LIMIT}
use Rattle.golden_aig.specs.declared.graph.Aig.{Aig}
use Rattle.golden_aig.specs.declared.graph.And.{And}
use Rattle.golden_aig.specs.declared.pairing.Match.{Match}
use Rattle.golden_aig.specs.Aig.{IsAig}
use Rattle.net_graph.specs.Graph.{NetGraph, IsOutputBit}
use Rattle.miter_cnf.specs.declared.made.Sorts.{Sorts}

-- far fewer variables than there are numbers
abbrev pub HasFew : Sorts → Type 0
HasFew sorts = sorts.inputs + sorts.cells + sorts.ands < 2 ^ 30

-- the variables of an AND are among those of the golden circuit
pub record IsKnown (sorts : Sorts) (one : And) : Type 0 where
  pub lhs : one.lhs / 2 ≤ sorts.inputs + sorts.ands
  pub rhs0 : one.rhs0 / 2 ≤ sorts.inputs + sorts.ands
  pub rhs1 : one.rhs1 / 2 ≤ sorts.inputs + sorts.ands

-- what the match of two circuits gives for the making of their miter
pub record CanBeMade (graph : NetGraph) (aig : Aig) (matched : Match) : Type 0 where
  pub graph_fits : IsAig aig
  pub many : length matched.inputs ≡ aig.inputs
  pub ports : All (λ input. input < length graph.flat.ports) matched.inputs
  pub once : AllPairs (λ one other. one ≢ other) matched.inputs
  pub outputs : All (IsOutputBit graph.flat) matched.outputs
  pub each : length matched.outputs ≡ length aig.outputs
  pub few_cells : length graph.flat.cells ≤ CELL_LIMIT
  pub few_outputs : length aig.outputs ≤ WIRE_LIMIT
