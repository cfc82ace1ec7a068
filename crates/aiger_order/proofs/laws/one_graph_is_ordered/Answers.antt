use Rattle.aiger_order.proofs.OneGraph.{one_graph}
use Rattle.aiger_order.proofs.laws.one_graph_is_ordered.Goals as goal

pub returns : goal.returns
returns c = one_graph
