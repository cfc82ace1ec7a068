use Rattle.net_graph.proofs.Existing.{graph_offences_exist}
use Rattle.net_graph.proofs.laws.graph_offences_exist.Goals as goal

pub returns : goal.returns
returns c = graph_offences_exist
