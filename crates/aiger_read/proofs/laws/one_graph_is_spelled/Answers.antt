use Rattle.aiger_read.proofs.Both.{one_spelling}
use Rattle.aiger_read.proofs.laws.one_graph_is_spelled.Goals as goal

pub returns : goal.returns
returns c = one_spelling c.one_graph_is_ordered.ensures
