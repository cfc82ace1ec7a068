use Rattle.net_graph.proofs.Whole.{circuits_are_wired}
use Rattle.net_graph.proofs.laws.circuits_are_wired.Goals as goal

pub returns : goal.returns
returns c = circuits_are_wired
