use Rattle.net_graph.proofs.OnlyOne.{fanouts_are_one}
use Rattle.net_graph.proofs.laws.fanouts_are_one.Goals as goal

pub returns : goal.returns
returns c = fanouts_are_one
