use Rattle.net_graph.proofs.OnlyOne.{orders_are_one}
use Rattle.net_graph.proofs.laws.orders_are_one.Goals as goal

pub returns : goal.returns
returns c = orders_are_one
