use Rattle.pulse_laws.proofs.Wires.{orders_rank}
use Rattle.pulse_laws.proofs.laws.orders_rank.Goals as goal

pub returns : goal.returns
returns c = orders_rank
