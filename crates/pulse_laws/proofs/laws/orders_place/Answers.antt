use Rattle.pulse_laws.proofs.Wires.{orders_place}
use Rattle.pulse_laws.proofs.laws.orders_place.Goals as goal

pub returns : goal.returns
returns c = orders_place
