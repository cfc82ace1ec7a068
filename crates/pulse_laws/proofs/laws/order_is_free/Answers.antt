use Rattle.pulse_laws.proofs.LawProofs.{order_is_free}
use Rattle.pulse_laws.proofs.laws.order_is_free.Goals as goal

pub returns : goal.returns
returns c = order_is_free
