use Rattle.pulse_laws.proofs.LawProofs.{signed_in_any_order}
use Rattle.pulse_laws.proofs.laws.signed_in_any_order.Goals as goal

pub returns : goal.returns
returns c = signed_in_any_order
