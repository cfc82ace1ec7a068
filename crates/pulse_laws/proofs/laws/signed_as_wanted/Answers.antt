use Rattle.pulse_laws.proofs.LawProofs.{signed_as_wanted}
use Rattle.pulse_laws.proofs.laws.signed_as_wanted.Goals as goal

pub returns : goal.returns
returns c = signed_as_wanted
