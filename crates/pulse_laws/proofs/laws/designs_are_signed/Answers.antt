use Rattle.pulse_laws.proofs.LawProofs.{designs_are_signed}
use Rattle.pulse_laws.proofs.laws.designs_are_signed.Goals as goal

pub returns : goal.returns
returns c = designs_are_signed
