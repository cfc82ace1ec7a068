use Rattle.pulse_laws.proofs.Wires.{wires_are_signed}
use Rattle.pulse_laws.proofs.laws.wires_are_signed.Goals as goal

pub returns : goal.returns
returns c = wires_are_signed
