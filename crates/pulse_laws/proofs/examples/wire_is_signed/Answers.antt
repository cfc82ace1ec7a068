use Rattle.pulse_laws.proofs.OneWire.{wire_is_signed}
use Rattle.pulse_laws.proofs.examples.wire_is_signed.Goals as goal

pub returns : goal.returns
returns c = wire_is_signed
