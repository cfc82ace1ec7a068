use Rattle.pulse_laws.proofs.Computed.{wire_offends}
use Rattle.pulse_laws.proofs.examples.wire_offends.Goals as goal

pub returns : goal.returns
returns c = wire_offends
