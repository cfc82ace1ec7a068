use Rattle.pulse_laws.proofs.Computed.{wire_runs}
use Rattle.pulse_laws.proofs.examples.wire_runs.Goals as goal

pub returns : goal.returns
returns c = wire_runs
