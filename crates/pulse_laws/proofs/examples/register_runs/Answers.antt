use Rattle.pulse_laws.proofs.Computed.{register_runs}
use Rattle.pulse_laws.proofs.examples.register_runs.Goals as goal

pub returns : goal.returns
returns c = register_runs
