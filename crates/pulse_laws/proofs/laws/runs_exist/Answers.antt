use Rattle.pulse_laws.proofs.Runs.{runs_exist}
use Rattle.pulse_laws.proofs.laws.runs_exist.Goals as goal

pub returns : goal.returns
returns c = runs_exist
