use Rattle.pulse_laws.proofs.HopPaths.{paths_exist}
use Rattle.pulse_laws.proofs.laws.paths_exist.Goals as goal

pub returns : goal.returns
returns c = paths_exist
