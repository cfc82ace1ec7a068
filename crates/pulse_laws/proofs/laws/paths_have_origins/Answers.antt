use Rattle.pulse_laws.proofs.HopPaths.{paths_have_origins}
use Rattle.pulse_laws.proofs.laws.paths_have_origins.Goals as goal

pub returns : goal.returns
returns c = paths_have_origins
