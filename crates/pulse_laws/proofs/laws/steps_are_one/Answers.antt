use Rattle.pulse_laws.proofs.HopPaths.{steps_are_one}
use Rattle.pulse_laws.proofs.laws.steps_are_one.Goals as goal

pub returns : goal.returns
returns c = steps_are_one
