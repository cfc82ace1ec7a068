use Rattle.bind_laws.proofs.Assigns.{ports_are_narrow}
use Rattle.bind_laws.proofs.laws.ports_are_narrow.Goals as goal

pub returns : goal.returns
returns c = ports_are_narrow
