use Rattle.bind_laws.proofs.Links.{instances_fit}
use Rattle.bind_laws.proofs.laws.instances_fit.Goals as goal

pub returns : goal.returns
returns c = instances_fit
