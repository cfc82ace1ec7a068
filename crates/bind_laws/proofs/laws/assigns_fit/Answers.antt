use Rattle.bind_laws.proofs.Assigns.{assigns_fit}
use Rattle.bind_laws.proofs.laws.assigns_fit.Goals as goal

pub returns : goal.returns
returns c = assigns_fit
