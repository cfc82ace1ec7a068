use Rattle.pulse_laws.proofs.LawProofs.{runs_have_tags}
use Rattle.pulse_laws.proofs.laws.runs_have_tags.Goals as goal

pub returns : goal.returns
returns c = runs_have_tags
