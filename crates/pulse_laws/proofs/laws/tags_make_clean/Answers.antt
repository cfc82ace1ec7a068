use Rattle.pulse_laws.proofs.LawProofs.{tags_make_clean}
use Rattle.pulse_laws.proofs.laws.tags_make_clean.Goals as goal

pub returns : goal.returns
returns c = tags_make_clean
