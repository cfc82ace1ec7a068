use Rattle.lrat_check.proofs.BreakLaw.{faults_break}
use Rattle.lrat_check.proofs.laws.faults_break.Goals as goal

pub returns : goal.returns
returns c = faults_break
