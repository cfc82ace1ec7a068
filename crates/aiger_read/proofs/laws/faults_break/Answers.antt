use Rattle.aiger_read.proofs.Broken.{break}
use Rattle.aiger_read.proofs.laws.faults_break.Goals as goal

pub returns : goal.returns
returns c = break
