use Rattle.aiger_read.proofs.Groups.{differences}
use Rattle.aiger_read.proofs.laws.differences_are_read.Goals as goal

pub returns : goal.returns
returns c = differences
