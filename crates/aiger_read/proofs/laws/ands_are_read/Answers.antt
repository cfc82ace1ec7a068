use Rattle.aiger_read.proofs.AndLaws.{ands}
use Rattle.aiger_read.proofs.laws.ands_are_read.Goals as goal

pub returns : goal.returns
returns c = ands
