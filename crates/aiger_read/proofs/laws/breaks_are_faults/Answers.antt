use Rattle.aiger_read.proofs.Exact.{exact}
use Rattle.aiger_read.proofs.laws.breaks_are_faults.Goals as goal

pub returns : goal.returns
returns c = exact
