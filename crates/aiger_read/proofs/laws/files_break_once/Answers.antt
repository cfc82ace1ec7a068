use Rattle.aiger_read.proofs.Exact.{once}
use Rattle.aiger_read.proofs.laws.files_break_once.Goals as goal

pub returns : goal.returns
returns c = once
