use Rattle.aiger_read.proofs.Exact.{nowhere}
use Rattle.aiger_read.proofs.laws.spelled_files_break_nowhere.Goals as goal

pub returns : goal.returns
returns c = nowhere
