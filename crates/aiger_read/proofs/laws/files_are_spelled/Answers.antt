use Rattle.aiger_read.proofs.Both.{spelled}
use Rattle.aiger_read.proofs.laws.files_are_spelled.Goals as goal

pub returns : goal.returns
returns c = spelled
