use Rattle.aiger_read.proofs.Numbers.{numbers}
use Rattle.aiger_read.proofs.laws.numbers_are_read.Goals as goal

pub returns : goal.returns
returns c = numbers
