use Rattle.clock_tree.proofs.OnlyOne.{clock_offences_are_one}
use Rattle.clock_tree.proofs.laws.clock_offences_are_one.Goals as goal

pub returns : goal.returns
returns c = clock_offences_are_one
