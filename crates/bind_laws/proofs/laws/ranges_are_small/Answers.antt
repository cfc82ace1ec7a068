use Rattle.bind_laws.proofs.Assigns.{ranges_are_small}
use Rattle.bind_laws.proofs.laws.ranges_are_small.Goals as goal

pub returns : goal.returns
returns c = ranges_are_small c.numbers_are_small.ensures
