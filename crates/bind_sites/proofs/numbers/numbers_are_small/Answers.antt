use Rattle.bind_sites.proofs.Small.{numbers}
use Rattle.bind_sites.proofs.numbers.numbers_are_small.Goals as goal

pub returns : goal.returns
returns c = numbers
