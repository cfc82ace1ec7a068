use Rattle.bind_names.proofs.OneRange.{one_range}
use Rattle.bind_names.proofs.laws.ranges_are_one.Goals as goal

pub returns : goal.returns
returns c = one_range
