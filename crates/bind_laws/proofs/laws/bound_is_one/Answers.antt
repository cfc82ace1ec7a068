use Rattle.bind_laws.proofs.Unique.{bound_is_one}
use Rattle.bind_laws.proofs.laws.bound_is_one.Goals as goal

pub returns : goal.returns
returns c = bound_is_one
