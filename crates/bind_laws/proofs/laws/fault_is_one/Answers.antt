use Rattle.bind_laws.proofs.Answered.{fault_is_one}
use Rattle.bind_laws.proofs.laws.fault_is_one.Goals as goal

pub returns : goal.returns
returns c = fault_is_one
