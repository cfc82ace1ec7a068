use Rattle.bind_kinds.proofs.Meanings.{one_list}
use Rattle.bind_kinds.proofs.laws.ports_are_one.Goals as goal

pub returns : goal.returns
returns c = one_list
