use Rattle.bind_kinds.proofs.Meanings.{one_kind}
use Rattle.bind_kinds.proofs.laws.kinds_are_one.Goals as goal

pub returns : goal.returns
returns c = one_kind
