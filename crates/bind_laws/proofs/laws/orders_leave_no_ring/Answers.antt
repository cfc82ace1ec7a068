use Rattle.bind_laws.proofs.Ranks.{orders_leave_no_ring}
use Rattle.bind_laws.proofs.laws.orders_leave_no_ring.Goals as goal

pub returns : goal.returns
returns c = orders_leave_no_ring
