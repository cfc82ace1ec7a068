use Rattle.bind_laws.proofs.Whole.{bound_is_well_formed}
use Rattle.bind_laws.proofs.laws.bound_is_well_formed.Goals as goal

pub returns : goal.returns
returns c = bound_is_well_formed c.ports_are_narrow.ensures c.ranges_are_small.ensures c.assigns_fit.ensures c.instances_fit.ensures c.orders_leave_no_ring.ensures c.port_bits_are_distinct.ensures
