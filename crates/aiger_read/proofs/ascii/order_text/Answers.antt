use Rattle.std.proofs.Common.{subst}
use Rattle.aiger_order.specs.declared.listing.Listing.{Listing}
use Rattle.aiger_order.specs.Renaming.{IsOrdered}
use Rattle.aiger_read.proofs.ascii.order_text.Goals as goal

pub returns-in-Ok-renumber-clause-order : goal.returns-in-Ok-renumber-clause-order
returns-in-Ok-renumber-clause-order c = subst (λ (l : Listing). IsOrdered l c.in-Ok-renumber.aig) c.in-Ok.ensures c.in-Ok-renumber.ensures.order
