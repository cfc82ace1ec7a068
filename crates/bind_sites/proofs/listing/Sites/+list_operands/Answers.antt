use Rattle.bind_sites.proofs.Operands.{operands-is}
use Rattle.bind_sites.proofs.listing.Sites.+list_operands.Goals as goal

pub operands-returns-in-Join : goal.operands-returns-in-Join
operands-returns-in-Join t c =
    rw (operands-is c.args.expr.now c.in-Join.parts c.as_slice.result.now c.in-Join.is c.as_slice.ensures.value) c.joined.ensures
