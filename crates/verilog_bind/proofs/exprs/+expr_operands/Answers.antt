use Rattle.verilog_bind.proofs.Parts.{operands_are}
use Rattle.verilog_bind.proofs.exprs.+expr_operands.Goals as goal

pub add_operands-returns-in-Join : goal.add_operands-returns-in-Join
add_operands-returns-in-Join t c =
    rw (operands_are c.args.expr.now c.in-Join.all c.as_slice.result.now c.in-Join.is c.as_slice.ensures.value) c.add_joined.ensures
