use Rattle.std.proofs.Common.{arith}
use Rattle.flat_form.proofs.order.net_behind.Goals as goal

pub overflow_add-first_output : goal.overflow_add-first_output
overflow_add-first_output c = omega arith

pub overflow_cast-first_output : goal.overflow_cast-first_output
overflow_cast-first_output c = omega arith
