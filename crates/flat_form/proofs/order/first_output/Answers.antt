use Rattle.std.proofs.Common.{arith}
use Rattle.flat_form.proofs.Circuits.{cells_within}
use Rattle.flat_form.proofs.order.first_output.Goals as goal

pub overflow_sub-result : goal.overflow_sub-result
overflow_sub-result c = let n = cells_within c.args.flat.now c.requires in omega arith

pub returns-clause-count : goal.returns-clause-count
returns-clause-count c = let n = cells_within c.args.flat.now c.requires in omega arith
