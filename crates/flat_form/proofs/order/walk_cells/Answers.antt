use Rattle.std.proofs.Common.{arith}
use Rattle.flat_form.proofs.order.walk_cells.Goals as goal

pub along-preserved : goal.along-preserved
along-preserved c = record {
  walk = c.in_ok-follow_cell.ensures.walk;
  inputs = λ net l cell at r. c.in_ok-follow_cell.ensures.grows cell (c.along.invariant.inputs net l cell at r);
  cells = c.in_ok-follow_cell.ensures.cells;
  within = let longer = c.in_ok-follow_cell.ensures.extends.longer in omega arith;
}
