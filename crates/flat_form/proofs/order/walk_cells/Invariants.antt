use Rattle.std.proofs.Common.{◌≤◌, ◌-◌, length}
use Rattle.flat_form.specs.Walking.{first_output, IsWalk, AreInputsServed, AreCellsServed}
use Rattle.flat_form.proofs.order.walk_cells.Given as goal

abbrev pub invariant-along : goal.invariant-along
invariant-along l = record {
  walk : IsWalk l.flat l.seen l.order;
  inputs : AreInputsServed l.flat l.seen (first_output l.flat);
  cells : AreCellsServed l.flat l.seen l.order l.place;
  within : l.place ≤ length l.order;
}

abbrev pub decreases-along : goal.decreases-along
decreases-along l = length l.flat.cells - l.place
