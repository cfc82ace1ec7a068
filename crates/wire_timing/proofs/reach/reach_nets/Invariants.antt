use Rattle.wire_timing.specs.Wires.{design_of}
use Rattle.wire_timing.proofs.Walk.{IsWalked}
use Rattle.wire_timing.proofs.reach.reach_nets.Given as goal

abbrev pub invariant-loop-cell : goal.invariant-loop-cell
invariant-loop-cell l = IsWalked (design_of l.table l.flat l.bench) l.order l.cell-index l.reached.items
