use Rattle.std.proofs.Common.{◌+◌, ◌-◌, length}
use Rattle.wire_timing.specs.Wires.{design_of}
use Rattle.wire_timing.proofs.Trace.{IsTraced}
use Rattle.wire_timing.proofs.pick.trace_arcs.Given as goal

abbrev pub invariant-loop-cell : goal.invariant-loop-cell
invariant-loop-cell l = IsTraced (design_of l.table l.flat l.bench) l.fn.net l.reach l.at l.arcs.items

abbrev pub decreases-loop-cell : goal.decreases-loop-cell
decreases-loop-cell l = l.reach.cells + 1 - length l.arcs.items
