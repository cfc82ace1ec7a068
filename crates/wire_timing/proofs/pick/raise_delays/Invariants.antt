use Rattle.wire_timing.specs.Wires.{design_of}
use Rattle.wire_timing.proofs.Raise.{IsRaising}
use Rattle.wire_timing.proofs.pick.raise_delays.Given as goal

abbrev pub invariant-loop-arc : goal.invariant-loop-arc
invariant-loop-arc l = IsRaising (design_of l.table l.flat l.bench) l.arcs l.spare l.arc-index l.delays.items l.left
