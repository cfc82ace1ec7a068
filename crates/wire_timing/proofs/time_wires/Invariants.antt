use Rattle.wire_timing.specs.Wires.{design_of}
use Rattle.wire_timing.proofs.Ports.{IsTimed}
use Rattle.wire_timing.proofs.time_wires.Given as goal

abbrev pub invariant-loop-place : goal.invariant-loop-place
invariant-loop-place l = IsTimed (design_of l.table l.flat l.bench) l.place l.depths
