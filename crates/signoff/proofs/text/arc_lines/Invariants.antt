use Rattle.std.proofs.Common.{◌≡◌, ◌++◌, drop}
use Rattle.wire_timing.specs.Wires.{design_of}
use Rattle.signoff.specs.Text.{arc_lines}
use Rattle.signoff.proofs.text.arc_lines.Given as goal

abbrev pub invariant-loop-i : goal.invariant-loop-i
invariant-loop-i l = l.text.items ++ arc_lines (design_of l.table l.flat l.bench) (drop l.i l.arcs) (drop l.i l.delays) ≡ arc_lines (design_of l.table l.flat l.bench) l.arcs l.delays
