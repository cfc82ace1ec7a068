use Rattle.std.proofs.Common.{take}
use Rattle.std.specs.List.{AllZip}
use Rattle.verilog_tree.specs.Views.{view_source}
use Rattle.bind_kinds.specs.Netlist.{AreWidthsOf}
use Rattle.bind_kinds.proofs.widths.widths_of.Given as goal

abbrev pub invariant-loop-at : goal.invariant-loop-at
invariant-loop-at l = AllZip AreWidthsOf (take l.at (view_source l.source)) l.widths.items
