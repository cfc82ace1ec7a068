use Rattle.std.proofs.Common.{◌≡◌, map, drop}
use Rattle.verilog_print.specs.Onto.{onto_each, onto_module}
use Rattle.verilog_tree.specs.Views.{view_module}
use Rattle.verilog_print.proofs.printer.Printer.modules.Given as goal

abbrev pub invariant-more : goal.invariant-more
invariant-more l = onto_each onto_module (map view_module (drop l.tree-index l.modules)) l.self ≡ onto_each onto_module (map view_module l.modules) l.fn.self
