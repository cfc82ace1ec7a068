use Rattle.std.proofs.Common.{◌≡◌, map, drop}
use Rattle.verilog_print.specs.Onto.{onto_each, onto_behind, onto_expr}
use Rattle.verilog_tree.specs.Views.{view_expr}
use Rattle.verilog_print.proofs.printer.Printer.+print_exprs.Given as goal

abbrev pub invariant-more_parts-more : goal.invariant-more_parts-more
invariant-more_parts-more l = onto_each (onto_behind onto_expr) (map view_expr (drop l.one-index l.parts)) l.self ≡ onto_each (onto_behind onto_expr) (map view_expr l.parts) l.fn.self
