use Rattle.std.proofs.Common.{◌≡◌, map, drop}
use Rattle.verilog_print.specs.Onto.{onto_each, onto_item}
use Rattle.verilog_tree.specs.Views.{view_item}
use Rattle.verilog_print.proofs.printer.Printer.items.Given as goal

abbrev pub invariant-more : goal.invariant-more
invariant-more l = onto_each onto_item (map view_item (drop l.item-index l.items)) l.self ≡ onto_each onto_item (map view_item l.items) l.fn.self
