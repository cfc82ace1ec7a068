use Rattle.std.proofs.Common.{◌≡◌, map, drop}
use Rattle.verilog_print.specs.Onto.{onto_each, onto_behind}
use Rattle.verilog_print.proofs.printer.Printer.more.Given as goal

abbrev pub invariant-more : goal.invariant-more
invariant-more g l = onto_each (onto_behind g.P.Phrase.onto) (map g.P.Phrase.view (drop l.one-index l.phrases)) l.self ≡ onto_each (onto_behind g.P.Phrase.onto) (map g.P.Phrase.view l.phrases) l.fn.self
