use Rattle.std.proofs.Common.{◌≡◌, ◌++◌, List, [], ℕ, map, ap, ◌∙◌}
use Rattle.verilog_print.specs.Onto.{onto_modules}
use Rattle.verilog_tree.specs.Views.{view_source, view_module}
use Rattle.verilog_print.proofs.Adds.{modules_add}
use Rattle.verilog_print.proofs.Back.{read_back}
use Rattle.verilog_print.proofs.printing.print.Goals as goal

pub returns-in_err-modules-clause-again : goal.returns-in_err-modules-clause-again
returns-in_err-modules-clause-again c = read_back c.written_words_are_read.ensures (view_source c.args.source.now)

pub returns-in-Ok-clause-ok : goal.returns-in-Ok-clause-ok
returns-in-Ok-clause-ok c =
    let written : c.text.result.now ≡ onto_modules (view_source c.args.source.now) [] =
    c.text.ensures ∙ c.in_ok-modules.ensures ∙ ap (λ (ms : List _). onto_modules (map view_module ms) c.new-printer.result) c.as_slice.ensures ∙ ap (λ (t : List ℕ). onto_modules (view_source c.args.source.now) t) c.new-printer.ensures in
    c.in-Ok.ensures.items ∙ ap (λ (t : List ℕ). c.args.out.now.items ++ t) (written ∙ modules_add (view_source c.args.source.now) [])

pub returns-in-Ok-clause-again : goal.returns-in-Ok-clause-again
returns-in-Ok-clause-again c = read_back c.written_words_are_read.ensures (view_source c.args.source.now)

pub returns-clause-again : goal.returns-clause-again
returns-clause-again c = read_back c.written_words_are_read.ensures (view_source c.args.source.now)
