use Rattle.verilog_lex.proofs.Stepped.{tick_end, tick_bad, tick_line, tick_other}
use Rattle.std.proofs.Common.{sym, ◌∙◌}
use Rattle.verilog_lex.proofs.steps.directive.Goals as goal

pub returns-then-at-text : goal.returns-then-at-text
returns-then-at-text c = tick_end c.args.text.now c.args.at c.if-at-text.true

pub returns-then-not-is_start : goal.returns-then-not-is_start
returns-then-not-is_start c = tick_bad c.args.text.now c.args.at c.requires c.if-at-text.false (sym c.is_start.ensures ∙ c.if-not-is_start.true)

pub returns-then-is_skipped : goal.returns-then-is_skipped
returns-then-is_skipped c = tick_line c.args.text.now c.args.at c.name_end-end.result c.line_end.result c.requires c.if-at-text.false (sym c.is_start.ensures ∙ c.if-not-is_start.false) c.name_end-end.ensures.end (sym c.is_skipped.ensures ∙ c.if-is_skipped.true) c.line_end.ensures.end

pub returns : goal.returns
returns c = tick_other c.args.text.now c.args.at c.name_end-end.result c.requires c.if-at-text.false (sym c.is_start.ensures ∙ c.if-not-is_start.false) c.name_end-end.ensures.end (sym c.is_skipped.ensures ∙ c.if-is_skipped.false)
