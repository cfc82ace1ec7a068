use Rattle.verilog_lex.proofs.Stepped.{start_step, digit_step, blank_step, byte_step, mark_step, bad_step}
use Rattle.std.proofs.Common.{sym, ◌∙◌}
use Rattle.verilog_lex.specs.Scan.{scan_escape, scan_slash, scan_tick, scan_paren}
use Rattle.verilog_lex.proofs.Dispatch.{at_escape, at_slash, at_tick, at_paren}
use Rattle.verilog_lex.proofs.steps.next_step.Goals as goal

pub returns-then-is_start : goal.returns-then-is_start
returns-then-is_start c = start_step c.args.text.now c.args.at c.word.result c.requires (sym c.is_start.ensures ∙ c.if-is_start.true) c.word.ensures

pub returns-then-is_ascii_digit : goal.returns-then-is_ascii_digit
returns-then-is_ascii_digit c = digit_step c.args.text.now c.args.at c.number.result c.requires (sym c.is_ascii_digit.ensures.value ∙ c.if-is_ascii_digit.true) c.number.ensures

pub returns-then-is_blank : goal.returns-then-is_blank
returns-then-is_blank c = blank_step c.args.text.now c.args.at c.requires (sym c.is_blank.ensures ∙ c.if-is_blank.true)

pub returns-then-byte-eq92 : goal.returns-then-byte-eq92
returns-then-byte-eq92 c = byte_step c.args.text.now c.args.at 92 c.escape.result scan_escape c.requires c.if-byte-eq92.true at_escape c.escape.ensures

pub returns-then-byte-eq47 : goal.returns-then-byte-eq47
returns-then-byte-eq47 c = byte_step c.args.text.now c.args.at 47 c.slash.result scan_slash c.requires c.if-byte-eq47.true at_slash c.slash.ensures

pub returns-then-byte-eq96 : goal.returns-then-byte-eq96
returns-then-byte-eq96 c = byte_step c.args.text.now c.args.at 96 c.directive.result scan_tick c.requires c.if-byte-eq96.true at_tick c.directive.ensures

pub returns-then-byte-eq40 : goal.returns-then-byte-eq40
returns-then-byte-eq40 c = byte_step c.args.text.now c.args.at 40 c.parenthesis.result scan_paren c.requires c.if-byte-eq40.true at_paren c.parenthesis.ensures

pub returns-then-is_mark : goal.returns-then-is_mark
returns-then-is_mark c = mark_step c.args.text.now c.args.at c.requires c.if-byte-eq40.false (sym c.is_mark.ensures ∙ c.if-is_mark.true)

pub returns : goal.returns
returns c = bad_step c.args.text.now c.args.at c.requires (sym c.is_start.ensures ∙ c.if-is_start.false) (sym c.is_ascii_digit.ensures.value ∙ c.if-is_ascii_digit.false) (sym c.is_blank.ensures ∙ c.if-is_blank.false) (sym c.is_mark.ensures ∙ c.if-is_mark.false) c.if-byte-eq92.false c.if-byte-eq47.false c.if-byte-eq96.false
