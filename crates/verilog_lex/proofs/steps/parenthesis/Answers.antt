use Rattle.verilog_lex.proofs.Stepped.{paren_end, paren_other, paren_some, paren_open}
use Rattle.verilog_lex.proofs.steps.parenthesis.Goals as goal

pub returns-then-at-text : goal.returns-then-at-text
returns-then-at-text c = paren_end c.args.text.now c.args.at c.if-at-text.true

pub returns-then-text-at-ne42 : goal.returns-then-text-at-ne42
returns-then-text-at-ne42 c = paren_other c.args.text.now c.args.at c.requires c.if-at-text.false c.if-text-at-ne42.true

pub returns-in-Some : goal.returns-in-Some
returns-in-Some c = paren_some c.args.text.now c.args.at c.in-Some.end c.requires c.if-at-text.false c.if-text-at-ne42.false c.in-Some.ensures

pub returns-in-None : goal.returns-in-None
returns-in-None c = paren_open c.args.text.now c.args.at c.requires c.if-at-text.false c.if-text-at-ne42.false c.in-None.ensures
