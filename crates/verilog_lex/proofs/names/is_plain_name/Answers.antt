use Rattle.std.proofs.Common.{sym, ◌∙◌}
use Rattle.verilog_lex.proofs.Plain.{plain_short, plain_whole}
use Rattle.verilog_lex.proofs.names.is_plain_name.Goals as goal

pub returns-then-name_end-name : goal.returns-then-name_end-name
returns-then-name_end-name c = plain_short c.args.name.now c.name_end.result (sym c.is_start.ensures ∙ c.if-not-is_start.false) c.name_end.ensures.end c.if-name_end-name.true

pub returns : goal.returns
returns c = plain_whole c.args.name.now c.name_end.result c.is_reserved.result (sym c.is_start.ensures ∙ c.if-not-is_start.false) c.name_end.ensures.end c.if-name_end-name.false c.is_reserved.ensures
