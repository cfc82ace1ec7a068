use Rattle.verilog_lex.proofs.Facts.{gaps_tell}
use Rattle.verilog_lex.proofs.laws.blanks_between_are_all.Goals as goal

pub returns : goal.returns
returns c = gaps_tell c.args.bytes.now c.args.tokens.now c.requires
