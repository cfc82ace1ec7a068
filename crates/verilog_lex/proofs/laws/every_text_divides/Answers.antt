use Rattle.verilog_lex.proofs.Facts.{text_divides}
use Rattle.verilog_lex.proofs.laws.every_text_divides.Goals as goal

pub returns : goal.returns
returns c = text_divides
