use Rattle.verilog_lex.proofs.Facts.{written_read}
use Rattle.verilog_lex.proofs.laws.written_words_are_read.Goals as goal

pub returns : goal.returns
returns c = written_read
