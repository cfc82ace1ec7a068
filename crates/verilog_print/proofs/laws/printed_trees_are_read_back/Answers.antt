use Rattle.verilog_print.proofs.Back.{read_back}
use Rattle.verilog_print.proofs.laws.printed_trees_are_read_back.Goals as goal

pub returns : goal.returns
returns c = read_back c.written_words_are_read.ensures
