use Rattle.verilog_lex.proofs.Facts.{reading_is_only, fault_is_only}
use Rattle.verilog_lex.proofs.laws.texts_divide_in_one_way.Goals as goal

pub returns : goal.returns
returns c = record {
  reading = reading_is_only;
  fault = fault_is_only;
}
