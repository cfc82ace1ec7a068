use Rattle.verilog_tree.proofs.Whole.{one_tree}
use Rattle.verilog_tree.proofs.laws.words_spell_one_tree.Goals as goal

pub returns : goal.returns
returns c = one_tree
