use Rattle.verilog_tree.specs.Parsing.{assign}
use Rattle.verilog_tree.specs.Spelling.{SpellsAssign}
use Rattle.verilog_tree.specs.Views.{view_pair}
use Rattle.verilog_tree.proofs.Phrases.{exact_assign}
use Rattle.verilog_tree.proofs.Shorter.{stays}
use Rattle.verilog_tree.proofs.read_items.Tuple2ExprExprPhrase.read.Goals as goal

pub returns-clause-stays : goal.returns-clause-stays
returns-clause-stays c = stays SpellsAssign assign _ exact_assign view_pair c.args.reader.now c.assign.new.self c.assign.result c.assign.ensures
