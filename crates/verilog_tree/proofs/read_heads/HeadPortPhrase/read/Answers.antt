use Rattle.verilog_tree.specs.Parsing.{port}
use Rattle.verilog_tree.specs.Spelling.{SpellsPort}
use Rattle.verilog_tree.specs.Views.{view_port}
use Rattle.verilog_tree.proofs.Phrases.{exact_port}
use Rattle.verilog_tree.proofs.Shorter.{stays}
use Rattle.verilog_tree.proofs.read_heads.HeadPortPhrase.read.Goals as goal

pub returns-clause-stays : goal.returns-clause-stays
returns-clause-stays c = stays SpellsPort port _ exact_port view_port c.args.reader.now c.port.new.self c.port.result c.port.ensures
