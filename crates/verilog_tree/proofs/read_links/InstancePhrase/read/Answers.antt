use Rattle.verilog_tree.specs.Parsing.{instance}
use Rattle.verilog_tree.specs.Spelling.{SpellsInstance}
use Rattle.verilog_tree.specs.Views.{view_instance}
use Rattle.verilog_tree.proofs.Phrases.{exact_instance}
use Rattle.verilog_tree.proofs.Shorter.{stays}
use Rattle.verilog_tree.proofs.read_links.InstancePhrase.read.Goals as goal

pub returns-clause-stays : goal.returns-clause-stays
returns-clause-stays c = stays SpellsInstance instance _ exact_instance view_instance c.args.reader.now c.instance.new.self c.instance.result c.instance.ensures
