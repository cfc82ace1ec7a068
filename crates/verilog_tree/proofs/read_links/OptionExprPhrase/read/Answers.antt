use Rattle.verilog_tree.specs.Parsing.{optional}
use Rattle.verilog_tree.specs.Spelling.{SpellsOptional}
use Rattle.verilog_tree.specs.Views.{view_optional}
use Rattle.verilog_tree.proofs.Phrases.{exact_optional}
use Rattle.verilog_tree.proofs.Shorter.{stays}
use Rattle.verilog_tree.proofs.read_links.OptionExprPhrase.read.Goals as goal

pub returns-clause-stays : goal.returns-clause-stays
returns-clause-stays c = stays SpellsOptional optional _ exact_optional view_optional c.args.reader.now c.optional.new.self c.optional.result c.optional.ensures
