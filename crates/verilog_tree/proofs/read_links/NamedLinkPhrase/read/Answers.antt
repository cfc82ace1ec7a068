use Rattle.verilog_tree.specs.Parsing.{named}
use Rattle.verilog_tree.specs.Spelling.{SpellsNamed}
use Rattle.verilog_tree.specs.Views.{view_named}
use Rattle.verilog_tree.proofs.Phrases.{exact_named}
use Rattle.verilog_tree.proofs.Shorter.{stays}
use Rattle.verilog_tree.proofs.read_links.NamedLinkPhrase.read.Goals as goal

pub returns-clause-stays : goal.returns-clause-stays
returns-clause-stays c = stays SpellsNamed named _ exact_named view_named c.args.reader.now c.named.new.self c.named.result c.named.ensures
