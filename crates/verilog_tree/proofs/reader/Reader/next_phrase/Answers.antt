use Rattle.verilog_tree.proofs.Shorter.{less_then}
use Rattle.verilog_tree.proofs.reader.Reader.next_phrase.Goals as goal

pub returns-clause-less : goal.returns-clause-less
returns-clause-less g c = less_then c.args.self.now c.mark.new.self c.read.new.reader c.read.result c.in_ok-mark.ensures c.read.ensures.stays
