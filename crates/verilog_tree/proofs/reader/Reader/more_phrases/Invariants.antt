use Rattle.std.proofs.Common.{map, length}
use Rattle.verilog_tree.specs.Reading.{with_front}
use Rattle.verilog_tree.specs.Parsing.{behind_comma, more_commas}
use Rattle.verilog_tree.specs.Words.{is_mark}
use Rattle.verilog_tree.proofs.Loop.{SoFar}
use Rattle.verilog_tree.proofs.reader.Reader.more_phrases.Given as goal

abbrev pub invariant-more : goal.invariant-more
invariant-more g l = SoFar (is_mark 44) (behind_comma g.P.Phrase.reading) (map g.P.Phrase.view l.all) l.self (with_front (map g.P.Phrase.view l.fn.front) (more_commas g.P.Phrase.reading l.fn.self))

abbrev pub decreases-more : goal.decreases-more
decreases-more g l = length l.self
