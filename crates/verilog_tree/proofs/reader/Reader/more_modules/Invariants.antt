use Rattle.std.proofs.Common.{map, length}
use Rattle.verilog_tree.specs.Reading.{with_front, many}
use Rattle.verilog_tree.specs.Parsing.{module_of}
use Rattle.verilog_tree.specs.Words.{next_is, key_of}
use Rattle.verilog_tree.specs.declared.lexeme.Keyword.TheVariants as key
use Rattle.verilog_tree.specs.Views.{view_module}
use Rattle.verilog_tree.proofs.Loop.{SoFar}
use Rattle.verilog_tree.proofs.reader.Reader.more_modules.Given as goal

abbrev pub invariant-more : goal.invariant-more
invariant-more l = SoFar (next_is (key_of key.Module)) module_of (map view_module l.all) l.self (with_front (map view_module l.fn.front) (many (next_is (key_of key.Module)) module_of (length l.fn.self) l.fn.self))

abbrev pub decreases-more : goal.decreases-more
decreases-more l = length l.self
