use Rattle.std.proofs.Common.{map, length}
use Rattle.verilog_tree.specs.Reading.{with_front, many}
use Rattle.verilog_tree.specs.Parsing.{item}
use Rattle.verilog_tree.specs.Words.{begins_item}
use Rattle.verilog_tree.specs.Views.{view_item}
use Rattle.verilog_tree.proofs.Loop.{SoFar}
use Rattle.verilog_tree.proofs.reader.Reader.more_items.Given as goal

abbrev pub invariant-more : goal.invariant-more
invariant-more l = SoFar (begins_item) item (map view_item l.all) l.self (with_front (map view_item l.fn.front) (many (begins_item) item (length l.fn.self) l.fn.self))

abbrev pub decreases-more : goal.decreases-more
decreases-more l = length l.self
