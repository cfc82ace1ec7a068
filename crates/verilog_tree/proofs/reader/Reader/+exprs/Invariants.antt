use Rattle.std.proofs.Common.{map, length, ◌+◌, ◌*◌}
use Rattle.verilog_tree.specs.Reading.{with_front}
use Rattle.verilog_tree.specs.Parsing.{expr, behind_comma, more_commas}
use Rattle.verilog_tree.specs.Words.{is_mark}
use Rattle.verilog_tree.specs.Views.{view_expr}
use Rattle.verilog_tree.proofs.Loop.{SoFar}
use Rattle.verilog_tree.proofs.reader.Reader.+exprs.Given as goal

abbrev pub decreases-expr : goal.decreases-expr
decreases-expr l = 4 * l.depth

abbrev pub decreases-next_expr : goal.decreases-next_expr
decreases-next_expr l = 4 * l.depth + 1

abbrev pub decreases-more_exprs : goal.decreases-more_exprs
decreases-more_exprs l = 4 * l.depth + 2

abbrev pub decreases-braces : goal.decreases-braces
decreases-braces l = 4 * l.depth + 3

abbrev pub invariant-more_exprs-more : goal.invariant-more_exprs-more
invariant-more_exprs-more l = SoFar (is_mark 44) (behind_comma (λ ts. expr l.depth ts)) (map view_expr l.parts.items) l.self (with_front (map view_expr l.fn.front.items) (more_commas (λ ts. expr l.depth ts) l.fn.self))

abbrev pub decreases-more_exprs-more : goal.decreases-more_exprs-more
decreases-more_exprs-more l = length l.self
