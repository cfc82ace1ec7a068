use Rattle.std.proofs.Common.{take}
use Rattle.verilog_tree.specs.Views.{view_expr}
use Rattle.bind_names.specs.Scoped.{sites_of}
use Rattle.bind_faults.proofs.Measures.{held, all_held}
use Rattle.bind_faults.proofs.Sums.{IsSum}
use Rattle.bind_faults.proofs.widths.+sum_widths.Given as goal

abbrev pub decreases-expr_width : goal.decreases-expr_width
decreases-expr_width l = held (view_expr l.expr.now)

abbrev pub decreases-joined_width : goal.decreases-joined_width
decreases-joined_width l = all_held l.parts.now

abbrev pub invariant-joined_width-loop-part : goal.invariant-joined_width-loop-part
invariant-joined_width-loop-part l = IsSum (sites_of l.scope) (take l.part-index l.parts) l.width
