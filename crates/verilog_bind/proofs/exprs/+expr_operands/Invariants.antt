use Rattle.std.proofs.Common.{◌≡◌, ◌++◌, take, map}
use Rattle.std.specs.List.{flat_map}
use Rattle.verilog_tree.specs.Views.{view_expr}
use Rattle.bind_sites.specs.Sites.{operands}
use Rattle.bind_sites.specs.View.{view_operand}
use Rattle.verilog_bind.proofs.exprs.+expr_operands.Given as goal

abbrev pub invariant-add_joined-loop-expr : goal.invariant-add_joined-loop-expr
invariant-add_joined-loop-expr l = map view_operand l.found.items ≡ map view_operand l.fn.found.items ++ flat_map (λ expr. operands (view_expr expr)) (take l.expr-index l.all)
