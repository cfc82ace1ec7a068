use Rattle.std.proofs.Common.{◌≡◌, take, map}
use Rattle.verilog_tree.specs.Views.{view_module}
use Rattle.bind_hierarchy.specs.Kinds.{inner_modules}
use Rattle.bind_hierarchy.proofs.graph.module_graph.Given as goal

abbrev pub invariant-loop-module : goal.invariant-loop-module
invariant-loop-module l = l.graph.items ≡ map (λ holder. inner_modules l.kinds.modules (view_module holder)) (take l.module-index l.module-items)
