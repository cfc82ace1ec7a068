use Rattle.std.proofs.Common.{◌≡◌, take}
use Rattle.std.specs.List.{filter_map}
use Rattle.verilog_tree.specs.Views.{view_item}
use Rattle.bind_hierarchy.specs.Kinds.{inner_of}
use Rattle.bind_hierarchy.proofs.graph.list_inner.Given as goal

abbrev pub invariant-loop-item : goal.invariant-loop-item
invariant-loop-item l = l.inner ≡ filter_map (λ item. inner_of l.names (view_item item)) (take l.item-index l.item-items)
