use Rattle.std.proofs.Common.{◌≡◌, ◌∙◌, ℕ, List, map, length, take, sym, ap, subst}
use Rattle.std.proofs.lemmas.List.{take_all}
use Rattle.verilog_tree.specs.declared.tree.Module.{Module}
use Rattle.verilog_tree.specs.Views.{view_module, view_source}
use Rattle.bind_hierarchy.specs.Kinds.{inner_modules}
use Rattle.bind_hierarchy.specs.Graph.{IsModuleGraph}
use Rattle.bind_hierarchy.proofs.Inner.{map_map, graphed}
use Rattle.bind_hierarchy.proofs.graph.module_graph.Goals as goal

pub returns-clause-rows : goal.returns-clause-rows
returns-clause-rows c =
    let names = c.args.kinds.now.modules in
    c.loop-module.invariant ∙ (ap (λ (l : List Module). map (λ holder. inner_modules names (view_module holder)) l) (take_all c.loop-module.module-index c.as_slice-module-items.result.now c.loop-module-test.false ∙ c.as_slice-module-items.ensures)
    ∙ sym (map_map (inner_modules names) view_module c.args.source.now.modules))

pub returns-clause-graph : goal.returns-clause-graph
returns-clause-graph c = λ table k.
    let names = c.args.kinds.now.modules in
    let rows : c.loop-module.graph.items ≡ map (inner_modules names) (view_source c.args.source.now) =
    c.loop-module.invariant ∙ (ap (λ (l : List Module). map (λ holder. inner_modules names (view_module holder)) l) (take_all c.loop-module.module-index c.as_slice-module-items.result.now c.loop-module-test.false ∙ c.as_slice-module-items.ensures)
    ∙ sym (map_map (inner_modules names) view_module c.args.source.now.modules)) in
    subst (λ (l : List (List ℕ)). IsModuleGraph (view_source c.args.source.now) l) (sym rows) (graphed (view_source c.args.source.now) names k.modules_are)
