use Rattle.std.proofs.Common.{◌≡◌, ◌∙◌, ◌<◌, ℕ, List, [], map, length, sym, ap, arith, subst, get_or}
use Rattle.name_table.specs.Places.{place_of}
use Rattle.verilog_tree.specs.declared.tree.Module.{Module}
use Rattle.verilog_tree.specs.Views.{view_module}
use Rattle.std.proofs.lemmas.List.{length-map}
use Rattle.bind_hierarchy.specs.Names.{module_names}
use Rattle.bind_hierarchy.proofs.Firsts.{module_name_at, seen_next}
use Rattle.bind_hierarchy.proofs.kinds.index_modules.Goals as goal

pub loop-place-preserved : goal.loop-place-preserved
loop-place-preserved c =
    let modules = c.args.source.now.modules in
    let near : c.loop-place.place < length modules = subst (λ (l : List Module). c.loop-place.place < length l) c.as_slice-module-items.ensures c.loop-place-test.true in
    let item_is : c.module-item.result ≡ get_or modules c.loop-place.place c.module-item.result = subst (λ (l : List Module). c.module-item.result ≡ get_or l c.loop-place.place c.module-item.result) c.as_slice-module-items.ensures c.module-item.is in
    let name_is : get_or (module_names (map view_module modules)) c.loop-place.place [] ≡ c.as_str.result.now = module_name_at modules c.loop-place.place c.module-item.result near item_is ∙ sym c.as_str.ensures in
    seen_next (module_names (map view_module modules)) c.loop-place.place c.as_str.result.now (place_of c.loop-place.names) (place_of c.see.new.self)
    (omega (arith, near, length-map modules view_module, length-map (map view_module modules) (λ m. m.name))) name_is c.loop-place.invariant c.in_ok-see.ensures.seen
