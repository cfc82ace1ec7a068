use Rattle.std.proofs.Common.{◌∙◌, List, map, sym, ap}
use Rattle.std.proofs.lemmas.List.{take_all}
use Rattle.verilog_tree.specs.declared.tree.Module.{Module}
use Rattle.verilog_tree.specs.Views.{view_module}
use Rattle.bind_sites.specs.Sites.{sites}
use Rattle.bind_kinds.proofs.Zips.{map_map}
use Rattle.bind_kinds.proofs.make.sites_of.Goals as goal

pub returns : goal.returns
returns c =
    c.loop-module.invariant ∙ (ap (λ (l : List Module). map (λ owner. sites (view_module owner)) l) (take_all c.loop-module.module-index c.as_slice-module-items.result.now c.loop-module-test.false ∙ c.as_slice-module-items.ensures)
    ∙ sym (map_map sites view_module c.args.source.now.modules))
