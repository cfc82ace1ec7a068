use Rattle.std.proofs.Common.{◌∙◌, ◌+◌, List, take, sym, subst}
use Rattle.std.specs.List.{AllZip}
use Rattle.std.proofs.lemmas.List.{take_all}
use Rattle.verilog_tree.specs.declared.tree.Module.{Module}
use Rattle.verilog_tree.specs.Views.{view_module}
use Rattle.name_table.specs.declared.places.FirstNames.{FirstNames}
use Rattle.bind_kinds.specs.Netlist.{ArePortsOf}
use Rattle.bind_kinds.proofs.Zips.{zip_more, zip_seen}
use Rattle.bind_kinds.proofs.Made.{HavePorts}
use Rattle.bind_kinds.proofs.make.ports_of.Goals as goal

pub loop-module-preserved : goal.loop-module-preserved
loop-module-preserved c =
    let items = c.as_slice-module-items.result.now in
    subst (λ (ports : List FirstNames). AllZip HavePorts (take (c.loop-module.module-index + 1) items) ports) (sym {A = List FirstNames} c.in_ok-push.ensures.items)
    (zip_more HavePorts items c.loop-module.module-index c.loop-module.ports.items c.module-item.result c.in_ok-head_places.field-0 c.loop-module-test.true c.module-item.is c.loop-module.invariant c.in_ok-head_places.ensures)

pub returns : goal.returns
returns c =
    zip_seen view_module ArePortsOf c.args.source.now.modules c.loop-module.ports.items
    (subst (λ (l : List Module). AllZip HavePorts l c.loop-module.ports.items) (take_all c.loop-module.module-index c.as_slice-module-items.result.now c.loop-module-test.false ∙ c.as_slice-module-items.ensures) c.loop-module.invariant)
