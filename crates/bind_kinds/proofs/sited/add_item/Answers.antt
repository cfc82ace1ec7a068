use Rattle.std.proofs.Common.{◌++◌, sym, subst}
use Rattle.std.specs.List.{AllZip}
use Rattle.verilog_tree.specs.declared.tree.Item.{Item}
use Rattle.verilog_tree.specs.Views.{view_item}
use Rattle.bind_hierarchy.specs.Modules.{Means}
use Rattle.bind_kinds.specs.Meanings.{instance_kinds}
use Rattle.bind_kinds.proofs.Laid.{after, item_adds}
use Rattle.bind_kinds.proofs.sited.add_item.Goals as goal

pub returns-in-Instances : goal.returns-in-Instances
returns-in-Instances c =
    after c.add_times.result c.add_times.ensures
    (λ pushed modules table before kinds zip. subst (λ (i : Item). AllZip (Means modules table) (before ++ instance_kinds (view_item i)) c.add_times.new.meanings) (sym c.in-Instances.is)
    (item_adds (Means modules table) c.in-Instances.kind c.as_str.result.now c.meaning.result c.in-Instances.instances c.len.result before c.args.meanings.now c.add_times.new.meanings c.as_str.ensures c.len.ensures
    (c.meaning.ensures modules table kinds) zip pushed))
