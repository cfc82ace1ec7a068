use Rattle.std.proofs.Common.{◌∙◌, map, ap}
use Rattle.bind_sites.specs.View.{view_site}
use Rattle.verilog_tree.specs.Views.{view_module, view_item}
use Rattle.bind_forms.specs.Modules.{setting}
use Rattle.bind_kinds.proofs.Laid.{module_meant}
use Rattle.bind_kinds.proofs.sited.module_meanings.Goals as goal

pub returns : goal.returns
returns c = λ modules table top kinds.
    module_meant (setting modules table top) (view_module c.args.owner.now) c.as_slice.result.now (map view_site c.as_slice-2.result.now) c.in_ok-instances.instances c.as_slice-3.result.now c.in_ok-meanings.meanings (ap (map view_item) c.as_slice.ensures)
    (c.as_slice-2.ensures ∙ c.requires) c.as_slice-3.ensures (c.in_ok-instances.ensures modules table kinds) (c.in_ok-meanings.ensures (setting modules table top))
