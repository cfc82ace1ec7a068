use Rattle.std.proofs.Common.{◌∙◌, sym, ap}
use Rattle.std.specs.Option.{option_map}
use Rattle.std.proofs.lemmas.Option.{slice_get-map}
use Rattle.verilog_tree.specs.Views.{view_module}
use Rattle.bind_kinds.specs.Netlist.{setting_of}
use Rattle.bind_faults.proofs.OneTop.{named_by}
use Rattle.bind_faults.proofs.FirstDoubles.{no_kind, first_kind, kind_there}
use Rattle.bind_faults.proofs.doubles.kind_twice.Goals as goal

pub returns-in_default : goal.returns-in_default
returns-in_default c = no_kind (setting_of c.args.netlist.now) (c.in_default.ensures (setting_of c.args.netlist.now).table c.requires.is_netlist.kinds)

pub returns-in_ok-of-in-Some-get : goal.returns-in_ok-of-in-Some-get
returns-in_ok-of-in-Some-get c =
    let setting = setting_of c.args.netlist.now in
    first_kind setting c.in-Some.at c.in_ok-of-in-Some-get.field-0 (c.in-Some.ensures setting.table c.requires.is_netlist.kinds)
    (named_by c.args.netlist.now.source.now.modules c.in-Some.at c.in-Some-get.module.now c.in_ok-of-in-Some-get.field-0 (sym c.in-Some-get.ensures) (c.in_ok-of-in-Some-get.ensures ∙ c.as_str.ensures))

pub returns-in-None : goal.returns-in-None
returns-in-None c =
    let setting = setting_of c.args.netlist.now in
    let modules = c.args.netlist.now.source.now.modules in
    absurd (kind_there setting c.in-Some.at (slice_get-map view_module modules c.in-Some.at ∙ ap (option_map view_module) (sym c.in-None.ensures)) (c.in-Some.ensures setting.table c.requires.is_netlist.kinds))
