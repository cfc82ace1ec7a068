use Rattle.bind_kinds.specs.Netlist.{setting_of}
use Rattle.bind_faults.proofs.NoTops.{no_named_top}
use Rattle.bind_faults.proofs.tops.find_top.Goals as goal

pub returns-in-None-named_top : goal.returns-in-None-named_top
returns-in-None-named_top c =
    let setting = setting_of c.args.netlist.now in
    no_named_top setting c.in-Some.name.now (rw c.in-Some.is) (c.in-None-named_top.ensures setting.modules setting.table c.requires.told.is_netlist.kinds)
