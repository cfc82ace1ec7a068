use Rattle.bind_kinds.specs.Netlist.{setting_of}
use Rattle.bind_faults.proofs.NoTops.{no_free_top, two_tops}
use Rattle.bind_faults.proofs.tops.find_free_top.Goals as goal

pub returns-in-Err-NoTop : goal.returns-in-Err-NoTop
returns-in-Err-NoTop c =
    let setting = setting_of c.args.netlist.now in
    no_free_top setting (rw c.requires.unnamed) (rw c.in-Err-NoTop.field-0-is at (c.in-Err-NoTop.ensures setting.modules c.requires.graph))

pub returns-in_ok-module_name-in-Err-TwoTops-2 : goal.returns-in_ok-module_name-in-Err-TwoTops-2
returns-in_ok-module_name-in-Err-TwoTops-2 c =
    let setting = setting_of c.args.netlist.now in
    two_tops setting (rw c.requires.unnamed) c.in-Err-TwoTops.first c.in-Err-TwoTops.second (rw c.in-Err-TwoTops.field-0-is at (c.in-Err-TwoTops.ensures setting.modules c.requires.graph))
    c.in_ok-module_name-in-Err-TwoTops.field-0 c.in_ok-module_name-in-Err-TwoTops-2.field-0 c.in_ok-module_name-in-Err-TwoTops.ensures c.in_ok-module_name-in-Err-TwoTops-2.ensures
