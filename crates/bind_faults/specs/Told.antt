-- What is looked at.
use Rattle.std.specs.List.{AllZip}
use Rattle.bind_kinds.specs.declared.netlist.Netlist.{Netlist}
use Rattle.bind_kinds.specs.Netlist.{IsNetlist, setting_of}
use Rattle.bind_kinds.specs.Ports.{HasFirstDouble}

-- what is bound, with the first name in each module that is given twice
pub record IsTold (netlist : Netlist) : Type 0 where
  pub is_netlist : IsNetlist netlist
  pub doubles : AllZip HasFirstDouble (setting_of netlist).modules netlist.scopes.now
