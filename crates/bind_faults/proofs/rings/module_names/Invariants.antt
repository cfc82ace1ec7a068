use Rattle.std.proofs.Common.{take}
use Rattle.std.specs.List.{AllZip}
use Rattle.bind_forms.specs.Modules.{IsModuleNamed}
use Rattle.bind_kinds.specs.Netlist.{setting_of}
use Rattle.bind_faults.proofs.rings.module_names.Given as goal

abbrev pub invariant-loop-at : goal.invariant-loop-at
invariant-loop-at l = AllZip (IsModuleNamed (setting_of l.netlist)) (take l.at-index l.places) l.names
