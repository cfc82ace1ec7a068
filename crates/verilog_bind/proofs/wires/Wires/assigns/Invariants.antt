use Rattle.std.proofs.Common.{take}
use Rattle.std.specs.List.{AllZip, filter_map}
use Rattle.bind_forms.specs.Binds.{BindsAssign}
use Rattle.verilog_bind.specs.Listed.{assign_of}
use Rattle.verilog_bind.specs.Numbered.{sites_in}
use Rattle.verilog_bind.proofs.wires.Wires.assigns.Given as goal

abbrev pub invariant-loop-at : goal.invariant-loop-at
invariant-loop-at l = AllZip (BindsAssign l.self.list) (filter_map assign_of (take l.at (sites_in l.self))) l.assigns
