use Rattle.std.proofs.Common.{take}
use Rattle.std.specs.List.{AllZip, filter_map}
use Rattle.bind_forms.specs.Binds.{BindsInstance}
use Rattle.verilog_bind.specs.Listed.{instance_of}
use Rattle.verilog_bind.specs.Numbered.{sites_in}
use Rattle.verilog_bind.specs.Sound.{setting_in}
use Rattle.verilog_bind.proofs.binder.Binder.instances.Given as goal

abbrev pub invariant-loop-at : goal.invariant-loop-at
invariant-loop-at l = AllZip (BindsInstance (setting_in l.self) l.self.places.now l.wires.list) (filter_map instance_of (take l.at (sites_in l.wires))) l.bound
