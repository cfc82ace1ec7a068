use Rattle.std.proofs.Common.{take}
use Rattle.std.specs.List.{AllZip}
use Rattle.bind_forms.specs.Binds.{BindsModuleAt}
use Rattle.verilog_bind.specs.Sound.{setting_in}
use Rattle.verilog_bind.proofs.binder.Binder.bind_all.Given as goal

abbrev pub invariant-loop-at : goal.invariant-loop-at
invariant-loop-at l = AllZip (BindsModuleAt (setting_in l.self) l.self.places.now) (take l.at-index l.self.places.now) l.modules
