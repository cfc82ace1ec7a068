use Rattle.std.proofs.Common.{take}
use Rattle.std.specs.List.{AllZip}
use Rattle.bind_kinds.proofs.Made.{HavePorts}
use Rattle.bind_kinds.proofs.make.ports_of.Given as goal

abbrev pub invariant-loop-module : goal.invariant-loop-module
invariant-loop-module l = AllZip HavePorts (take l.module-index l.module-items) l.ports.items
