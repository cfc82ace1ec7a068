use Rattle.std.proofs.Common.{◌≡◌, drop}
use Rattle.env_table.specs.Binding.{strobe_fault}
use Rattle.env_table.proofs.bind.check_strobes.Given as goal

abbrev pub invariant-loop-place : goal.invariant-loop-place
invariant-loop-place l = strobe_fault l.env.period l.ports l.uses ≡ strobe_fault l.env.period (drop l.place l.ports) (drop l.place l.uses)
