use Rattle.std.proofs.Common.{◌≡◌, map, take, drop, Some}
use Rattle.env_table.specs.Binding.{missing_fault}
use Rattle.env_table.proofs.bind.all_uses.Given as goal

abbrev pub invariant-loop-place : goal.invariant-loop-place
invariant-loop-place l = (map Some l.all ≡ take l.place l.uses) × (missing_fault l.ports l.uses ≡ missing_fault (drop l.place l.ports) (drop l.place l.uses))
