use Rattle.std.proofs.Common.{take}
use Rattle.env_table.specs.Groups.{AreNamesOf}
use Rattle.env_table.proofs.bit_names.BitNames.of.Given as goal

abbrev pub invariant-loop-place : goal.invariant-loop-place
invariant-loop-place l = AreNamesOf (take l.place l.ports) l.names
