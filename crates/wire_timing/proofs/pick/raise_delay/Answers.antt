use Rattle.std.proofs.Common.{arith}
use Rattle.std.proofs.lemmas.Int.{ints, clamps}
use Rattle.wire_timing.proofs.pick.raise_delay.Goals as goal

pub returns-clause-delay : goal.returns-clause-delay
returns-clause-delay c = let e = c.min-raised.ensures.value in omega (arith, ints, clamps)

pub returns-clause-left : goal.returns-clause-left
returns-clause-left c = let e = c.min-raised.ensures.value in omega (arith, ints, clamps)
