use Rattle.std.proofs.Common.{arith}
use Rattle.std.proofs.lemmas.Int.{ints}
use Rattle.wire_timing.proofs.window.shift_pulse.Goals as goal

pub returns : goal.returns
returns c = omega (arith, ints)
