use Rattle.std.proofs.Common.{w64, of_z, to_z, arith}
use Rattle.std.proofs.lemmas.Int.{ints, to_z-of_z}
use Rattle.wire_timing.proofs.Casts.{steps_are}
use Rattle.wire_timing.proofs.window.count_steps.Goals as goal

pub returns : goal.returns
returns c = steps_are c.args.period c.args.strobe c.args.high (to_z w64 (of_z w64 c.shift_pulse.result)) (to_z w64 (of_z w64 c.args.period)) c.whole_periods.result
    (omega (arith, ints)) (to_z-of_z w64 c.args.period c.ranges.period) c.whole_periods.ensures.from c.whole_periods.ensures.below
