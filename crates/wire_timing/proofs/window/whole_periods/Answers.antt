use Rattle.std.proofs.Common.{w64, of_z, to_z, arith}
use Rattle.std.proofs.lemmas.Int.{ints, to_z-of_z}
use Rattle.wire_timing.proofs.Casts.{cast_fits, quotient}
use Rattle.wire_timing.proofs.window.whole_periods.Goals as goal

pub overflow_cast-result : goal.overflow_cast-result
overflow_cast-result c = cast_fits (to_z w64 (of_z w64 c.args.time)) (omega (arith, ints)) (omega (arith, ints))

pub returns : goal.returns
returns c =
    let d = quotient c.args.time c.args.period (to_z w64 (of_z w64 c.args.time)) (to_z w64 (of_z w64 c.args.period)) (to_z-of_z w64 c.args.time c.ranges.time) (to_z-of_z w64 c.args.period c.ranges.period) c.requires.time.from c.requires.period.from in
    record { from = d.0; below = d.1 }
