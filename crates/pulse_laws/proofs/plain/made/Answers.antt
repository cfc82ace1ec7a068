use Rattle.std.proofs.Common.{◌≤◌, ◌^◌, length, arith}
use Rattle.std.proofs.Math.Pow.{pow_mono}
use Rattle.pulse_laws.proofs.plain.made.Goals as goal

pub overflow_shr-result : goal.overflow_shr-result
overflow_shr-result c =
    let bound : 2 ^ length c.args.bits.now ≤ 2 ^ 4 = pow_mono {i = length c.args.bits.now} {j = 4} c.requires in
    omega arith
