use Rattle.std.proofs.Common.{◌≤◌, ◌^◌, arith}
use Rattle.std.proofs.Math.Pow.{pow_mono}
use Rattle.cell_truth.proofs.truth.row_count.Goals as goal

pub returns : goal.returns
returns c = let bound : 2 ^ c.args.pins ≤ 2 ^ 4 = pow_mono {i = c.args.pins} {j = 4} c.requires in omega arith
