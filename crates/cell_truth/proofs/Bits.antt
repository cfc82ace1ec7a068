-- Rows of a truth table as numbers, and their bits.
use Rattle.std.proofs.Common.{◌<◌, ◌≤◌, ◌^◌, ℕ, arith}
use Rattle.std.proofs.Math.Pow.{pow_mono}

pub below_sixteen : (pins row : ℕ) → pins ≤ 4 → row < 2 ^ pins → row < 16
below_sixteen pins row few small = let bound : 2 ^ pins ≤ 2 ^ 4 = pow_mono {i = pins} {j = 4} few in omega arith
