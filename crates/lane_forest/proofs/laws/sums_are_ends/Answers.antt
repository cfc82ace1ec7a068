use Rattle.std.proofs.Common.{sym}
use Rattle.lane_forest.proofs.Spreading.{sums_within, may_least, may_greatest}
use Rattle.lane_forest.proofs.laws.sums_are_ends.Goals as goal

pub returns : goal.returns
returns c design arcs low high sums =
    (λ delays may. sums_within design arcs low high delays sums may, (sums.lows, may_least design arcs sums.lows sums.least, sym sums.low_is), (sums.highs, may_greatest design arcs sums.highs sums.greatest, sym sums.high_is))
