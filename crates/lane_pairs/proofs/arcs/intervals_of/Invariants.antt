use Rattle.std.proofs.Common.{take}
use Rattle.rsfq_ids.specs.Design.{design_of}
use Rattle.lane_pairs.specs.Arcs.{HaveIntervals}
use Rattle.lane_pairs.proofs.arcs.intervals_of.Given as goal

abbrev pub invariant-loop-arc : goal.invariant-loop-arc
invariant-loop-arc l = HaveIntervals (design_of l.table l.flat l.bench) (take l.arc-index l.arcs) l.intervals.items
