use Rattle.lane_forest.specs.Forest.{AreBehind, AreGatesBehind}
use Rattle.lane_forest.proofs.forest.Forest.extend_all.Given as goal

abbrev pub invariant-loop-lane : goal.invariant-loop-lane
invariant-loop-lane l = record { lanes : AreBehind l.initial.self l.self l.fn.from l.lane l.last l.delay.low l.delay.high; gates : AreGatesBehind l.initial.self l.self l.fn.from l.lane l.last l.gated }
