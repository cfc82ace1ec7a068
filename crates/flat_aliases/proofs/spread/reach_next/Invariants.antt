use Rattle.std.proofs.Common.{ℕ}
use Rattle.flat_aliases.specs.Threads.{IsLastFrom, left_of}
use Rattle.flat_aliases.specs.Spreads.{GoesOn, AreSettledFrom}
use Rattle.flat_aliases.specs.Nets.{IsOnItsWay}
use Rattle.flat_aliases.proofs.spread.reach_next.Given as goal

abbrev pub invariant-along : goal.invariant-along
invariant-along l = record {
  spreading : IsOnItsWay l.net l.driver l.spread;
  on : GoesOn l.driver l.initial.spread l.spread;
  next : (high : ℕ) × IsLastFrom l.net.links.now l.place high l.cursor × AreSettledFrom l.net.links.now l.spread.held.items l.driver l.place high;
}

abbrev pub decreases-along : goal.decreases-along
decreases-along l = left_of l.cursor
