use Rattle.flat_aliases.specs.Spreads.{IsClosed, work_of}
use Rattle.flat_aliases.specs.Nets.{IsOnItsWay, HasStarted}
use Rattle.flat_aliases.proofs.spread.run.Given as goal

abbrev pub invariant-along : goal.invariant-along
invariant-along l = record {
  spreading : IsOnItsWay l.net l.driver l.spread;
  closed : IsClosed l.net.links.now l.driver l.spread;
  started : HasStarted l.net l.driver l.spread;
}

abbrev pub decreases-along : goal.decreases-along
decreases-along l = work_of l.spread
