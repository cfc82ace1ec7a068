use Rattle.flat_aliases.specs.Nets.{IsDone}
use Rattle.flat_aliases.proofs.spread.spread_all.Given as goal

abbrev pub invariant-loop-driver : goal.invariant-loop-driver
invariant-loop-driver l = IsDone l.net l.driver l.spread
