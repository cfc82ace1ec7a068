use Rattle.bind_names.specs.Scoped.{sites_of}
use Rattle.bind_names.specs.Linked.{AreLinked, HasNoPortTwice}
use Rattle.bind_names.proofs.scope.Scope.port_twice.Given as goal

abbrev pub invariant-loop-at : goal.invariant-loop-at
invariant-loop-at l = AreLinked (sites_of l.self) l.at l.linked × HasNoPortTwice (sites_of l.self) l.at
