use Rattle.std.proofs.Common.{◌≡◌}
use Rattle.std.specs.Prelude.{replicate}
use Rattle.golden_tests.proofs.graphs.make_constants.Given as goal

abbrev pub invariant-loop : goal.invariant-loop
invariant-loop l = l.literals ≡ replicate l.counter 0
