use Rattle.std.proofs.Common.{◌≡◌, length}
use Rattle.golden_tests.proofs.graphs.make_entries.Given as goal

abbrev pub invariant-loop-name : goal.invariant-loop-name
invariant-loop-name l = length l.entries ≡ l.name-index
