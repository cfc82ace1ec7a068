use Rattle.std.proofs.Common.{◌≡◌, drop}
use Rattle.dimacs_text.specs.Reading.{with_literals, once}
use Rattle.dimacs_text.proofs.clauses.once_by_scan.Given as goal

abbrev pub invariant-loop-lit : goal.invariant-loop-lit
invariant-loop-lit l = with_literals l.clause (drop l.lit-index l.lits) ≡ once l.lits
