use Rattle.std.proofs.Common.{◌≡◌, ℕ, drop}
use Rattle.std.specs.List.{list_any}
use Rattle.std.specs.Prelude.{◌==◌}
use Rattle.std.specs.Ordering.{nat_cmp}
use Rattle.std.specs.BTreeSet.{contains}
use Rattle.dimacs_text.specs.Reading.{with_literals, once}
use Rattle.dimacs_text.proofs.clauses.once_by_set.Given as goal

abbrev pub invariant-loop-lit : goal.invariant-loop-lit
invariant-loop-lit l = record {
  rest : with_literals l.clause (drop l.lit-index l.lits) ≡ once l.lits;
  seen : (k : ℕ) → contains nat_cmp l.seen k ≡ list_any (λ other. k == other) l.clause;
}
