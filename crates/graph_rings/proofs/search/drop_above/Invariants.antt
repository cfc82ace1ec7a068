use Rattle.std.proofs.Common.{◌≤◌, ℕ, vec_len}
use Rattle.std.specs.List.{Contains}
use Rattle.graph_rings.specs.Search.{Rises}
use Rattle.graph_rings.proofs.search.drop_above.Given as goal

abbrev pub invariant-loop-base : goal.invariant-loop-base
invariant-loop-base l = record {
  rises : Rises l.bases.items;
  fewer : (base : ℕ) → Contains l.bases.items base → Contains l.initial.bases.items base;
  kept : (base : ℕ) → Contains l.initial.bases.items base → base ≤ l.limit → Contains l.bases.items base;
}

abbrev pub decreases-loop-base : goal.decreases-loop-base
decreases-loop-base l = vec_len l.bases
