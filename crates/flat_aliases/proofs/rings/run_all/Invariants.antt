use Rattle.std.proofs.Common.{ℕ, ◌<◌}
use Rattle.flat_aliases.specs.declared.rings.Mark.TheVariants.{New}
use Rattle.flat_aliases.specs.Walks.{IsResting, IsMarked}
use Rattle.flat_aliases.proofs.rings.run_all.Given as goal

abbrev pub invariant-loop-place : goal.invariant-loop-place
invariant-loop-place l = record {
  rest : IsResting l.links l.places l.walk;
  seen : (k : ℕ) → k < l.place → IsMarked l.walk.marks.items k New → ⊥;
}
