use Rattle.std.proofs.Common.{ℕ, List, subst, arith}
use Rattle.flat_aliases.specs.Walks.{IsWalkOf}
use Rattle.flat_aliases.proofs.Walking.{no_ring}
use Rattle.flat_aliases.proofs.rings.run_all.Goals as goal

pub returns-clause-no_ring : goal.returns-clause-no_ring
returns-clause-no_ring c =
    no_ring c.args.links.now c.args.places c.loop-place.walk.marks.items c.loop-place.walk.cursors.items c.requires.inside
    (subst (λ (ps : List ℕ). IsWalkOf c.args.links.now c.args.places c.loop-place.walk.marks.items c.loop-place.walk.cursors.items ps) c.loop-place.invariant.rest.empty c.loop-place.invariant.rest.is_walk.is_walk)
    (λ k l. c.loop-place.invariant.seen k (omega (arith, l)))
