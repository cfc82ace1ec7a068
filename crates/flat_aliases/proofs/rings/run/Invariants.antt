use Rattle.flat_aliases.specs.Walks.{IsWalk, StaysSeen, left_to_walk}
use Rattle.flat_aliases.proofs.rings.run.Given as goal

abbrev pub invariant-along : goal.invariant-along
invariant-along l = record {
  is_walk : IsWalk l.links l.places l.walk;
  seen : StaysSeen l.initial.walk.marks.items l.walk.marks.items;
}

abbrev pub decreases-along : goal.decreases-along
decreases-along l = left_to_walk l.walk
