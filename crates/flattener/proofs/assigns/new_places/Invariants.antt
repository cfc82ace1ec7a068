use Rattle.std.proofs.Common.{◌≡◌, ◌++◌, take, drop}
use Rattle.std.specs.List.{flat_map, enumerate_from}
use Rattle.flat_places.specs.Assigns.{new_place, new_places}
use Rattle.flattener.proofs.Fresh.{HasSeen}
use Rattle.flattener.proofs.assigns.new_places.Given as goal

abbrev pub invariant-loop-at : goal.invariant-loop-at
invariant-loop-at l = record {
  seen : HasSeen (take l.at l.assigns) l.seen;
  places : l.places ++ flat_map (new_place l.assigns) (enumerate_from l.at (drop l.at l.assigns)) ≡ new_places l.assigns;
}
