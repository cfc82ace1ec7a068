use Rattle.std.proofs.Common.{◌≡◌, ◌++◌, drop}
use Rattle.std.specs.List.{flat_map, enumerate_from}
use Rattle.flattener.specs.Solid.{solid_place, solid_places}
use Rattle.flattener.proofs.solid.solid_places.Given as goal

abbrev pub invariant-loop-at : goal.invariant-loop-at
invariant-loop-at l = l.places ++ flat_map (solid_place l.sizes) (enumerate_from l.at (drop l.at l.instances)) ≡ solid_places l.sizes l.instances
