use Rattle.std.proofs.Common.{◌≡◌, ◌++◌, map, drop}
use Rattle.flattener.specs.Shape.{numbered_name}
use Rattle.flattener.proofs.shape.Shape.wire_names.Given as goal

abbrev pub invariant-loop-place : goal.invariant-loop-place
invariant-loop-place l = l.names ++ map (numbered_name l.self.source.bound.now) (drop l.place-index l.places) ≡ map (numbered_name l.self.source.bound.now) l.places
