use Rattle.std.proofs.Common.{◌≡◌, take, map}
use Rattle.flat_places.specs.Rounds.{module_size}
use Rattle.flat_places.proofs.size.sizes_of_modules.Given as goal

abbrev pub invariant-loop-owner : goal.invariant-loop-owner
invariant-loop-owner l = l.sizes.items ≡ map (module_size l.below) (take l.owner-index l.modules)
