use Rattle.flat_places.specs.Sizes.{AreSizes}
use Rattle.flat_places.proofs.size.sizes_of.Given as goal

abbrev pub invariant-loop-level : goal.invariant-loop-level
invariant-loop-level l = AreSizes l.bound l._level l.sizes.items
