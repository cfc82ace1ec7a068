use Rattle.std.proofs.Common.{ap}
use Rattle.flat_places.specs.Hierarchy.{module_of}
use Rattle.flat_places.proofs.size.size_of_kind.Goals as goal

pub bounds-below-at : goal.bounds-below-at
bounds-below-at c = c.requires c.in-Module.at (ap module_of c.in-Module.is)
