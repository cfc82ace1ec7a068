use Rattle.std.proofs.Common.{ap}
use Rattle.flat_places.specs.Hierarchy.{module_of}
use Rattle.flat_names.proofs.begins.kind_bits.Goals as goal

pub bounds-sizes-at : goal.bounds-sizes-at
bounds-sizes-at c = c.requires c.in-Module.at (ap module_of c.in-Module.is)
