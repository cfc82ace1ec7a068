use Rattle.std.proofs.Common.{ap}
use Rattle.bind_forms.specs.declared.bound.BoundKind.{BoundKind}
use Rattle.flat_places.specs.Hierarchy.{module_of}
use Rattle.flattener.proofs.solid.is_solid.Goals as goal

pub bounds-sizes-at : goal.bounds-sizes-at
bounds-sizes-at c = c.requires c.in-Module.at (ap (λ (k : BoundKind). module_of k) c.in-Module.is)
