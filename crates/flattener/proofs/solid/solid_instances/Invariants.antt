use Rattle.std.proofs.Common.{◌≡◌, ◌++◌, drop, map}
use Rattle.bind_forms.specs.declared.bound.BoundModule.{BoundModule}
use Rattle.flattener.specs.Solid.{solid_places}
use Rattle.flattener.proofs.solid.solid_instances.Given as goal

abbrev pub invariant-loop-owner : goal.invariant-loop-owner
invariant-loop-owner l = l.solid ++ map (λ (owner : BoundModule). solid_places l.sizes owner.instances) (drop l.owner-index l.modules) ≡ map (λ (owner : BoundModule). solid_places l.sizes owner.instances) l.modules
