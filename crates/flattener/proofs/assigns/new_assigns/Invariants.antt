use Rattle.std.proofs.Common.{◌≡◌, ◌++◌, drop, map}
use Rattle.bind_forms.specs.declared.bound.BoundModule.{BoundModule}
use Rattle.flat_places.specs.Assigns.{new_places}
use Rattle.flattener.proofs.assigns.new_assigns.Given as goal

abbrev pub invariant-loop-owner : goal.invariant-loop-owner
invariant-loop-owner l = l.places ++ map (λ (owner : BoundModule). new_places owner.assigns) (drop l.owner-index l.modules) ≡ map (λ (owner : BoundModule). new_places owner.assigns) l.modules
