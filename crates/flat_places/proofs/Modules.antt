-- What a module that there is has.
use Rattle.std.proofs.Common.{◌≡◌, ℕ, List, [], Option, Some, ap}
use Rattle.std.specs.Prelude.{slice_get, unwrap_or}
use Rattle.std.specs.Option.{option_map}
use Rattle.bind_forms.specs.declared.bound.BoundModule.{BoundModule}
use Rattle.bind_forms.specs.declared.bound.Bound.{Bound}
use Rattle.flat_places.specs.Hierarchy.{instances_of, wires_of}
use Rattle.flat_places.specs.Assigns.{different}
use Rattle.flat_places.specs.Hops.{assigns_of, ports_of}

pub instances_at : (bound : Bound) (at : ℕ) (owner : BoundModule) → slice_get bound.modules at ≡ Some owner → instances_of bound at ≡ owner.instances
instances_at bound at owner e = ap (λ (o : Option BoundModule). unwrap_or (option_map (λ (m : BoundModule). m.instances) o) []) e

pub assigns_at : (bound : Bound) (at : ℕ) (owner : BoundModule) → slice_get bound.modules at ≡ Some owner → assigns_of bound at ≡ different owner.assigns
assigns_at bound at owner e = ap (λ (o : Option BoundModule). unwrap_or (option_map (λ (m : BoundModule). different m.assigns) o) []) e

pub ports_at : (bound : Bound) (at : ℕ) (owner : BoundModule) → slice_get bound.modules at ≡ Some owner → ports_of bound at ≡ owner.ports
ports_at bound at owner e = ap (λ (o : Option BoundModule). unwrap_or (option_map (λ (m : BoundModule). m.ports) o) []) e

pub wires_at : (bound : Bound) (at : ℕ) (owner : BoundModule) → slice_get bound.modules at ≡ Some owner → wires_of bound at ≡ owner.wires
wires_at bound at owner e = ap (λ (o : Option BoundModule). unwrap_or (option_map (λ (m : BoundModule). m.wires) o) []) e
