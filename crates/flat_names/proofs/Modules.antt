-- Modules of a bound source, and what is inside them.
use Rattle.std.proofs.Common.{◌≡◌, ◌∙◌, ◌≤◌, ℕ, zero, suc, List, [], ◌∷◌, map, Option, Some, refl, sym, ap, subst, arith}
use Rattle.std.specs.Prelude.{slice_get, unwrap_or, IsSome}
use Rattle.std.specs.Option.{option_map, option_and_then}
use Rattle.rsfq_ids.specs.declared.table.CellTable.{CellTable}
use Rattle.bind_forms.specs.declared.bound.BoundKind.TheVariants.{Module}
use Rattle.bind_forms.specs.declared.bound.BoundInstance.{BoundInstance}
use Rattle.bind_forms.specs.declared.bound.BoundModule.{BoundModule}
use Rattle.bind_forms.specs.declared.bound.BoundPort.{BoundPort}
use Rattle.bind_forms.specs.declared.bound.BoundWire.{BoundWire}
use Rattle.bind_forms.specs.declared.bound.Bound.{Bound}
use Rattle.bind_forms.specs.Bits.{width_of}
use Rattle.bind_forms.specs.WellFormed.{IsInstance, port_widths}
use Rattle.flat_places.specs.Hierarchy.{instances_of, wires_of, module_of, leads_to, IsDeeper}
use Rattle.flat_names.specs.Measured.{IsWithin}
use Rattle.flat_places.proofs.Joined.{mapped_from}

-- a module lies on a level
pub some_level : (bound : Bound) (levels at : ℕ) → (IsDeeper bound levels at → ⊥) → 1 ≤ levels
some_level bound zero at deep = absurd (deep ([], refl, refl))
some_level bound (suc levels) at deep = omega arith

-- what is inside a module lies one level less deep
pub one_less : (bound : Bound) (levels at k : ℕ) (instance : BoundInstance) → (IsDeeper bound levels at → ⊥) → slice_get (instances_of bound at) k ≡ Some instance → IsWithin bound levels instance.kind
one_less bound levels at k instance deep e inner is =
    let low = some_level bound levels at deep in (
      low,
      λ d.
          deep (
            k ∷ d.0,
            (let len = d.1 in omega (arith, len, low)),
            subst (λ (o : Option BoundInstance). IsSome (option_and_then (λ inner. leads_to bound inner d.0) (option_and_then (λ i. module_of i.kind) o))) (sym e)
                (subst (λ (o : Option ℕ). IsSome (option_and_then (λ inner. leads_to bound inner d.0) o)) (sym is) d.2),
          ),
    )

-- the module that an instance is of
pub module_there : (table : CellTable) (bound : Bound) (wires : List BoundWire) (instance : BoundInstance) (at : ℕ) → IsInstance table bound wires instance → instance.kind ≡ Module at → (owner : BoundModule) × (slice_get bound.modules at ≡ Some owner)
module_there table bound wires instance at i is =
    let found = mapped_from (λ (inner : BoundModule). map (λ (port : BoundPort). width_of port.range) inner.ports) (slice_get bound.modules at) i.widths (sym (ap (port_widths table bound) is) ∙ i.kind) in
    (found.0, found.1)
