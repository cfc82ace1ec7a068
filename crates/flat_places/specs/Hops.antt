-- The pairs of places of which one follows the other, written out: those of a module's assigns and of the links of its instances, and then those inside each instance.
use Rattle.std.specs.Prelude.{ℕ, zero, suc, Bool, true, false, List, [], ◌∷◌, ◌++◌, map, slice_get, unwrap_or, option_to_list}
use Rattle.std.specs.Option.{option_map}
use Rattle.std.specs.List.{flat_map, enumerate_from, zip}
use Rattle.bind_forms.specs.declared.bound.BoundKind.{BoundKind}
use Rattle.bind_forms.specs.declared.bound.BoundKind.TheVariants.{Module, Cell}
use Rattle.bind_forms.specs.declared.bound.BoundAssign.{BoundAssign}
use Rattle.bind_forms.specs.declared.bound.BoundLink.{BoundLink}
use Rattle.bind_forms.specs.declared.bound.BoundPort.{BoundPort}
use Rattle.bind_forms.specs.declared.bound.BoundInstance.{BoundInstance}
use Rattle.bind_forms.specs.declared.bound.Bound.{Bound}
use Rattle.flat_places.specs.Hierarchy.{instances_of}
use Rattle.flat_places.specs.Places.{Place, deeper_place, part_bits}
use Rattle.flat_places.specs.Assigns.{different}

-- one place, and one that follows it
pub record Hop : Type 0 where
  pub from : Place
  pub to : Place

-- the hop of a module's instance, seen from the module
abbrev pub deeper_hop : ℕ → Hop → Hop
deeper_hop instance hop = record { from = deeper_place instance hop.from; to = deeper_place instance hop.to }

-- the place of a bit of a module's own wires
abbrev pub own_place : ℕ × ℕ → Place
own_place bit = record { path = []; wire = bit.0; bit = bit.1 }

-- the assigns of a module, each once
abbrev pub assigns_of : Bound → ℕ → List BoundAssign
assigns_of bound at = unwrap_or (option_map (λ owner. different owner.assigns) (slice_get bound.modules at)) []

abbrev pub ports_of : Bound → ℕ → List BoundPort
ports_of bound at = unwrap_or (option_map (λ owner. owner.ports) (slice_get bound.modules at)) []

-- the hops of an assign, bit by bit
abbrev pub assign_hops : BoundAssign → List Hop
assign_hops assign = map (λ (bits : (ℕ × ℕ) × (ℕ × ℕ)). record { from = own_place bits.0; to = own_place bits.1 }) (zip (part_bits assign.from) (part_bits assign.to))

-- the hop of a bit of an instance's port and the wire bit that it is linked to: out of an output, into an input
abbrev pub link_hop : ℕ → ℕ → Bool → ℕ × (ℕ × ℕ) → Hop
link_hop instance port true bit = record { from = record { path = instance ∷ []; wire = port; bit = bit.0 }; to = own_place bit.1 }
link_hop instance port false bit = record { from = own_place bit.1; to = record { path = instance ∷ []; wire = port; bit = bit.0 } }

-- the hops of a link
abbrev pub link_hops : ℕ → List BoundPort → BoundLink → List Hop
link_hops instance ports link = flat_map (λ (port : BoundPort). map (link_hop instance link.port port.output) (enumerate_from 0 (part_bits link.parts))) (option_to_list (slice_get ports link.port))

-- the hops of the links of an instance and inside it, where `inside` says which are inside a module
abbrev pub hops_by : Bound → (ℕ → List Hop) → ℕ → List BoundLink → BoundKind → List Hop
hops_by bound inside instance links (Module at) = flat_map (link_hops instance (ports_of bound at)) links ++ map (deeper_hop instance) (inside at)
hops_by bound inside instance links (Cell row) = []

-- the hops inside a module, as deep as so many levels
unfoldable pub hops_in : Bound → ℕ → ℕ → List Hop
hops_in bound zero at = []
hops_in bound (suc levels) at =
    flat_map assign_hops (assigns_of bound at)
    ++ flat_map (λ ((instance, declared) : ℕ × BoundInstance). hops_by bound (hops_in bound levels) instance declared.links declared.kind) (enumerate_from 0 (instances_of bound at))
