-- The number of each place in the list.
use Rattle.std.proofs.Common.{◌≡◌, ◌∙◌, ◌+◌, inl, inr, ℕ, zero, suc, List, [], ◌∷◌, ◌++◌, map, take, length, sum_by, Option, Some, None, refl, sym, ap, subst, arith}
use Rattle.std.specs.Prelude.{slice_get, unwrap_or}
use Rattle.std.specs.Option.{option_map, option_and_then}
use Rattle.std.specs.List.{flat_map, enumerate_from, range_with_len}
use Rattle.bind_forms.specs.declared.bound.BoundKind.{BoundKind}
use Rattle.bind_forms.specs.declared.bound.BoundKind.TheVariants.{Module, Cell}
use Rattle.bind_forms.specs.declared.bound.BoundInstance.{BoundInstance}
use Rattle.bind_forms.specs.declared.bound.BoundWire.{BoundWire}
use Rattle.bind_forms.specs.declared.bound.Bound.{Bound}
use Rattle.bind_forms.specs.Bits.{width_of}
use Rattle.flat_places.specs.Hierarchy.{instances_of, wires_of, module_of, bits_of, bits_by, bit_count}
use Rattle.flat_places.specs.Places.{Place, own_places, deeper_place, places_by, places_in}
use Rattle.flat_places.specs.Numbers.{bits_before, number_in}
use Rattle.flat_places.proofs.Joined.{joined_got, map_got, range_got, flat_got}
use Rattle.flat_places.proofs.Counted.{own_length, length_numbered, places_by_length, places_length}

pub number_own : (bound : Bound) (levels at wire bit : ℕ) → number_in bound levels at [] wire bit ≡ bits_of (take wire (wires_of bound at)) + bit
unfolding number_in
number_own bound zero at wire bit = refl
number_own bound (suc levels) at wire bit = refl

pub number_deeper : (bound : Bound) (levels at instance : ℕ) (path : List ℕ) (wire bit : ℕ) → number_in bound (suc levels) at (instance ∷ path) wire bit ≡
    bits_before bound levels at instance + unwrap_or (option_map (λ inner. number_in bound levels inner path wire bit) (option_and_then (λ declared. module_of declared.kind) (slice_get (instances_of bound at) instance))) 0
unfolding number_in
number_deeper bound levels at instance path wire bit = refl

pub places_more : (bound : Bound) (levels at : ℕ) → places_in bound (suc levels) at ≡
    own_places (wires_of bound at) ++ flat_map (λ (instance, declared). places_by (places_in bound levels) instance declared.kind) (enumerate_from 0 (instances_of bound at))
unfolding places_in
places_more bound levels at = refl

pub places_none : (bound : Bound) (at : ℕ) → places_in bound 0 at ≡ []
unfolding places_in
places_none bound at = refl

-- a place of a module's own wires
own_got : (wires : List BoundWire) (k : ℕ) (place : Place) → slice_get (own_places wires) k ≡ Some place → (place.path ≡ []) × (k ≡ bits_of (take place.wire wires) + place.bit)
own_got wires k place e =
    let r = flat_got (λ ((wire, declared) : ℕ × BoundWire). map (λ bit. record { path = []; wire = wire; bit = bit }) (range_with_len 0 (width_of declared.range))) 0 wires k place e in
    let m = map_got (λ (bit : ℕ). record { path = []; wire = 0 + r.0; bit = bit }) (range_with_len 0 (width_of r.1.range)) r.2 place r.4 in
    let b = range_got 0 (width_of r.1.range) r.2 m.0 m.1 in
    let wire_is : r.0 ≡ place.wire = (let z : r.0 ≡ 0 + r.0 = omega arith in z ∙ ap (λ (p : Place). p.wire) m.2) in
    let bit_is : m.0 ≡ place.bit = ap (λ (p : Place). p.bit) m.2 in
    let len : length (own_places (take r.0 wires)) ≡ bits_of (take r.0 wires) = own_length (take r.0 wires) in
    let wide : bits_of (take r.0 wires) ≡ bits_of (take place.wire wires) = ap (λ (n : ℕ). bits_of (take n wires)) wire_is in
    let at_is : k ≡ length (own_places (take r.0 wires)) + r.2 = r.5 in
    let bit_at = b.0 in
    (sym (ap (λ (p : Place). p.path) m.2), omega (arith, at_is, len, wide, bit_at, bit_is))

pub number_is : (bound : Bound) (levels at k : ℕ) (place : Place) → slice_get (places_in bound levels at) k ≡ Some place → k ≡ number_in bound levels at place.path place.wire place.bit
number_is bound zero at k place e = absurd (nothing (sym (ap (λ (ps : List Place). slice_get ps k) (places_none bound at)) ∙ e)) where
  nothing : None ≡ Some place → ⊥
  nothing f = cc
number_is bound (suc levels) at k place e = elim (joined_got (own_places (wires_of bound at)) (flat_map (λ ((instance, declared) : ℕ × BoundInstance). places_by (places_in bound levels) instance declared.kind) (enumerate_from 0 (instances_of bound at))) k place
    (subst (λ (ps : List Place). slice_get ps k ≡ Some place) (places_more bound levels at) e)) [
      | inl h ↦
          let o = own_got (wires_of bound at) k place h.1 in
          subst (λ (path : List ℕ). k ≡ number_in bound (suc levels) at path place.wire place.bit) (sym o.0) (o.1 ∙ sym (number_own bound (suc levels) at place.wire place.bit))
      | inr h ↦
          let r = flat_got (λ ((instance, declared) : ℕ × BoundInstance). places_by (places_in bound levels) instance declared.kind) 0 (instances_of bound at) h.0 place h.2 in
          let z : 0 + r.0 ≡ r.0 = omega arith in
          let own = own_length (wires_of bound at) in
          let before : length (flat_map (λ ((instance, declared) : ℕ × BoundInstance). places_by (places_in bound levels) instance declared.kind) (enumerate_from 0 (take r.0 (instances_of bound at))))
          ≡ sum_by (λ (declared : BoundInstance). bits_by (bit_count bound levels) declared.kind) (take r.0 (instances_of bound at)) =
          length_numbered (λ ((instance, declared) : ℕ × BoundInstance). places_by (places_in bound levels) instance declared.kind) (λ (declared : BoundInstance). bits_by (bit_count bound levels) declared.kind)
          (λ n declared. places_by_length (places_in bound levels) (bit_count bound levels) (places_length bound levels) n declared.kind) 0 (take r.0 (instances_of bound at)) in
          let sums = h.1 in
          let rest = r.5 in
          let all : k ≡ bits_before bound levels at r.0 + r.2 = omega (arith, own, before, sums, rest) in
          inner (number_is bound levels) r.0 r.1 r.2 r.3 (subst (λ (n : ℕ). slice_get (places_by (places_in bound levels) n r.1.kind) r.2 ≡ Some place) z r.4) all
    ] where
      by_kind : ((m j : ℕ) (p : Place) → slice_get (places_in bound levels m) j ≡ Some p → j ≡ number_in bound levels m p.path p.wire p.bit) → (instance : ℕ) (declared : BoundInstance) (j : ℕ) → slice_get (instances_of bound at) instance ≡ Some declared → (kind : BoundKind) → declared.kind ≡ kind → slice_get (places_by (places_in bound levels) instance kind) j ≡ Some place →
          k ≡ bits_before bound levels at instance + j → k ≡ number_in bound (suc levels) at place.path place.wire place.bit
      by_kind law instance declared j there (Module m) is got sums =
          let d = map_got (deeper_place instance) (places_in bound levels m) j place got in
          let deep = law m j d.0 d.1 in
          let opened : option_and_then (λ declared. module_of declared.kind) (slice_get (instances_of bound at) instance) ≡ Some m =
          ap (option_and_then (λ (declared : BoundInstance). module_of declared.kind)) there ∙ ap module_of is in
          let whole : number_in bound (suc levels) at (instance ∷ d.0.path) d.0.wire d.0.bit ≡ bits_before bound levels at instance + number_in bound levels m d.0.path d.0.wire d.0.bit =
          number_deeper bound levels at instance d.0.path d.0.wire d.0.bit
          ∙ ap (λ (o : Option ℕ). bits_before bound levels at instance + unwrap_or (option_map (λ inner. number_in bound levels inner d.0.path d.0.wire d.0.bit) o) 0) opened in
          subst (λ (p : Place). k ≡ number_in bound (suc levels) at p.path p.wire p.bit) d.2 (omega (arith, sums, deep, whole))
      by_kind law instance declared j there (Cell row) is got sums = absurd (nothing got) where
        nothing : None ≡ Some place → ⊥
        nothing f = cc

      inner : ((m j : ℕ) (p : Place) → slice_get (places_in bound levels m) j ≡ Some p → j ≡ number_in bound levels m p.path p.wire p.bit) → (instance : ℕ) (declared : BoundInstance) (j : ℕ) → slice_get (instances_of bound at) instance ≡ Some declared → slice_get (places_by (places_in bound levels) instance declared.kind) j ≡ Some place →
          k ≡ bits_before bound levels at instance + j → k ≡ number_in bound (suc levels) at place.path place.wire place.bit
      inner law instance declared j there got sums = by_kind law instance declared j there declared.kind refl got sums
