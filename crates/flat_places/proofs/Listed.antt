-- The list of places has the places that there are.
use Rattle.std.proofs.Common.{◌≡◌, ◌∙◌, ◌<◌, ◌+◌, inl, inr, ℕ, zero, suc, List, [], ◌∷◌, map, take, length, Option, Some, None, refl, sym, ap, subst, arith}
use Rattle.std.specs.Prelude.{slice_get, unwrap_or}
use Rattle.std.specs.Option.{option_map}
use Rattle.std.specs.List.{flat_map, enumerate_from, range_with_len}
use Rattle.std.proofs.lemmas.Option.{same_Some}
use Rattle.bind_forms.specs.declared.bound.BoundKind.{BoundKind}
use Rattle.bind_forms.specs.declared.bound.BoundKind.TheVariants.{Module, Cell}
use Rattle.bind_forms.specs.declared.bound.BoundInstance.{BoundInstance}
use Rattle.bind_forms.specs.declared.bound.BoundWire.{BoundWire}
use Rattle.bind_forms.specs.declared.bound.BoundModule.{BoundModule}
use Rattle.bind_forms.specs.declared.bound.Bound.{Bound}
use Rattle.bind_forms.specs.Bits.{width_of}
use Rattle.flat_places.specs.Hierarchy.{instances_of, wires_of, IsDeeper}
use Rattle.flat_places.specs.Places.{Place, own_places, deeper_place, places_by, places_in}
use Rattle.flat_places.specs.Numbers.{number_in}
use Rattle.flat_places.specs.Drives.{IsPlaceIn}
use Rattle.flat_places.proofs.Joined.{joined_got, got_left, got_right, map_got, got_map, range_got, got_range, flat_got, got_flat}
use Rattle.flat_places.proofs.Numbered.{number_is, places_none, places_more}
use Rattle.flat_places.proofs.Followed.{owner_there, leads_on, leads_through, not_deeper}
use Rattle.flat_places.proofs.Modules.{wires_at}

-- ---- each listed place is there

own_there : (bound : Bound) (at k : ℕ) (place : Place) → slice_get (own_places (wires_of bound at)) k ≡ Some place → IsPlaceIn bound at place
own_there bound at k place e =
    let r = flat_got (λ ((wire, declared) : ℕ × BoundWire). map (λ bit. record { path = []; wire = wire; bit = bit }) (range_with_len 0 (width_of declared.range))) 0 (wires_of bound at) k place e in
    let m = map_got (λ (bit : ℕ). record { path = []; wire = 0 + r.0; bit = bit }) (range_with_len 0 (width_of r.1.range)) r.2 place r.4 in
    let b = range_got 0 (width_of r.1.range) r.2 m.0 m.1 in
    let o = owner_there bound at (λ (owner : BoundModule). owner.wires) r.0 r.1 r.3 in
    let z : r.0 ≡ 0 + r.0 = omega arith in
    let low : m.0 < width_of r.1.range = (let p = b.0 in let q = b.1 in omega arith) in
    subst (IsPlaceIn bound at) m.2 (record { owner = o.0; is_at = (at, refl, o.1); declared = r.1; listed = subst (λ (n : ℕ). slice_get o.0.wires n ≡ Some r.1) z o.2; within = low })

deeper_there : (bound : Bound) (at instance inner : ℕ) (declared : BoundInstance) (place : Place) → slice_get (instances_of bound at) instance ≡ Some declared → declared.kind ≡ Module inner → IsPlaceIn bound inner place →
    IsPlaceIn bound at (deeper_place instance place)
deeper_there bound at instance inner declared place e k p = record {
  owner = p.owner;
  is_at = (p.is_at.0, leads_on bound at instance inner place.path declared e k ∙ p.is_at.1, p.is_at.2);
  declared = p.declared;
  listed = p.listed;
  within = p.within;
}

pub place_there : (bound : Bound) (levels at k : ℕ) (place : Place) → slice_get (places_in bound levels at) k ≡ Some place → IsPlaceIn bound at place
place_there bound zero at k place e = absurd (nothing (sym (ap (λ (ps : List Place). slice_get ps k) (places_none bound at)) ∙ e)) where
  nothing : None ≡ Some place → ⊥
  nothing f = cc
place_there bound (suc levels) at k place e = elim (joined_got (own_places (wires_of bound at)) (flat_map (λ ((instance, declared) : ℕ × BoundInstance). places_by (places_in bound levels) instance declared.kind) (enumerate_from 0 (instances_of bound at))) k place
    (subst (λ (ps : List Place). slice_get ps k ≡ Some place) (places_more bound levels at) e)) [
      | inl h ↦ own_there bound at k place h.1
      | inr h ↦
          let r = flat_got (λ ((instance, declared) : ℕ × BoundInstance). places_by (places_in bound levels) instance declared.kind) 0 (instances_of bound at) h.0 place h.2 in
          let z : 0 + r.0 ≡ r.0 = omega arith in
          by_kind (place_there bound levels) r.0 r.1 r.2 r.3 r.1.kind refl (subst (λ (n : ℕ). slice_get (places_by (places_in bound levels) n r.1.kind) r.2 ≡ Some place) z r.4)
    ] where
      by_kind : ((m j : ℕ) (p : Place) → slice_get (places_in bound levels m) j ≡ Some p → IsPlaceIn bound m p) → (instance : ℕ) (declared : BoundInstance) (j : ℕ) → slice_get (instances_of bound at) instance ≡ Some declared →
          (kind : BoundKind) → declared.kind ≡ kind → slice_get (places_by (places_in bound levels) instance kind) j ≡ Some place → IsPlaceIn bound at place
      by_kind law instance declared j there (Module m) is got =
          let d = map_got (deeper_place instance) (places_in bound levels m) j place got in
          subst (IsPlaceIn bound at) d.2 (deeper_there bound at instance m declared d.0 there is (law m j d.0 d.1))
      by_kind law instance declared j there (Cell row) is got = absurd cc

-- ---- each place that is there is listed

own_listed : (bound : Bound) (levels at wire bit : ℕ) (owner : BoundModule) (declared : BoundWire) → slice_get bound.modules at ≡ Some owner → slice_get owner.wires wire ≡ Some declared → bit < width_of declared.range →
    (k : ℕ) × (slice_get (places_in bound (suc levels) at) k ≡ Some (record { path = []; wire = wire; bit = bit }))
own_listed bound levels at wire bit owner declared e f l =
    let there : slice_get (wires_of bound at) wire ≡ Some declared = subst (λ (ws : List BoundWire). slice_get ws wire ≡ Some declared) (sym (wires_at bound at owner e)) f in
    let z : 0 + wire ≡ wire = omega arith in
    let y : 0 + bit ≡ bit = omega arith in
    let bits = got_map (λ (b : ℕ). record { path = []; wire = 0 + wire; bit = b }) (range_with_len 0 (width_of declared.range)) bit (0 + bit) (got_range 0 (width_of declared.range) bit l) in
    let is : record { path = []; wire = 0 + wire; bit = 0 + bit } ≡ record { path = []; wire = wire; bit = bit } =
    ap (λ (n : ℕ). let p : Place = record { path = []; wire = n; bit = 0 + bit } in p) z ∙ ap (λ (n : ℕ). let p : Place = record { path = []; wire = wire; bit = n } in p) y in
    let g = got_flat (λ ((wire, declared) : ℕ × BoundWire). map (λ bit. record { path = []; wire = wire; bit = bit }) (range_with_len 0 (width_of declared.range))) 0 (wires_of bound at) wire declared bit (record { path = []; wire = wire; bit = bit }) there
    (bits ∙ ap Some is) in
    let k = length (flat_map (λ ((wire, declared) : ℕ × BoundWire). map (λ bit. record { path = []; wire = wire; bit = bit }) (range_with_len 0 (width_of declared.range))) (enumerate_from 0 (take wire (wires_of bound at)))) + bit in (
      k,
      subst (λ (ps : List Place). slice_get ps k ≡ Some (record { path = []; wire = wire; bit = bit })) (sym (places_more bound levels at))
          (got_left (own_places (wires_of bound at)) (flat_map (λ ((instance, declared) : ℕ × BoundInstance). places_by (places_in bound levels) instance declared.kind) (enumerate_from 0 (instances_of bound at))) k (record { path = []; wire = wire; bit = bit }) g),
    )

inner_listed : (bound : Bound) (levels at instance inner j : ℕ) (declared : BoundInstance) (place : Place) → slice_get (instances_of bound at) instance ≡ Some declared → declared.kind ≡ Module inner → slice_get (places_in bound levels inner) j ≡ Some place →
    (k : ℕ) × (slice_get (places_in bound (suc levels) at) k ≡ Some (deeper_place instance place))
inner_listed bound levels at instance inner j declared place there is got =
    let z : instance ≡ 0 + instance = omega arith in
    let m = got_map (deeper_place instance) (places_in bound levels inner) j place got in
    let of_kind : slice_get (places_by (places_in bound levels) instance declared.kind) j ≡ Some (deeper_place instance place) =
    subst (λ (kind : BoundKind). slice_get (places_by (places_in bound levels) instance kind) j ≡ Some (deeper_place instance place)) (sym is) m in
    let g = got_flat (λ ((instance, declared) : ℕ × BoundInstance). places_by (places_in bound levels) instance declared.kind) 0 (instances_of bound at) instance declared j (deeper_place instance place) there
    (subst (λ (n : ℕ). slice_get (places_by (places_in bound levels) n declared.kind) j ≡ Some (deeper_place instance place)) z of_kind) in
    let k = length (flat_map (λ ((instance, declared) : ℕ × BoundInstance). places_by (places_in bound levels) instance declared.kind) (enumerate_from 0 (take instance (instances_of bound at)))) + j in (
      length (own_places (wires_of bound at)) + k,
      subst (λ (ps : List Place). slice_get ps (length (own_places (wires_of bound at)) + k) ≡ Some (deeper_place instance place)) (sym (places_more bound levels at))
          (got_right (own_places (wires_of bound at)) (flat_map (λ ((instance, declared) : ℕ × BoundInstance). places_by (places_in bound levels) instance declared.kind) (enumerate_from 0 (instances_of bound at))) k (deeper_place instance place) g),
    )

listed : (bound : Bound) (levels at : ℕ) (path : List ℕ) (wire bit : ℕ) → (IsDeeper bound levels at → ⊥) → IsPlaceIn bound at (record { path = path; wire = wire; bit = bit }) →
    (k : ℕ) × (slice_get (places_in bound levels at) k ≡ Some (record { path = path; wire = wire; bit = bit }))
listed bound zero at path wire bit deep p = absurd (deep ([], refl, refl))
listed bound (suc levels) at [] wire bit deep p =
    own_listed bound levels at wire bit p.owner p.declared (subst (λ (n : ℕ). slice_get bound.modules n ≡ Some p.owner) (sym (same_Some at p.is_at.0 p.is_at.1)) p.is_at.2) p.listed p.within
listed bound (suc levels) at (instance ∷ path) wire bit deep p =
    let t = leads_through bound at instance path p.is_at.0 p.is_at.1 in
    let r = listed bound levels t.1 path wire bit (not_deeper bound levels at instance t.1 t.0 t.2 t.3 deep)
    (record { owner = p.owner; is_at = (p.is_at.0, t.4, p.is_at.2); declared = p.declared; listed = p.listed; within = p.within }) in
    inner_listed bound levels at instance t.1 r.0 t.0 (record { path = path; wire = wire; bit = bit }) t.2 t.3 r.1

pub place_listed : (bound : Bound) (levels at : ℕ) (place : Place) → (IsDeeper bound levels at → ⊥) → IsPlaceIn bound at place → slice_get (places_in bound levels at) (number_in bound levels at place.path place.wire place.bit) ≡ Some place
place_listed bound levels at place deep p =
    let r = listed bound levels at place.path place.wire place.bit deep p in
    subst (λ (k : ℕ). slice_get (places_in bound levels at) k ≡ Some place) (number_is bound levels at r.0 place r.1) r.1
