-- The written-out pairs of places are those of which one follows the other.
use Rattle.std.proofs.Common.{◌≡◌, ◌∙◌, ◌+◌, ◌⊎◌, inl, inr, ℕ, zero, suc, Bool, true, false, List, [], ◌∷◌, ◌++◌, map, take, length, Option, Some, None, refl, sym, ap, subst, arith}
use Rattle.std.specs.Prelude.{slice_get, unwrap_or, option_to_list, IsSome}
use Rattle.std.specs.Option.{option_map, option_and_then}
use Rattle.std.specs.List.{flat_map, enumerate_from, zip}
use Rattle.std.proofs.lemmas.Option.{same_Some}
use Rattle.bind_forms.specs.declared.bound.BoundKind.{BoundKind}
use Rattle.bind_forms.specs.declared.bound.BoundKind.TheVariants.{Module, Cell}
use Rattle.bind_forms.specs.declared.bound.BoundAssign.{BoundAssign}
use Rattle.bind_forms.specs.declared.bound.BoundLink.{BoundLink}
use Rattle.bind_forms.specs.declared.bound.BoundPort.{BoundPort}
use Rattle.bind_forms.specs.declared.bound.BoundInstance.{BoundInstance}
use Rattle.bind_forms.specs.declared.bound.BoundModule.{BoundModule}
use Rattle.bind_forms.specs.declared.bound.Bound.{Bound}
use Rattle.flat_places.specs.Hierarchy.{instances_of, module_of, leads_to, IsDeeper}
use Rattle.flat_places.specs.Places.{Place, deeper_place, part_bits}
use Rattle.flat_places.specs.Drives.{Assigns, LinksModule, Follows, assign, into, out}
use Rattle.flat_places.specs.Hops.{Hop, deeper_hop, own_place, assigns_of, ports_of, assign_hops, link_hop, link_hops, hops_by, hops_in}
use Rattle.flat_places.specs.Assigns.{different}
use Rattle.flat_places.proofs.Joined.{joined_got, got_left, got_right, map_got, got_map, flat_got, got_flat, listed_got, got_listed}
use Rattle.flat_places.proofs.Different.{different_got, got_different}
use Rattle.flat_places.proofs.Modules.{instances_at, assigns_at, ports_at}

-- ---- lists

zip_got : {X Y : Type 0} (xs : List X) (ys : List Y) (k : ℕ) (p : X × Y) → slice_get (zip xs ys) k ≡ Some p → (slice_get xs k ≡ Some p.0) × (slice_get ys k ≡ Some p.1)
zip_got [] ys k p e = absurd cc
zip_got (x ∷ xs) [] k p e = absurd cc
zip_got (x ∷ xs) (y ∷ ys) zero p e = let s = same_Some (x, y) p e in (ap (λ q. Some q.0) s, ap (λ q. Some q.1) s)
zip_got (x ∷ xs) (y ∷ ys) (suc k) p e = zip_got xs ys k p e

got_zip : {X Y : Type 0} (xs : List X) (ys : List Y) (k : ℕ) (x : X) (y : Y) → slice_get xs k ≡ Some x → slice_get ys k ≡ Some y → slice_get (zip xs ys) k ≡ Some (x, y)
got_zip [] ys k x y e f = absurd cc
got_zip (w ∷ xs) [] k x y e f = absurd cc
got_zip {X} {Y} (w ∷ xs) (z ∷ ys) zero x y e f = ap (λ (v : Y). let p : X × Y = (w, v) in Some p) (same_Some z y f) ∙ ap (λ (v : X). let p : X × Y = (v, y) in Some p) (same_Some w x e)
got_zip (w ∷ xs) (z ∷ ys) (suc k) x y e f = got_zip xs ys k x y e f

numbered_got : {X : Type 0} (n : ℕ) (xs : List X) (k : ℕ) (p : ℕ × X) → slice_get (enumerate_from n xs) k ≡ Some p → (p.0 ≡ n + k) × (slice_get xs k ≡ Some p.1)
numbered_got n [] k p e = absurd cc
numbered_got n (x ∷ xs) zero p e = let s = same_Some (n, x) p e in (let a : n ≡ p.0 = ap (λ q. q.0) s in omega (arith, a), ap (λ q. Some q.1) s)
numbered_got n (x ∷ xs) (suc k) p e = let r = numbered_got (n + 1) xs k p e in (let a = r.0 in omega (arith, a), r.1)

got_numbered : {X : Type 0} (n : ℕ) (xs : List X) (k : ℕ) (x : X) → slice_get xs k ≡ Some x → slice_get (enumerate_from n xs) k ≡ Some (n + k, x)
got_numbered n [] k x e = absurd cc
got_numbered {X} n (w ∷ xs) zero x e = let z : n ≡ n + 0 = omega arith in ap (λ (m : ℕ). Some (m, w)) z ∙ ap (λ (v : X). Some (n + 0, v)) (same_Some w x e)
got_numbered n (w ∷ xs) (suc k) x e = let z : n + 1 + k ≡ n + suc k = omega arith in got_numbered (n + 1) xs k x e ∙ ap (λ (m : ℕ). Some (m, x)) z

-- ---- modules

owner_of : (bound : Bound) (at : ℕ) → (slice_get bound.modules at ≡ None) ⊎ ((owner : BoundModule) × (slice_get bound.modules at ≡ Some owner))
owner_of bound at = go (slice_get bound.modules at) refl where
  go : (o : Option BoundModule) → slice_get bound.modules at ≡ o → (slice_get bound.modules at ≡ None) ⊎ ((owner : BoundModule) × (slice_get bound.modules at ≡ Some owner))
  go None e = inl e
  go (Some owner) e = inr (owner, e)

-- an item of a list that is empty where there is no module shows that there is one
pub owner_there : {X : Type 0} (bound : Bound) (at : ℕ) (f : BoundModule → List X) (k : ℕ) (x : X) → slice_get (unwrap_or (option_map f (slice_get bound.modules at)) []) k ≡ Some x →
    (owner : BoundModule) × (slice_get bound.modules at ≡ Some owner) × (slice_get (f owner) k ≡ Some x)
owner_there {X} bound at f k x e = go (slice_get bound.modules at) refl e where
  go : (o : Option BoundModule) → slice_get bound.modules at ≡ o → slice_get (unwrap_or (option_map f o) []) k ≡ Some x → (owner : BoundModule) × (slice_get bound.modules at ≡ Some owner) × (slice_get (f owner) k ≡ Some x)
  go None is g = absurd cc
  go (Some owner) is g = (owner, is, g)

-- where a path through an instance leads
pub leads_on : (bound : Bound) (at instance inner : ℕ) (path : List ℕ) (declared : BoundInstance) → slice_get (instances_of bound at) instance ≡ Some declared → declared.kind ≡ Module inner → leads_to bound at (instance ∷ path) ≡ leads_to bound inner path
leads_on bound at instance inner path declared e k =
    ap (λ (o : Option BoundInstance). option_and_then (λ inner. leads_to bound inner path) (option_and_then (λ i. module_of i.kind) o)) e
    ∙ ap (λ (kind : BoundKind). option_and_then (λ inner. leads_to bound inner path) (module_of kind)) k

-- what follows inside an instance follows in the module
deeper_follows : (bound : Bound) (at instance inner : ℕ) (declared : BoundInstance) (before after : Place) → slice_get (instances_of bound at) instance ≡ Some declared → declared.kind ≡ Module inner → Follows bound inner before after →
    Follows bound at (deeper_place instance before) (deeper_place instance after)
deeper_follows bound at instance inner declared _ _ e k (assign path owner from to m a) = assign (instance ∷ path) owner from to (m.0, leads_on bound at instance inner path declared e k ∙ m.1, m.2) a
deeper_follows bound at instance inner declared _ _ e k (into path i port bit outside l) = into (instance ∷ path) i port bit outside (record {
  owner = l.owner;
  is_at = (l.is_at.0, leads_on bound at instance inner path declared e k ∙ l.is_at.1, l.is_at.2);
  declared = l.declared;
  listed = l.listed;
  inner = l.inner;
  kind = l.kind;
  inner_module = l.inner_module;
  there = l.there;
  inner_port = l.inner_port;
  port_listed = l.port_listed;
  direction = l.direction;
  links = l.links;
})
deeper_follows bound at instance inner declared _ _ e k (out path i port bit outside l) = out (instance ∷ path) i port bit outside (record {
  owner = l.owner;
  is_at = (l.is_at.0, leads_on bound at instance inner path declared e k ∙ l.is_at.1, l.is_at.2);
  declared = l.declared;
  listed = l.listed;
  inner = l.inner;
  kind = l.kind;
  inner_module = l.inner_module;
  there = l.there;
  inner_port = l.inner_port;
  port_listed = l.port_listed;
  direction = l.direction;
  links = l.links;
})

pub hops_none : (bound : Bound) (at : ℕ) → hops_in bound 0 at ≡ []
unfolding hops_in
hops_none bound at = refl

pub hops_more : (bound : Bound) (levels at : ℕ) → hops_in bound (suc levels) at ≡
    flat_map assign_hops (assigns_of bound at)
    ++ flat_map (λ ((instance, declared) : ℕ × BoundInstance). hops_by bound (hops_in bound levels) instance declared.links declared.kind) (enumerate_from 0 (instances_of bound at))
unfolding hops_in
hops_more bound levels at = refl

-- ---- each hop is followed

assign_follows : (bound : Bound) (at i k : ℕ) (one : BoundAssign) (hop : Hop) → slice_get (assigns_of bound at) i ≡ Some one → slice_get (assign_hops one) k ≡ Some hop → Follows bound at hop.from hop.to
assign_follows bound at i k one hop e g =
    let o = owner_there bound at (λ (m : BoundModule). different m.assigns) i one e in
    let listed = different_got o.0.assigns i one o.2 in
    let m = map_got (λ (bits : (ℕ × ℕ) × (ℕ × ℕ)). record { from = own_place bits.0; to = own_place bits.1 }) (zip (part_bits one.from) (part_bits one.to)) k hop g in
    let z = zip_got (part_bits one.from) (part_bits one.to) k m.0 m.1 in
    subst (λ (h : Hop). Follows bound at h.from h.to) m.2
    (assign [] o.0 m.0.0 m.0.1 (at, refl, o.1) (record { at = listed.0; assign = one; listed = listed.1; bit = k; from_bit = z.0; to_bit = z.1 }))

link_follows : (bound : Bound) (at instance inner i k : ℕ) (declared : BoundInstance) (link : BoundLink) (hop : Hop) → slice_get (instances_of bound at) instance ≡ Some declared → declared.kind ≡ Module inner →
    slice_get declared.links i ≡ Some link → slice_get (link_hops instance (ports_of bound inner) link) k ≡ Some hop → Follows bound at hop.from hop.to
link_follows bound at instance inner i k declared link hop e kind there g = go (slice_get (ports_of bound inner) link.port) refl g where
  by_direction : (port : BoundPort) → slice_get (ports_of bound inner) link.port ≡ Some port → (output : Bool) → port.output ≡ output → (bits : ℕ × (ℕ × ℕ)) → slice_get (part_bits link.parts) bits.0 ≡ Some bits.1 →
      Follows bound at (link_hop instance link.port output bits).from (link_hop instance link.port output bits).to
  by_direction port p true is bits b =
      let o = owner_there bound at (λ (m : BoundModule). m.instances) instance declared e in
      let n = owner_there bound inner (λ (m : BoundModule). m.ports) link.port port p in
      out [] instance link.port bits.0 bits.1 (record {
        owner = o.0;
        is_at = (at, refl, o.1);
        declared = declared;
        listed = o.2;
        inner = inner;
        kind = kind;
        inner_module = n.0;
        there = n.1;
        inner_port = port;
        port_listed = n.2;
        direction = is;
        links = record { at = i; link = link; listed = there; same_port = refl; joined = b };
      })
  by_direction port p false is bits b =
      let o = owner_there bound at (λ (m : BoundModule). m.instances) instance declared e in
      let n = owner_there bound inner (λ (m : BoundModule). m.ports) link.port port p in
      into [] instance link.port bits.0 bits.1 (record {
        owner = o.0;
        is_at = (at, refl, o.1);
        declared = declared;
        listed = o.2;
        inner = inner;
        kind = kind;
        inner_module = n.0;
        there = n.1;
        inner_port = port;
        port_listed = n.2;
        direction = is;
        links = record { at = i; link = link; listed = there; same_port = refl; joined = b };
      })

  go : (o : Option BoundPort) → slice_get (ports_of bound inner) link.port ≡ o →
      slice_get (flat_map (λ (port : BoundPort). map (link_hop instance link.port port.output) (enumerate_from 0 (part_bits link.parts))) (option_to_list o)) k ≡ Some hop → Follows bound at hop.from hop.to
  go None is f = absurd cc
  go (Some port) is f =
      let l = listed_got (λ (port : BoundPort). map (link_hop instance link.port port.output) (enumerate_from 0 (part_bits link.parts))) (port ∷ []) k hop f in
      one l.0 l.1 l.2 l.3 l.4 where
        one : (n : ℕ) (other : BoundPort) (j : ℕ) → slice_get (port ∷ []) n ≡ Some other → slice_get (map (link_hop instance link.port other.output) (enumerate_from 0 (part_bits link.parts))) j ≡ Some hop → Follows bound at hop.from hop.to
        one zero other j q r =
            let same = same_Some port other q in
            let m = map_got (link_hop instance link.port other.output) (enumerate_from 0 (part_bits link.parts)) j hop r in
            let c = numbered_got 0 (part_bits link.parts) j m.0 m.1 in
            let z : m.0.0 ≡ j = (let a = c.0 in omega (arith, a)) in
            subst (λ (h : Hop). Follows bound at h.from h.to) m.2
            (by_direction other (is ∙ q) other.output refl m.0 (subst (λ (x : ℕ). slice_get (part_bits link.parts) x ≡ Some m.0.1) (sym z) c.1))
        one (suc n) other j q r = absurd cc

pub hop_follows : (bound : Bound) (levels at k : ℕ) (hop : Hop) → slice_get (hops_in bound levels at) k ≡ Some hop → Follows bound at hop.from hop.to
hop_follows bound zero at k hop e = absurd (nothing (sym (ap (λ (hs : List Hop). slice_get hs k) (hops_none bound at)) ∙ e)) where
  nothing : None ≡ Some hop → ⊥
  nothing f = cc
hop_follows bound (suc levels) at k hop e = elim (joined_got (flat_map assign_hops (assigns_of bound at))
    (flat_map (λ ((instance, declared) : ℕ × BoundInstance). hops_by bound (hops_in bound levels) instance declared.links declared.kind) (enumerate_from 0 (instances_of bound at))) k hop
    (subst (λ (hs : List Hop). slice_get hs k ≡ Some hop) (hops_more bound levels at) e)) [
      | inl h ↦ (let l = listed_got assign_hops (assigns_of bound at) k hop h.1 in assign_follows bound at l.0 l.2 l.1 hop l.3 l.4)
      | inr h ↦
          let r = flat_got (λ ((instance, declared) : ℕ × BoundInstance). hops_by bound (hops_in bound levels) instance declared.links declared.kind) 0 (instances_of bound at) h.0 hop h.2 in
          let z : 0 + r.0 ≡ r.0 = omega arith in
          by_kind (hop_follows bound levels) r.0 r.1 r.2 r.3 r.1.kind refl (subst (λ (n : ℕ). slice_get (hops_by bound (hops_in bound levels) n r.1.links r.1.kind) r.2 ≡ Some hop) z r.4)
    ] where
      by_kind : ((inner j : ℕ) (one : Hop) → slice_get (hops_in bound levels inner) j ≡ Some one → Follows bound inner one.from one.to) → (instance : ℕ) (declared : BoundInstance) (j : ℕ) → slice_get (instances_of bound at) instance ≡ Some declared →
          (kind : BoundKind) → declared.kind ≡ kind → slice_get (hops_by bound (hops_in bound levels) instance declared.links kind) j ≡ Some hop → Follows bound at hop.from hop.to
      by_kind law instance declared j there (Cell row) is got = absurd cc
      by_kind law instance declared j there (Module inner) is got = elim (joined_got (flat_map (link_hops instance (ports_of bound inner)) declared.links) (map (deeper_hop instance) (hops_in bound levels inner)) j hop got) [
        | inl h ↦ (let l = listed_got (link_hops instance (ports_of bound inner)) declared.links j hop h.1 in link_follows bound at instance inner l.0 l.2 declared l.1 hop there is l.3 l.4)
        | inr h ↦
            let m = map_got (deeper_hop instance) (hops_in bound levels inner) h.0 hop h.2 in
            subst (λ (g : Hop). Follows bound at g.from g.to) m.2 (deeper_follows bound at instance inner declared m.0.from m.0.to there is (law inner h.0 m.0 m.1))
      ]

-- ---- each place that follows another is in a hop

pub leads_through : (bound : Bound) (at instance : ℕ) (path : List ℕ) (m : ℕ) → leads_to bound at (instance ∷ path) ≡ Some m →
    (declared : BoundInstance) × (inner : ℕ) × (slice_get (instances_of bound at) instance ≡ Some declared) × (declared.kind ≡ Module inner) × (leads_to bound inner path ≡ Some m)
leads_through bound at instance path m e = go (slice_get (instances_of bound at) instance) refl e where
  kinds : (declared : BoundInstance) → slice_get (instances_of bound at) instance ≡ Some declared → (kind : BoundKind) → declared.kind ≡ kind → option_and_then (λ inner. leads_to bound inner path) (module_of kind) ≡ Some m →
      (declared : BoundInstance) × (inner : ℕ) × (slice_get (instances_of bound at) instance ≡ Some declared) × (declared.kind ≡ Module inner) × (leads_to bound inner path ≡ Some m)
  kinds declared is (Module inner) k f = (declared, inner, is, k, f)
  kinds declared is (Cell row) k f = absurd cc

  go : (o : Option BoundInstance) → slice_get (instances_of bound at) instance ≡ o → option_and_then (λ inner. leads_to bound inner path) (option_and_then (λ i. module_of i.kind) o) ≡ Some m →
      (declared : BoundInstance) × (inner : ℕ) × (slice_get (instances_of bound at) instance ≡ Some declared) × (declared.kind ≡ Module inner) × (leads_to bound inner path ≡ Some m)
  go None is f = absurd cc
  go (Some declared) is f = kinds declared is declared.kind refl f

pub not_deeper : (bound : Bound) (levels at instance inner : ℕ) (declared : BoundInstance) → slice_get (instances_of bound at) instance ≡ Some declared → declared.kind ≡ Module inner → (IsDeeper bound (suc levels) at → ⊥) → IsDeeper bound levels inner → ⊥
not_deeper bound levels at instance inner declared e k deep d =
    deep (instance ∷ d.0, (let l = d.1 in omega (arith, l)), subst IsSome (sym (leads_on bound at instance inner d.0 declared e k)) d.2)

-- a hop of an instance is a hop of the module
placed : (bound : Bound) (levels at instance j : ℕ) (declared : BoundInstance) (hop : Hop) → slice_get (instances_of bound at) instance ≡ Some declared →
    slice_get (hops_by bound (hops_in bound levels) instance declared.links declared.kind) j ≡ Some hop → (k : ℕ) × (slice_get (hops_in bound (suc levels) at) k ≡ Some hop)
placed bound levels at instance j declared hop there got =
    let z : instance ≡ 0 + instance = omega arith in
    let f = got_flat (λ ((instance, declared) : ℕ × BoundInstance). hops_by bound (hops_in bound levels) instance declared.links declared.kind) 0 (instances_of bound at) instance declared j hop there
    (subst (λ (n : ℕ). slice_get (hops_by bound (hops_in bound levels) n declared.links declared.kind) j ≡ Some hop) z got) in (
      length (flat_map assign_hops (assigns_of bound at)) + (length (flat_map (λ ((instance, declared) : ℕ × BoundInstance). hops_by bound (hops_in bound levels) instance declared.links declared.kind) (enumerate_from 0 (take instance (instances_of bound at)))) + j),
      subst (λ (hs : List Hop). slice_get hs (length (flat_map assign_hops (assigns_of bound at)) + (length (flat_map (λ ((instance, declared) : ℕ × BoundInstance). hops_by bound (hops_in bound levels) instance declared.links declared.kind) (enumerate_from 0 (take instance (instances_of bound at)))) + j)) ≡ Some hop) (sym (hops_more bound levels at))
          (got_right (flat_map assign_hops (assigns_of bound at)) (flat_map (λ ((instance, declared) : ℕ × BoundInstance). hops_by bound (hops_in bound levels) instance declared.links declared.kind) (enumerate_from 0 (instances_of bound at))) (length (flat_map (λ ((instance, declared) : ℕ × BoundInstance). hops_by bound (hops_in bound levels) instance declared.links declared.kind) (enumerate_from 0 (take instance (instances_of bound at)))) + j) hop f),
    )

-- a hop inside an instance is one of the module
through : (bound : Bound) (levels at instance inner k : ℕ) (declared : BoundInstance) (hop : Hop) → slice_get (instances_of bound at) instance ≡ Some declared → declared.kind ≡ Module inner → slice_get (hops_in bound levels inner) k ≡ Some hop →
    (k : ℕ) × (slice_get (hops_in bound (suc levels) at) k ≡ Some (deeper_hop instance hop))
through bound levels at instance inner k declared hop there is got =
    let inside = got_right (flat_map (link_hops instance (ports_of bound inner)) declared.links) (map (deeper_hop instance) (hops_in bound levels inner)) k (deeper_hop instance hop) (got_map (deeper_hop instance) (hops_in bound levels inner) k hop got) in
    placed bound levels at instance (length (flat_map (link_hops instance (ports_of bound inner)) declared.links) + k) declared (deeper_hop instance hop) there
    (subst (λ (kind : BoundKind). slice_get (hops_by bound (hops_in bound levels) instance declared.links kind) (length (flat_map (link_hops instance (ports_of bound inner)) declared.links) + k) ≡ Some (deeper_hop instance hop)) (sym is) inside)

-- the hop of a link of the module's own instance
linked : (bound : Bound) (levels at instance port bit : ℕ) (output : Bool) (outside : ℕ × ℕ) → LinksModule bound at [] instance port bit output outside →
    (k : ℕ) × (slice_get (hops_in bound (suc levels) at) k ≡ Some (link_hop instance port output (bit, outside)))
linked bound levels at instance port bit output outside l =
    let at_is : at ≡ l.is_at.0 = same_Some at l.is_at.0 l.is_at.1 in
    let owner_is : slice_get bound.modules at ≡ Some l.owner = subst (λ (n : ℕ). slice_get bound.modules n ≡ Some l.owner) (sym at_is) l.is_at.2 in
    let there : slice_get (instances_of bound at) instance ≡ Some l.declared = subst (λ (xs : List BoundInstance). slice_get xs instance ≡ Some l.declared) (sym (instances_at bound at l.owner owner_is)) l.listed in
    let port_is : slice_get (ports_of bound l.inner) l.links.link.port ≡ Some l.inner_port =
    subst (λ (ps : List BoundPort). slice_get ps l.links.link.port ≡ Some l.inner_port) (sym (ports_at bound l.inner l.inner_module l.there))
    (subst (λ (n : ℕ). slice_get l.inner_module.ports n ≡ Some l.inner_port) (sym l.links.same_port) l.port_listed) in
    let step : slice_get (map (link_hop instance l.links.link.port l.inner_port.output) (enumerate_from 0 (part_bits l.links.link.parts))) bit ≡ Some (link_hop instance l.links.link.port l.inner_port.output (0 + bit, outside)) =
    got_map (link_hop instance l.links.link.port l.inner_port.output) (enumerate_from 0 (part_bits l.links.link.parts)) bit (0 + bit, outside) (got_numbered 0 (part_bits l.links.link.parts) bit outside l.links.joined) in
    let z : 0 + bit ≡ bit = omega arith in
    let hop_is : link_hop instance l.links.link.port l.inner_port.output (0 + bit, outside) ≡ link_hop instance port output (bit, outside) =
    ap (λ (n : ℕ). link_hop instance n l.inner_port.output (0 + bit, outside)) l.links.same_port
    ∙ ap (λ (b : Bool). link_hop instance port b (0 + bit, outside)) l.direction
    ∙ ap (λ (n : ℕ). link_hop instance port output (n, outside)) z in
    let of_port = got_listed (λ (p : BoundPort). map (link_hop instance l.links.link.port p.output) (enumerate_from 0 (part_bits l.links.link.parts))) (l.inner_port ∷ []) 0 l.inner_port bit (link_hop instance port output (bit, outside)) refl (step ∙ ap Some hop_is) in
    let of_link : slice_get (link_hops instance (ports_of bound l.inner) l.links.link) of_port.0 ≡ Some (link_hop instance port output (bit, outside)) =
    subst (λ (o : Option BoundPort). slice_get (flat_map (λ (p : BoundPort). map (link_hop instance l.links.link.port p.output) (enumerate_from 0 (part_bits l.links.link.parts))) (option_to_list o)) of_port.0 ≡ Some (link_hop instance port output (bit, outside))) (sym port_is) of_port.1 in
    let of_links = got_listed (link_hops instance (ports_of bound l.inner)) l.declared.links l.links.at l.links.link of_port.0 (link_hop instance port output (bit, outside)) l.links.listed of_link in
    let of_kind = got_left (flat_map (link_hops instance (ports_of bound l.inner)) l.declared.links) (map (deeper_hop instance) (hops_in bound levels l.inner)) of_links.0 (link_hop instance port output (bit, outside)) of_links.1 in
    placed bound levels at instance of_links.0 l.declared (link_hop instance port output (bit, outside)) there
    (subst (λ (kind : BoundKind). slice_get (hops_by bound (hops_in bound levels) instance l.declared.links kind) of_links.0 ≡ Some (link_hop instance port output (bit, outside))) (sym l.kind) of_kind)

-- the hop of an assign of the module
assigned : (bound : Bound) (levels at : ℕ) (owner : BoundModule) (from to : ℕ × ℕ) → slice_get bound.modules at ≡ Some owner → Assigns owner from to →
    (k : ℕ) × (slice_get (hops_in bound (suc levels) at) k ≡ Some (record { from = own_place from; to = own_place to }))
assigned bound levels at owner from to owner_is a =
    let once = got_different owner.assigns a.at a.assign a.listed in
    let there : slice_get (assigns_of bound at) once.0 ≡ Some a.assign = subst (λ (xs : List BoundAssign). slice_get xs once.0 ≡ Some a.assign) (sym (assigns_at bound at owner owner_is)) once.1 in
    let z = got_zip (part_bits a.assign.from) (part_bits a.assign.to) a.bit from to a.from_bit a.to_bit in
    let m = got_map (λ (bits : (ℕ × ℕ) × (ℕ × ℕ)). record { from = own_place bits.0; to = own_place bits.1 }) (zip (part_bits a.assign.from) (part_bits a.assign.to)) a.bit (from, to) z in
    let l = got_listed assign_hops (assigns_of bound at) once.0 a.assign a.bit (record { from = own_place from; to = own_place to }) there m in (
      l.0,
      subst (λ (hs : List Hop). slice_get hs l.0 ≡ Some (record { from = own_place from; to = own_place to })) (sym (hops_more bound levels at))
          (got_left (flat_map assign_hops (assigns_of bound at)) _ l.0 (record { from = own_place from; to = own_place to }) l.1),
    )

-- a link inside an instance, seen from there
inner_link : (bound : Bound) (at instance inner : ℕ) (path : List ℕ) (declared : BoundInstance) (i port bit : ℕ) (output : Bool) (outside : ℕ × ℕ) → (l : LinksModule bound at (instance ∷ path) i port bit output outside) →
    leads_to bound inner path ≡ Some l.is_at.0 → LinksModule bound inner path i port bit output outside
inner_link bound at instance inner path declared i port bit output outside l e = record {
  owner = l.owner;
  is_at = (l.is_at.0, e, l.is_at.2);
  declared = l.declared;
  listed = l.listed;
  inner = l.inner;
  kind = l.kind;
  inner_module = l.inner_module;
  there = l.there;
  inner_port = l.inner_port;
  port_listed = l.port_listed;
  direction = l.direction;
  links = l.links;
}

pub follows_hop : (bound : Bound) (levels at : ℕ) (before after : Place) → (IsDeeper bound levels at → ⊥) → Follows bound at before after → (k : ℕ) × (slice_get (hops_in bound levels at) k ≡ Some (record { from = before; to = after }))
follows_hop bound zero at before after deep f = absurd (deep ([], refl, refl))
follows_hop bound (suc levels) at _ _ deep (assign [] owner from to m a) =
    assigned bound levels at owner from to (subst (λ (n : ℕ). slice_get bound.modules n ≡ Some owner) (sym (same_Some at m.0 m.1)) m.2) a
follows_hop bound (suc levels) at _ _ deep (assign (instance ∷ path) owner from to m a) =
    let t = leads_through bound at instance path m.0 m.1 in
    let r = follows_hop bound levels t.1 (record { path = path; wire = from.0; bit = from.1 }) (record { path = path; wire = to.0; bit = to.1 }) (not_deeper bound levels at instance t.1 t.0 t.2 t.3 deep) (assign path owner from to (m.0, t.4, m.2) a) in
    through bound levels at instance t.1 r.0 t.0 (record { from = record { path = path; wire = from.0; bit = from.1 }; to = record { path = path; wire = to.0; bit = to.1 } }) t.2 t.3 r.1
follows_hop bound (suc levels) at _ _ deep (into [] i port bit outside l) = linked bound levels at i port bit false outside l
follows_hop bound (suc levels) at _ _ deep (into (instance ∷ path) i port bit outside l) =
    let t = leads_through bound at instance path l.is_at.0 l.is_at.1 in
    let r = follows_hop bound levels t.1 (record { path = path; wire = outside.0; bit = outside.1 }) (record { path = path ++ i ∷ []; wire = port; bit = bit }) (not_deeper bound levels at instance t.1 t.0 t.2 t.3 deep)
    (into path i port bit outside (inner_link bound at instance t.1 path t.0 i port bit false outside l t.4)) in
    through bound levels at instance t.1 r.0 t.0 (record { from = record { path = path; wire = outside.0; bit = outside.1 }; to = record { path = path ++ i ∷ []; wire = port; bit = bit } }) t.2 t.3 r.1
follows_hop bound (suc levels) at _ _ deep (out [] i port bit outside l) = linked bound levels at i port bit true outside l
follows_hop bound (suc levels) at _ _ deep (out (instance ∷ path) i port bit outside l) =
    let t = leads_through bound at instance path l.is_at.0 l.is_at.1 in
    let r = follows_hop bound levels t.1 (record { path = path ++ i ∷ []; wire = port; bit = bit }) (record { path = path; wire = outside.0; bit = outside.1 }) (not_deeper bound levels at instance t.1 t.0 t.2 t.3 deep)
    (out path i port bit outside (inner_link bound at instance t.1 path t.0 i port bit true outside l t.4)) in
    through bound levels at instance t.1 r.0 t.0 (record { from = record { path = path ++ i ∷ []; wire = port; bit = bit }; to = record { path = path; wire = outside.0; bit = outside.1 } }) t.2 t.3 r.1
