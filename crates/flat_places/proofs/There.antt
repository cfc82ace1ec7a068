-- The places at the two ends of hops and at the drivers are places that there are.
use Rattle.std.proofs.Common.{◌≡◌, ◌∙◌, ◌+◌, ◌<◌, inl, inr, ℕ, suc, List, [], ◌∷◌, ◌++◌, map, length, Option, Some, refl, sym, ap, subst, arith, Bool, true, false, length-append}
use Rattle.std.specs.Prelude.{slice_get, unwrap_or}
use Rattle.std.specs.Option.{option_map}
use Rattle.std.specs.List.{All, range_with_len}
use Rattle.std.proofs.lemmas.List.Sums.{sum_by-cons}
use Rattle.std.proofs.lemmas.List.FromFn.{length-map-range_with_len}
use Rattle.std.proofs.lemmas.Option.{same_Some, slice_get_within}
use Rattle.rsfq_ids.specs.declared.table.CellTable.{CellTable}
use Rattle.rsfq_ids.specs.declared.circuit.Driver.{Driver}
use Rattle.rsfq_ids.specs.declared.circuit.Driver.TheVariants as driver
use Rattle.bind_forms.specs.declared.bound.BoundKind.TheVariants.{Module}
use Rattle.bind_forms.specs.declared.bound.BoundPart.{BoundPart}
use Rattle.bind_forms.specs.declared.bound.BoundPort.{BoundPort}
use Rattle.bind_forms.specs.declared.bound.BoundWire.{BoundWire}
use Rattle.bind_forms.specs.declared.bound.BoundInstance.{BoundInstance}
use Rattle.bind_forms.specs.declared.bound.BoundModule.{BoundModule}
use Rattle.bind_forms.specs.declared.bound.Bound.{Bound}
use Rattle.bind_forms.specs.Bits.{width_of}
use Rattle.bind_forms.specs.WellFormed.{IsBound, IsModule, IsInstance, IsAssign, IsLink, IsPart, port_wire, port_widths, parts_width}
use Rattle.flat_places.specs.Hierarchy.{instances_of, leads_to}
use Rattle.flat_places.specs.Places.{Place, part_bits, port_places}
use Rattle.flat_places.specs.Drives.{IsModuleAt, Links, LinksModule, Follows, assign, into, out, IsPinAt, IsPortAt, StartsAt, Drives, starts, follows, IsPlaceIn, reading_pins_of}
use Rattle.flat_places.proofs.Joined.{joined_got, got_left, got_map, map_got, range_got, all_got}
use Rattle.flat_places.proofs.Followed.{leads_on, leads_through}
use Rattle.flat_places.proofs.Listed.{place_there}
use Rattle.flat_places.proofs.Ends.{port_listed, ports_at}

-- ---- bits of parts

-- each bit of parts lies within a wire
pub bit_there : (wires : List BoundWire) (parts : List BoundPart) → All (IsPart wires) parts → (k : ℕ) (bit : ℕ × ℕ) → slice_get (part_bits parts) k ≡ Some bit → (wire : BoundWire) × (slice_get wires bit.0 ≡ Some wire) × (bit.1 < width_of wire.range)
bit_there wires [] all k bit e = absurd cc
bit_there wires (part ∷ parts) all k bit e = elim (joined_got (map (λ (b : ℕ). let p : ℕ × ℕ = (part.wire, part.bit + b) in p) (range_with_len 0 part.count)) (part_bits parts) k bit e) [
  | inl h ↦
      let is = all_got (IsPart wires) (part ∷ parts) 0 part all refl in
      let m = map_got (λ (b : ℕ). let p : ℕ × ℕ = (part.wire, part.bit + b) in p) (range_with_len 0 part.count) k bit h.1 in
      let r = range_got 0 part.count k m.0 m.1 in (
        is.wire,
        subst (λ (n : ℕ). slice_get wires n ≡ Some is.wire) (ap (λ (p : ℕ × ℕ). p.0) m.2) is.there,
        (let b : part.bit + m.0 ≡ bit.1 = ap (λ (p : ℕ × ℕ). p.1) m.2 in let within = is.lies.within in let at = r.0 in let low = r.1 in omega arith),
      )
  | inr h ↦ bit_there wires parts (λ i d l. all (suc i) d (omega arith)) h.0 bit h.2
]

-- as many bits as the parts are wide
pub bits_long : (parts : List BoundPart) → length (part_bits parts) ≡ parts_width parts
bits_long [] = refl
bits_long (part ∷ parts) =
    let here = length-map-range_with_len (λ (b : ℕ). let p : ℕ × ℕ = (part.wire, part.bit + b) in p) 0 part.count in
    let both = length-append (map (λ (b : ℕ). let p : ℕ × ℕ = (part.wire, part.bit + b) in p) (range_with_len 0 part.count)) (part_bits parts) in
    let rest = bits_long parts in
    let sum = sum_by-cons (λ (part : BoundPart). part.count) part parts in
    omega (arith, here, both, rest, sum)

-- ---- modules

-- a path goes on through an instance of the module that it leads to
pub leads_last : (bound : Bound) (root : ℕ) (path : List ℕ) (m instance inner : ℕ) (declared : BoundInstance) → leads_to bound root path ≡ Some m → slice_get (instances_of bound m) instance ≡ Some declared → declared.kind ≡ Module inner →
    leads_to bound root (path ++ instance ∷ []) ≡ Some inner
leads_last bound root [] m instance inner declared e f k =
    leads_on bound root instance inner [] declared (subst (λ (n : ℕ). slice_get (instances_of bound n) instance ≡ Some declared) (sym (same_Some root m e)) f) k
leads_last bound root (i ∷ path) m instance inner declared e f k =
    let t = leads_through bound root i path m e in
    leads_on bound root i t.1 (path ++ instance ∷ []) t.0 t.2 t.3 ∙ leads_last bound t.1 path m instance inner declared t.4 f k

fit_at : (table : CellTable) (bound : Bound) → IsBound table bound → (root : ℕ) (path : List ℕ) (owner : BoundModule) → IsModuleAt bound root path owner → IsModule table bound owner
fit_at table bound is root path owner at = all_got (IsModule table bound) bound.modules at.0 owner is.modules at.2

-- the place outside at a link, and the one inside
outside_there : (table : CellTable) (bound : Bound) → IsBound table bound → (root : ℕ) (path : List ℕ) (owner : BoundModule) → IsModuleAt bound root path owner → (instance : ℕ) (declared : BoundInstance) → slice_get owner.instances instance ≡ Some declared →
    (port bit : ℕ) (outside : ℕ × ℕ) → Links declared port bit outside → IsPlaceIn bound root (record { path = path; wire = outside.0; bit = outside.1 })
outside_there table bound is root path owner at instance declared listed port bit outside links =
    let fit = all_got (IsInstance table bound owner.wires) owner.instances instance declared (fit_at table bound is root path owner at).instances listed in
    let parts = (all_got (IsLink owner.wires fit.widths) declared.links links.at links.link fit.links links.listed).parts in
    let b = bit_there owner.wires links.link.parts parts bit outside links.joined in
    record { owner = owner; is_at = at; declared = b.0; listed = b.1; within = b.2 }

inside_there : (table : CellTable) (bound : Bound) → IsBound table bound → (root : ℕ) (path : List ℕ) (instance port bit : ℕ) (output : Bool) (outside : ℕ × ℕ) → LinksModule bound root path instance port bit output outside →
    IsPlaceIn bound root (record { path = path ++ instance ∷ []; wire = port; bit = bit })
inside_there table bound is root path instance port bit output outside l =
    let fit = all_got (IsInstance table bound l.owner.wires) l.owner.instances instance l.declared (fit_at table bound is root path l.owner l.is_at).instances l.listed in
    let inner = all_got (IsModule table bound) bound.modules l.inner l.inner_module is.modules l.there in
    let width = (all_got (IsLink l.owner.wires fit.widths) l.declared.links l.links.at l.links.link fit.links l.links.listed).width in
    let widths : map (λ (port : BoundPort). width_of port.range) l.inner_module.ports ≡ fit.widths =
    same_Some (map (λ (port : BoundPort). width_of port.range) l.inner_module.ports) fit.widths
    (sym (ap (option_map (λ (m : BoundModule). map (λ (port : BoundPort). width_of port.range) m.ports)) l.there) ∙ ap (port_widths table bound) (sym l.kind) ∙ fit.kind) in
    let wide : width_of l.inner_port.range ≡ parts_width l.links.link.parts =
    same_Some (width_of l.inner_port.range) (parts_width l.links.link.parts)
    (sym (got_map (λ (port : BoundPort). width_of port.range) l.inner_module.ports port l.inner_port l.port_listed)
    ∙ ap (λ (ws : List ℕ). slice_get ws port) widths ∙ ap (slice_get fit.widths) (sym l.links.same_port) ∙ width) in
    let low = slice_get_within (part_bits l.links.link.parts) bit outside l.links.joined in
    let long = bits_long l.links.link.parts in
    let listed : slice_get (instances_of bound l.is_at.0) instance ≡ Some l.declared = ap (λ (o : Option BoundModule). slice_get (unwrap_or (option_map (λ (m : BoundModule). m.instances) o) []) instance) l.is_at.2 ∙ l.listed in
    record {
      owner = l.inner_module;
      is_at = (l.inner, leads_last bound root path l.is_at.0 instance l.inner l.declared l.is_at.1 listed l.kind, l.there);
      declared = port_wire l.inner_port;
      listed = subst (λ (ws : List BoundWire). slice_get ws port ≡ Some (port_wire l.inner_port)) (sym inner.wires)
          (got_left (map port_wire l.inner_module.ports) inner.others port (port_wire l.inner_port) (got_map port_wire l.inner_module.ports port l.inner_port l.port_listed));
      within = omega arith;
    }

-- ---- hops and drivers

pub follows_there : (table : CellTable) (bound : Bound) → IsBound table bound → (root : ℕ) (before after : Place) → Follows bound root before after → IsPlaceIn bound root before × IsPlaceIn bound root after
follows_there table bound is root _ _ (assign path owner from to at a) =
    let fit = all_got (IsAssign owner.wires) owner.assigns a.at a.assign (fit_at table bound is root path owner at).assigns a.listed in
    let f = bit_there owner.wires a.assign.from fit.from a.bit from a.from_bit in
    let t = bit_there owner.wires a.assign.to fit.to a.bit to a.to_bit in
    (record { owner = owner; is_at = at; declared = f.0; listed = f.1; within = f.2 }, record { owner = owner; is_at = at; declared = t.0; listed = t.1; within = t.2 })
follows_there table bound is root _ _ (into path i port bit outside l) =
    (outside_there table bound is root path l.owner l.is_at i l.declared l.listed port bit outside l.links, inside_there table bound is root path i port bit false outside l)
follows_there table bound is root _ _ (out path i port bit outside l) =
    (inside_there table bound is root path i port bit true outside l, outside_there table bound is root path l.owner l.is_at i l.declared l.listed port bit outside l.links)

pub pin_there : (table : CellTable) (bound : Bound) → IsBound table bound → (cell port : ℕ) (place : Place) → IsPinAt bound cell port place → IsPlaceIn bound bound.top place
pin_there table bound is cell port place p = outside_there table bound is bound.top place.path p.owner p.is_at p.instance p.declared p.listed port 0 (place.wire, place.bit) p.links

pub port_there : (table : CellTable) (bound : Bound) → IsBound table bound → (port : ℕ) (output : Bool) (place : Place) → IsPortAt bound port output place → IsPlaceIn bound bound.top place
port_there table bound is port output place p =
    place_there bound 64 bound.top port place (port_listed table bound is port place (subst (λ (ps : List BoundPort). slice_get (port_places ps) port ≡ Some place) (sym (ports_at bound p.top p.there)) p.numbered))

pub starts_there : (table : CellTable) (bound : Bound) → IsBound table bound → (from : Driver) (place : Place) → StartsAt table bound from place → IsPlaceIn bound bound.top place
starts_there table bound is (driver.Port port) place s = port_there table bound is port false place s
starts_there table bound is (driver.Out cell output) place s = pin_there table bound is cell (reading_pins_of table bound cell + output) place s

pub drives_there : (table : CellTable) (bound : Bound) → IsBound table bound → (from : Driver) (place : Place) → Drives table bound from place → IsPlaceIn bound bound.top place
drives_there table bound is from place (starts _ s) = starts_there table bound is from place s
drives_there table bound is from place (follows before _ d f) = (follows_there table bound is bound.top before place f).1
