-- The place at a pin is the one that the pin is linked to.
use Rattle.std.proofs.Common.{◌≡◌, ◌≢◌, ◌∙◌, ◌+◌, ◌≤◌, ℕ, zero, suc, Bool, true, false, cond, eqb, List, [], ◌∷◌, ◌++◌, map, get_or, Option, Some, None, refl, sym, ap, subst, arith, eq-eqb}
use Rattle.std.specs.Prelude.{slice_get, unwrap_or}
use Rattle.std.specs.Option.{option_map, option_and_then}
use Rattle.std.specs.List.{All, AllPairs, range_with_len}
use Rattle.std.proofs.lemmas.Bool.{ne_eqb, eqb-true}
use Rattle.std.proofs.lemmas.Option.{same_Some, slice_get_within, get_or_from_slice_get}
use Rattle.rsfq_ids.specs.declared.table.CellTable.{CellTable}
use Rattle.bind_forms.specs.declared.bound.BoundKind.{BoundKind}
use Rattle.bind_forms.specs.declared.bound.BoundKind.TheVariants.{Module, Cell}
use Rattle.bind_forms.specs.declared.bound.BoundPart.{BoundPart}
use Rattle.bind_forms.specs.declared.bound.BoundLink.{BoundLink}
use Rattle.bind_forms.specs.declared.bound.BoundWire.{BoundWire}
use Rattle.bind_forms.specs.declared.bound.BoundInstance.{BoundInstance}
use Rattle.bind_forms.specs.declared.bound.BoundModule.{BoundModule}
use Rattle.bind_forms.specs.declared.bound.Bound.{Bound}
use Rattle.bind_forms.specs.WellFormed.{IsBound, IsInstance, IsLink, IsPart}
use Rattle.flat_places.specs.Hierarchy.{instances_of, wires_of, module_of, leads_to}
use Rattle.flat_places.specs.Places.{Place, CellAt, deeper_place, part_bits, cells_of}
use Rattle.flat_places.specs.Drives.{IsModuleAt, Links, IsPinAt}
use Rattle.flat_places.proofs.Followed.{owner_there, leads_on, leads_through}
use Rattle.flat_places.specs.Bits.{linked_parts}
use Rattle.flat_places.specs.Numbered.{pin_place}
use Rattle.flat_places.proofs.Unfolded.{are_fit}
use Rattle.flat_places.proofs.Joined.{all_got, mapped_from}

-- ---- links

-- the parts that a port is linked to are those of a link of it
pub linked_got : (links : List BoundLink) (port k : ℕ) (part : BoundPart) → slice_get (linked_parts links port) k ≡ Some part → (at : ℕ) × (link : BoundLink) × (slice_get links at ≡ Some link) × (link.port ≡ port) × (linked_parts links port ≡ link.parts)
linked_got [] port k part e = absurd cc
linked_got (link ∷ links) port k part e = go (linked_got links port k part) (eqb link.port port) refl e where
  go : (slice_get (linked_parts links port) k ≡ Some part → (at : ℕ) × (one : BoundLink) × (slice_get links at ≡ Some one) × (one.port ≡ port) × (linked_parts links port ≡ one.parts)) →
      (b : Bool) → eqb link.port port ≡ b → slice_get (cond b link.parts (linked_parts links port)) k ≡ Some part →
      (at : ℕ) × (one : BoundLink) × (slice_get (link ∷ links) at ≡ Some one) × (one.port ≡ port) × (cond b link.parts (linked_parts links port) ≡ one.parts)
  go rest true is f = (0, link, refl, eqb-true link.port port is, refl)
  go rest false is f = let r = rest f in (suc r.0, r.1, r.2, r.3, r.4)

-- a port that is linked once is linked to the parts of its link
got_linked : (links : List BoundLink) → AllPairs (λ (one other : BoundLink). one.port ≢ other.port) links → (at : ℕ) (link : BoundLink) → slice_get links at ≡ Some link → linked_parts links link.port ≡ link.parts
got_linked [] once at link e = absurd cc
got_linked (w ∷ links) once zero link e =
    let same = same_Some w link e in
    let test : eqb w.port link.port ≡ true = eq-eqb w.port link.port (ap (λ (l : BoundLink). l.port) same) in
    ap (λ (b : Bool). cond b w.parts (linked_parts links link.port)) test ∙ ap (λ (l : BoundLink). l.parts) same
got_linked (w ∷ links) once (suc at) link e =
    let within = slice_get_within links at link e in
    let is : get_or links at link ≡ link = get_or_from_slice_get links at link link e in
    let apart : w.port ≢ link.port = (λ f. once 0 (suc at) link (omega arith) (omega arith) (f ∙ ap (λ (l : BoundLink). l.port) (sym is))) in
    ap (λ (b : Bool). cond b w.parts (linked_parts links link.port)) (ne_eqb w.port link.port apart)
    ∙ got_linked links (λ i j d l m. once (suc i) (suc j) d (omega arith) (omega arith)) at link e

-- the first bit of parts is that of their first part
first_bit : (wires : List BoundWire) (parts : List BoundPart) → All (IsPart wires) parts → (part : BoundPart) → slice_get parts 0 ≡ Some part → slice_get (part_bits parts) 0 ≡ Some (part.wire, part.bit)
first_bit wires [] all part e = absurd cc
first_bit wires (w ∷ parts) all part e = by_count w.count (all_got (IsPart wires) (w ∷ parts) 0 w all refl).lies.some where
  by_count : (count : ℕ) → 1 ≤ count → slice_get (map (λ bit. (w.wire, w.bit + bit)) (range_with_len 0 count) ++ part_bits parts) 0 ≡ Some (part.wire, part.bit)
  by_count zero some = absurd (omega arith)
  by_count (suc count) some =
      let same = same_Some w part e in
      let z : w.bit + 0 ≡ w.bit = omega arith in
      ap (λ (n : ℕ). let p : ℕ × ℕ = (w.wire, n) in Some p) z ∙ ap (λ (p : BoundPart). let q : ℕ × ℕ = (p.wire, p.bit) in Some q) same

bit_first : (wires : List BoundWire) (parts : List BoundPart) → All (IsPart wires) parts → (bit : ℕ × ℕ) → slice_get (part_bits parts) 0 ≡ Some bit → (part : BoundPart) × (slice_get parts 0 ≡ Some part) × (bit ≡ (part.wire, part.bit))
bit_first wires [] all bit e = absurd cc
bit_first wires (w ∷ parts) all bit e = (w, refl, same_Some bit (w.wire, w.bit) (sym e ∙ first_bit wires (w ∷ parts) all w refl))

-- ---- pins

-- what a pin of a cell behind a path is linked to, in the module that the place's path leads to
pub record PinAt (bound : Bound) (root : ℕ) (path : List ℕ) (port : ℕ) (place : Place) : Type 0 where
  pub instance : ℕ
  pub last : path ≡ place.path ++ instance ∷ []
  pub owner : BoundModule
  pub is_at : IsModuleAt bound root place.path owner
  pub declared : BoundInstance
  pub listed : slice_get owner.instances instance ≡ Some declared
  pub links : Links declared port 0 (place.wire, place.bit)

pub pin_last : (bound : Bound) (at instance port : ℕ) (declared : BoundInstance) → slice_get (instances_of bound at) instance ≡ Some declared →
    pin_place bound at (instance ∷ []) port ≡ option_map (λ (part : BoundPart). record { path = []; wire = part.wire; bit = part.bit }) (slice_get (linked_parts declared.links port) 0)
pin_last bound at instance port declared e =
    ap (option_and_then (λ (declared : BoundInstance). option_map (λ (part : BoundPart). record { path = []; wire = part.wire; bit = part.bit }) (slice_get (linked_parts declared.links port) 0))) e

pub pin_deeper : (bound : Bound) (at instance inner next port : ℕ) (path : List ℕ) (declared : BoundInstance) → slice_get (instances_of bound at) instance ≡ Some declared → declared.kind ≡ Module inner →
    pin_place bound at (instance ∷ (next ∷ path)) port ≡ option_map (deeper_place instance) (pin_place bound inner (next ∷ path) port)
pin_deeper bound at instance inner next port path declared e k =
    ap (option_and_then (λ inner. option_map (deeper_place instance) (pin_place bound inner (next ∷ path) port))) (ap (option_and_then (λ (declared : BoundInstance). module_of declared.kind)) e ∙ ap module_of k)

pub fit_of : (table : CellTable) (bound : Bound) → IsBound table bound → (at i : ℕ) (declared : BoundInstance) → slice_get (instances_of bound at) i ≡ Some declared → IsInstance table bound (wires_of bound at) declared
fit_of table bound is at i declared e = all_got (IsInstance table bound (wires_of bound at)) (instances_of bound at) i declared (are_fit table bound is at).instances e

-- each linked pin has its place
pub pin_placed : (table : CellTable) (bound : Bound) → IsBound table bound → (path : List ℕ) (root instance port wire bit m : ℕ) (declared : BoundInstance) → leads_to bound root path ≡ Some m → slice_get (instances_of bound m) instance ≡ Some declared →
    Links declared port 0 (wire, bit) → pin_place bound root (path ++ instance ∷ []) port ≡ Some (record { path = path; wire = wire; bit = bit })
pin_placed table bound is [] root instance port wire bit m declared leads listed links =
    let there : slice_get (instances_of bound root) instance ≡ Some declared = subst (λ (n : ℕ). slice_get (instances_of bound n) instance ≡ Some declared) (sym (same_Some root m leads)) listed in
    let fit = fit_of table bound is root instance declared there in
    let parts : linked_parts declared.links port ≡ links.link.parts = subst (λ (n : ℕ). linked_parts declared.links n ≡ links.link.parts) links.same_port (got_linked declared.links fit.once links.at links.link links.listed) in
    let all = (all_got (IsLink (wires_of bound root) fit.widths) declared.links links.at links.link fit.links links.listed).parts in
    let first = bit_first (wires_of bound root) links.link.parts all (wire, bit) links.joined in
    pin_last bound root instance port declared there
    ∙ ap (λ (ps : List BoundPart). option_map (λ (part : BoundPart). record { path = []; wire = part.wire; bit = part.bit }) (slice_get ps 0)) parts
    ∙ ap (option_map (λ (part : BoundPart). record { path = []; wire = part.wire; bit = part.bit })) first.1
    ∙ ap (λ (p : ℕ × ℕ). let place : Place = record { path = []; wire = p.0; bit = p.1 } in Some place) (sym first.2)
pin_placed table bound is (i ∷ []) root instance port wire bit m declared leads listed links =
    let t = leads_through bound root i [] m leads in
    pin_deeper bound root i t.1 instance port [] t.0 t.2 t.3 ∙ ap (option_map (deeper_place i)) (pin_placed table bound is [] t.1 instance port wire bit m declared t.4 listed links)
pin_placed table bound is (i ∷ (j ∷ path)) root instance port wire bit m declared leads listed links =
    let t = leads_through bound root i (j ∷ path) m leads in
    pin_deeper bound root i t.1 j port (path ++ instance ∷ []) t.0 t.2 t.3 ∙ ap (option_map (deeper_place i)) (pin_placed table bound is (j ∷ path) t.1 instance port wire bit m declared t.4 listed links)

then_got : {X Y : Type 0} (f : X → Option Y) (o : Option X) (y : Y) → option_and_then f o ≡ Some y → (x : X) × (o ≡ Some x) × (f x ≡ Some y)
then_got f None y e = absurd cc
then_got f (Some x) y e = (x, refl, e)

module_got : (kind : BoundKind) (inner : ℕ) → module_of kind ≡ Some inner → kind ≡ Module inner
module_got (Module at) inner e = ap Module (same_Some at inner e)
module_got (Cell row) inner e = absurd cc

-- each place at a pin is linked to it
pub pin_got : (table : CellTable) (bound : Bound) → IsBound table bound → (path : List ℕ) (root port : ℕ) (place : Place) → pin_place bound root path port ≡ Some place → PinAt bound root path port place
pin_got table bound is [] root port place e = absurd cc
pin_got table bound is (i ∷ []) root port place e =
    let d = then_got (λ (declared : BoundInstance). option_map (λ (part : BoundPart). record { path = []; wire = part.wire; bit = part.bit }) (slice_get (linked_parts declared.links port) 0)) (slice_get (instances_of bound root) i) place e in
    let p = mapped_from (λ (part : BoundPart). record { path = []; wire = part.wire; bit = part.bit }) (slice_get (linked_parts d.0.links port) 0) place d.2 in
    let o = owner_there bound root (λ (owner : BoundModule). owner.instances) i d.0 d.1 in
    let fit = fit_of table bound is root i d.0 d.1 in
    let l = linked_got d.0.links port 0 p.0 p.1 in
    let all = (all_got (IsLink (wires_of bound root) fit.widths) d.0.links l.0 l.1 fit.links l.2).parts in
    let first = first_bit (wires_of bound root) l.1.parts all p.0 (subst (λ (ps : List BoundPart). slice_get ps 0 ≡ Some p.0) l.4 p.1) in
    subst (PinAt bound root (i ∷ []) port) p.2 (record {
      instance = i;
      last = refl;
      owner = o.0;
      is_at = (root, refl, o.1);
      declared = d.0;
      listed = o.2;
      links = record { at = l.0; link = l.1; listed = l.2; same_port = l.3; joined = first };
    })
pin_got table bound is (i ∷ (j ∷ path)) root port place e =
    let n = then_got (λ inner. option_map (deeper_place i) (pin_place bound inner (j ∷ path) port)) (option_and_then (λ (declared : BoundInstance). module_of declared.kind) (slice_get (instances_of bound root) i)) place e in
    let d = then_got (λ (declared : BoundInstance). module_of declared.kind) (slice_get (instances_of bound root) i) n.0 n.1 in
    let k = module_got d.0.kind n.0 d.2 in
    let p = mapped_from (deeper_place i) (pin_place bound n.0 (j ∷ path) port) place n.2 in
    let r = pin_got table bound is (j ∷ path) n.0 port p.0 p.1 in
    subst (PinAt bound root (i ∷ (j ∷ path)) port) p.2 (record {
      instance = r.instance;
      last = ap (λ (rest : List ℕ). i ∷ rest) r.last;
      owner = r.owner;
      is_at = (r.is_at.0, leads_on bound root i n.0 p.0.path d.0 d.1 k ∙ r.is_at.1, r.is_at.2);
      declared = r.declared;
      listed = r.listed;
      links = r.links;
    })

-- ---- the pins of the cells of the whole design

pub pin_sound : (table : CellTable) (bound : Bound) → IsBound table bound → (cell port : ℕ) (found : CellAt) (place : Place) → slice_get (cells_of bound) cell ≡ Some found → pin_place bound bound.top found.path port ≡ Some place → IsPinAt bound cell port place
pin_sound table bound is cell port found place e f =
    let p = pin_got table bound is found.path bound.top port place f in
    record { found = found; numbered = e; instance = p.instance; last = p.last; owner = p.owner; is_at = p.is_at; declared = p.declared; listed = p.listed; links = p.links }

pub pin_complete : (table : CellTable) (bound : Bound) → IsBound table bound → (cell port : ℕ) (found : CellAt) (place : Place) → slice_get (cells_of bound) cell ≡ Some found → IsPinAt bound cell port place → pin_place bound bound.top found.path port ≡ Some place
pin_complete table bound is cell port found place e p =
    let same : p.found ≡ found = same_Some p.found found (sym p.numbered ∙ e) in
    let path : place.path ++ p.instance ∷ [] ≡ found.path = sym p.last ∙ ap (λ (c : CellAt). c.path) same in
    let listed : slice_get (instances_of bound p.is_at.0) p.instance ≡ Some p.declared = ap (λ (o : Option BoundModule). slice_get (unwrap_or (option_map (λ (m : BoundModule). m.instances) o) []) p.instance) p.is_at.2 ∙ p.listed in
    subst (λ (q : List ℕ). pin_place bound bound.top q port ≡ Some place) path (pin_placed table bound is place.path bound.top p.instance port place.wire place.bit p.is_at.0 p.declared p.is_at.1 listed p.links)
