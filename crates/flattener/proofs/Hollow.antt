-- Modules that hold neither a place nor a cell come to nothing.
use Rattle.std.proofs.Common.{◌≡◌, ◌∙◌, ◌+◌, ◌<◌, ◌≤◌, ℕ, zero, suc, List, [], ◌∷◌, ◌++◌, map, sum_by, Option, Some, None, refl, sym, ap, subst, arith}
use Rattle.std.specs.Prelude.{slice_get, unwrap_or}
use Rattle.std.specs.Option.{option_map}
use Rattle.std.specs.List.{All, flat_map, zip}
use Rattle.std.proofs.lemmas.List.Sums.{sum_by-cons}
use Rattle.rsfq_ids.specs.declared.table.CellTable.{CellTable}
use Rattle.flat_aliases.specs.declared.link.Link.{Link}
use Rattle.bind_forms.specs.declared.bound.BoundPart.{BoundPart}
use Rattle.bind_forms.specs.declared.bound.BoundWire.{BoundWire}
use Rattle.bind_forms.specs.declared.bound.BoundPort.{BoundPort}
use Rattle.bind_forms.specs.declared.bound.BoundLink.{BoundLink}
use Rattle.bind_forms.specs.declared.bound.BoundAssign.{BoundAssign}
use Rattle.bind_forms.specs.declared.bound.BoundInstance.{BoundInstance}
use Rattle.bind_forms.specs.declared.bound.BoundModule.{BoundModule}
use Rattle.bind_forms.specs.declared.bound.Bound.{Bound}
use Rattle.bind_forms.specs.declared.bound.BoundKind.{BoundKind}
use Rattle.bind_forms.specs.declared.bound.BoundKind.TheVariants.{Module, Cell}
use Rattle.bind_forms.specs.Bits.{width_of}
use Rattle.bind_forms.specs.WellFormed.{IsPart, IsAssign, IsLink, IsInstance, IsModule, IsBound, port_wire, port_widths}
use Rattle.flat_places.specs.Assigns.{different}
use Rattle.flat_places.proofs.Different.{all_different}
use Rattle.flat_places.specs.Hierarchy.{instances_of, wires_of, bits_of, bits_by, cells_by, bit_count, cell_count}
use Rattle.flat_places.specs.Bits.{offsets_from, bit_numbers, ends_link, assign_links}
use Rattle.flat_places.specs.Paths.{longer}
use Rattle.flat_places.specs.Pieces.{Piece, empty, joined, only_places, only_links, module_piece, instance_piece, pieces_from, inside_piece}
use Rattle.flattener.proofs.Lists.{all_tail}
use Rattle.flat_places.proofs.Joined.{all_got, mapped_from}

-- ---- sums that are 0

sum_zero : {X : Type 0} (f : X → ℕ) (xs : List X) → sum_by f xs ≡ 0 → (k : ℕ) (x : X) → slice_get xs k ≡ Some x → f x ≡ 0
sum_zero f [] e k x g = absurd cc
sum_zero f (y ∷ xs) e zero x g = let more = sum_by-cons f y xs in let same = ap (option_map f) g in let here : f y ≡ 0 = omega (arith, more, e) in sym (some_is same) ∙ here where
  some_is : Some (f y) ≡ Some (f x) → f y ≡ f x
  some_is s = cc
sum_zero f (y ∷ xs) e (suc k) x g = let more = sum_by-cons f y xs in sum_zero f xs (omega (arith, more, e)) k x g

some_width : (range : Option (ℕ × ℕ)) → 1 ≤ width_of range
some_width None = omega arith
some_width (Some range) = omega arith

no_wires : (wires : List BoundWire) → bits_of wires ≡ 0 → wires ≡ []
no_wires [] e = refl
no_wires (wire ∷ wires) e = let more = sum_by-cons (λ (w : BoundWire). width_of w.range) wire wires in let one = some_width wire.range in absurd (omega (arith, more, one, e))

-- ---- without wires there are no parts, assigns' links and ports

no_parts : (parts : List BoundPart) → All (IsPart []) parts → parts ≡ []
no_parts [] h = refl
no_parts (part ∷ parts) h = let p = (h 0 part (omega arith)).there in absurd cc

no_assign_links : (offsets : List ℕ) (assigns : List BoundAssign) → All (IsAssign []) assigns → flat_map (assign_links offsets) assigns ≡ []
no_assign_links offsets [] h = refl
no_assign_links offsets (assign ∷ assigns) h =
    ap (λ (parts : List BoundPart). map ends_link (zip (bit_numbers offsets parts) (bit_numbers offsets assign.to)) ++ flat_map (assign_links offsets) assigns) (no_parts assign.from (h 0 assign (omega arith)).from)
    ∙ no_assign_links offsets assigns (all_tail (IsAssign []) assign assigns h)

no_ports : (ports : List BoundPort) (others : List BoundWire) → map port_wire ports ++ others ≡ [] → ports ≡ []
no_ports [] others e = refl
no_ports (port ∷ ports) others e = absurd cc

no_links : (wires : List BoundWire) (links : List BoundLink) → All (IsLink wires []) links → links ≡ []
no_links wires [] h = refl
no_links wires (link ∷ links) h = let w = (h 0 link (omega arith)).width in absurd cc

-- ---- modules

own_wires : (bound : Bound) (counted at : ℕ) (owner : BoundModule) → slice_get bound.modules at ≡ Some owner → bit_count bound (suc counted) at ≡ 0 → owner.wires ≡ []
unfolding bit_count
own_wires bound counted at owner there none =
    let wires : wires_of bound at ≡ owner.wires = ap (λ (o : Option BoundModule). unwrap_or (option_map (λ (m : BoundModule). m.wires) o) []) there in
    let bits : bits_of (wires_of bound at) ≡ 0 = omega (arith, none) in
    no_wires owner.wires (sym (ap bits_of wires) ∙ bits)

inner_bits : (bound : Bound) (counted at : ℕ) (owner : BoundModule) → slice_get bound.modules at ≡ Some owner → bit_count bound (suc counted) at ≡ 0 → (k : ℕ) (instance : BoundInstance) → slice_get owner.instances k ≡ Some instance → bits_by (bit_count bound counted) instance.kind ≡ 0
unfolding bit_count
inner_bits bound counted at owner there none =
    let instances : instances_of bound at ≡ owner.instances = ap (λ (o : Option BoundModule). unwrap_or (option_map (λ (m : BoundModule). m.instances) o) []) there in
    let f = λ (instance : BoundInstance). bits_by (bit_count bound counted) instance.kind in
    let rest : sum_by f (instances_of bound at) ≡ 0 = omega (arith, none) in
    sum_zero f owner.instances (sym (ap (sum_by f) instances) ∙ rest)

pub inner_cells : (bound : Bound) (counted at : ℕ) (owner : BoundModule) → slice_get bound.modules at ≡ Some owner → cell_count bound (suc counted) at ≡ 0 → (k : ℕ) (instance : BoundInstance) → slice_get owner.instances k ≡ Some instance → cells_by (cell_count bound counted) instance.kind ≡ 0
unfolding cell_count
inner_cells bound counted at owner there none =
    let instances : instances_of bound at ≡ owner.instances = ap (λ (o : Option BoundModule). unwrap_or (option_map (λ (m : BoundModule). m.instances) o) []) there in
    let f = λ (instance : BoundInstance). cells_by (cell_count bound counted) instance.kind in
    sum_zero f owner.instances (sym (ap (sum_by f) instances) ∙ none)

-- an instance of a module without wires, inside which there is nothing, comes to nothing
pub hollow_kind : (table : CellTable) (bound : Bound) (inside : ℕ → Option (List ℕ) → List ℕ → ℕ → Piece) (counted at : ℕ) (wires : List BoundWire) (widths : List ℕ) (name : List ℕ) (links : List BoundLink) → IsBound table bound → bit_count bound (suc counted) at ≡ 0 →
    ((path : Option (List ℕ)) (offsets : List ℕ) (base : ℕ) → inside at path offsets base ≡ empty) → port_widths table bound (Module at) ≡ Some widths → All (IsLink wires widths) links →
    (path : Option (List ℕ)) (offsets : List ℕ) (base : ℕ) → instance_piece table bound inside path offsets base name links (Module at) ≡ empty
hollow_kind table bound inside counted at wires widths name links b none law kind fits path offsets base =
    let found = mapped_from (λ (inner : BoundModule). map (λ (port : BoundPort). width_of port.range) inner.ports) (slice_get bound.modules at) widths kind in
    let owner = found.0 in
    let m = all_got (IsModule table bound) bound.modules at owner b.modules found.1 in
    let bare = own_wires bound counted at owner found.1 none in
    let ports : owner.ports ≡ [] = no_ports owner.ports m.others (sym m.wires ∙ bare) in
    let no_widths : widths ≡ [] = sym found.2 ∙ ap (map (λ (port : BoundPort). width_of port.range)) ports in
    let no_link : links ≡ [] = no_links wires links (subst (λ (ws : List ℕ). All (IsLink wires ws) links) no_widths fits) in
    let here = inside at (Some (longer path name)) in
    ap (λ (o : Option BoundModule). unwrap_or (option_map (λ (owner : BoundModule). module_piece here offsets base owner links) o) empty) found.1
    ∙ ap (λ (ls : List BoundLink). module_piece here offsets base owner ls) no_link
    ∙ ap (λ (p : Piece). joined (only_places (bits_of owner.wires)) (joined (only_links []) p)) (law (Some (longer path name)) (offsets_from base owner.wires) (base + bits_of owner.wires))
    ∙ ap (λ (ws : List BoundWire). joined (only_places (bits_of ws)) (joined (only_links []) empty)) bare

hollow_pieces : (one : ℕ → BoundInstance → Piece) (instances : List BoundInstance) → ((k : ℕ) (instance : BoundInstance) → slice_get instances k ≡ Some instance → (base : ℕ) → one base instance ≡ empty) → (base : ℕ) → pieces_from one base instances ≡ empty
hollow_pieces one [] law base = refl
hollow_pieces one (instance ∷ instances) law base =
    ap (λ (p : Piece). joined p (pieces_from one (base + (one base instance).places) instances)) (law 0 instance refl base)
    ∙ ap (joined empty) (hollow_pieces one instances (λ k i e. law (suc k) i e) (base + (one base instance).places))

-- modules that hold neither a place nor a cell, as deep as one level more than the count, come to nothing
abbrev AreHollow : CellTable → Bound → ℕ → ℕ → Type 0
AreHollow table bound levels counted = (inner : ℕ) → levels < suc counted → bit_count bound (suc counted) inner ≡ 0 → cell_count bound (suc counted) inner ≡ 0 →
    (path : Option (List ℕ)) (offsets : List ℕ) (base : ℕ) → inside_piece table bound levels inner path offsets base ≡ empty

pub hollow_inside : (table : CellTable) (bound : Bound) → IsBound table bound → (levels counted at : ℕ) → levels < counted → bit_count bound counted at ≡ 0 → cell_count bound counted at ≡ 0 →
    (path : Option (List ℕ)) (offsets : List ℕ) (base : ℕ) → inside_piece table bound levels at path offsets base ≡ empty
unfolding inside_piece
hollow_inside table bound b zero counted at low bits cells path offsets base = refl
hollow_inside table bound b (suc levels) zero at low bits cells path offsets base = absurd (omega arith)
hollow_inside table bound b (suc levels) (suc zero) at low bits cells path offsets base = absurd (omega arith)
hollow_inside table bound b (suc levels) (suc (suc counted)) at low bits cells path offsets base = go (hollow_inside table bound b levels (suc counted)) (slice_get bound.modules at) refl where
  one : ℕ → BoundInstance → Piece
  one from instance = instance_piece table bound (inside_piece table bound levels) path offsets from instance.name instance.links instance.kind

  by_kind : AreHollow table bound levels counted → (instance : BoundInstance) (wires : List BoundWire) (kind : BoundKind) (widths : List ℕ) → port_widths table bound kind ≡ Some widths → All (IsLink wires widths) instance.links → bits_by (bit_count bound (suc counted)) kind ≡ 0 →
      cells_by (cell_count bound (suc counted)) kind ≡ 0 → (from : ℕ) → instance_piece table bound (inside_piece table bound levels) path offsets from instance.name instance.links kind ≡ empty
  by_kind law instance wires (Cell row) widths k l no_bits no_cells from = absurd cc
  by_kind law instance wires (Module inner) widths k l no_bits no_cells from =
      hollow_kind table bound (inside_piece table bound levels) counted inner wires widths instance.name instance.links b no_bits (law inner (omega arith) no_bits no_cells) k l path offsets from

  each : AreHollow table bound levels counted → (owner : BoundModule) → slice_get bound.modules at ≡ Some owner → IsModule table bound owner → (k : ℕ) (instance : BoundInstance) → slice_get owner.instances k ≡ Some instance → (from : ℕ) → one from instance ≡ empty
  each law owner is m k instance e from =
      let i = all_got (IsInstance table bound owner.wires) owner.instances k instance m.instances e in
      by_kind law instance owner.wires instance.kind i.widths i.kind i.links (inner_bits bound (suc counted) at owner is bits k instance e) (inner_cells bound (suc counted) at owner is cells k instance e) from

  go : AreHollow table bound levels counted → (o : Option BoundModule) → slice_get bound.modules at ≡ o → unwrap_or (option_map (λ (owner : BoundModule). joined (only_links (flat_map (assign_links offsets) (different owner.assigns))) (pieces_from one base owner.instances)) o) empty ≡ empty
  go law None is = refl
  go law (Some owner) is =
      let m = all_got (IsModule table bound) bound.modules at owner b.modules is in
      let bare = own_wires bound (suc counted) at owner is bits in
      ap (λ (links : List Link). joined (only_links links) (pieces_from one base owner.instances)) (no_assign_links offsets (different owner.assigns) (all_different (IsAssign []) owner.assigns (subst (λ (ws : List BoundWire). All (IsAssign ws) owner.assigns) bare m.assigns)))
      ∙ ap (joined (only_links [])) (hollow_pieces one owner.instances (each law owner is m) base)
