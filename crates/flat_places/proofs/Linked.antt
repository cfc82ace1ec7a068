-- The links of pieces are the hops.
use Rattle.std.proofs.Common.{◌≡◌, ◌∙◌, ◌+◌, ℕ, zero, suc, Bool, true, false, List, [], ◌∷◌, ◌++◌, map, take, sum_by, Option, Some, None, refl, sym, ap, subst, arith}
use Rattle.std.specs.Prelude.{slice_get, slice_index, unwrap_or, option_to_list}
use Rattle.std.specs.Option.{option_map, option_and_then}
use Rattle.std.specs.List.{All, flat_map, enumerate_from, range_with_len, zip}
use Rattle.std.proofs.lemmas.List.{map-append}
use Rattle.std.proofs.lemmas.Simd.{map-map}
use Rattle.std.proofs.lemmas.List.Sums.{sum_by-cons}
use Rattle.rsfq_ids.specs.declared.table.CellTable.{CellTable}
use Rattle.rsfq_ids.specs.declared.table.CellRow.{CellRow}
use Rattle.flat_aliases.specs.declared.link.Link.{Link}
use Rattle.bind_forms.specs.declared.bound.BoundKind.{BoundKind}
use Rattle.bind_forms.specs.declared.bound.BoundKind.TheVariants.{Module, Cell}
use Rattle.bind_forms.specs.declared.bound.BoundAssign.{BoundAssign}
use Rattle.bind_forms.specs.declared.bound.BoundLink.{BoundLink}
use Rattle.bind_forms.specs.declared.bound.BoundPart.{BoundPart}
use Rattle.bind_forms.specs.declared.bound.BoundPort.{BoundPort}
use Rattle.bind_forms.specs.declared.bound.BoundWire.{BoundWire}
use Rattle.bind_forms.specs.declared.bound.BoundInstance.{BoundInstance}
use Rattle.bind_forms.specs.declared.bound.Bound.{Bound}
use Rattle.bind_forms.specs.Bits.{width_of}
use Rattle.bind_forms.specs.WellFormed.{IsBound, IsInstance, IsAssign, IsLink, IsPart, port_wire, port_widths}
use Rattle.flat_places.specs.Hierarchy.{instances_of, wires_of, module_of, bits_of, bits_by, bit_count, IsDeeper}
use Rattle.flat_places.specs.Places.{Place, deeper_place, part_bits}
use Rattle.flat_places.specs.Hops.{Hop, deeper_hop, own_place, assigns_of, ports_of, assign_hops, link_hop, link_hops, hops_by, hops_in}
use Rattle.flat_places.specs.Numbers.{bits_before, number_in}
use Rattle.flat_places.proofs.Joined.{got_left, got_map, all_got}
use Rattle.flat_places.proofs.Followed.{not_deeper, hops_none, hops_more}
use Rattle.flat_places.specs.Paths.{longer}
use Rattle.flat_places.specs.Bits.{offsets_from, part_numbers, bit_numbers, ends_link, assign_links, port_link, port_links}
use Rattle.flat_places.specs.Pieces.{Piece, empty, cell_piece, links_of_link, instance_piece, pieces_from, inside_piece}
use Rattle.flat_places.specs.Numbered.{number_from, numbered_hop, inside_from}
use Rattle.flat_places.proofs.Lists.{map_same, flat_same, zip_map, numbered_map, range_map, pieces_list}
use Rattle.flat_places.proofs.Unfolded.{instance_with, inside_more, of_module, are_fit, module_there, row_there}
use Rattle.flat_places.proofs.Sizes.{one_size, inside_size}
use Rattle.flat_places.proofs.Numbered.{number_own, number_deeper}

-- ---- numbers

-- the number of a place inside an instance
pub deeper_number : (bound : Bound) (levels at start instance inner : ℕ) (declared : BoundInstance) (place : Place) → slice_get (instances_of bound at) instance ≡ Some declared → declared.kind ≡ Module inner →
    number_from bound (suc levels) at start (deeper_place instance place) ≡ number_from bound levels inner (start + bits_before bound levels at instance) place
deeper_number bound levels at start instance inner declared place e k =
    let more = number_deeper bound levels at instance place.path place.wire place.bit in
    let opened : option_and_then (λ (declared : BoundInstance). module_of declared.kind) (slice_get (instances_of bound at) instance) ≡ Some inner =
    ap (option_and_then (λ (declared : BoundInstance). module_of declared.kind)) e ∙ ap module_of k in
    let there : unwrap_or (option_map (λ inner. number_in bound levels inner place.path place.wire place.bit) (option_and_then (λ declared. module_of declared.kind) (slice_get (instances_of bound at) instance))) 0
    ≡ number_in bound levels inner place.path place.wire place.bit = ap (λ (o : Option ℕ). unwrap_or (option_map (λ inner. number_in bound levels inner place.path place.wire place.bit) o) 0) opened in
    omega (arith, more, there)

-- where a wire begins
pub offset_is : (start : ℕ) (wires : List BoundWire) (at : ℕ) (wire : BoundWire) → slice_get wires at ≡ Some wire → slice_index (offsets_from start wires) at ≡ start + bits_of (take at wires)
offset_is start [] at wire e = absurd cc
offset_is start (w ∷ wires) zero wire e = omega arith
offset_is start (w ∷ wires) (suc at) wire e =
    let rest = offset_is (start + width_of w.range) wires at wire e in
    let sum = sum_by-cons (λ (wire : BoundWire). width_of wire.range) w (take at wires) in
    omega (arith, rest, sum)

-- the numbers of the bits of parts
pub bits_are : (bound : Bound) (levels at start : ℕ) (parts : List BoundPart) → All (IsPart (wires_of bound at)) parts →
    bit_numbers (offsets_from start (wires_of bound at)) parts ≡ map (λ bit. number_from bound levels at start (own_place bit)) (part_bits parts)
bits_are bound levels at start parts all = flat_same (λ (bit : ℕ × ℕ). number_from bound levels at start (own_place bit)) (part_numbers (offsets_from start (wires_of bound at))) (λ (part : BoundPart). map (λ bit. (part.wire, part.bit + bit)) (range_with_len 0 part.count)) parts (λ i part e. one part (all_got (IsPart (wires_of bound at)) parts i part all e)) where
  one : (part : BoundPart) → IsPart (wires_of bound at) part → part_numbers (offsets_from start (wires_of bound at)) part ≡
      map (λ (bit : ℕ × ℕ). number_from bound levels at start (own_place bit)) (map (λ (bit : ℕ). (part.wire, part.bit + bit)) (range_with_len 0 part.count))
  one part is =
      range_map (λ (bit : ℕ). start + number_in bound levels at [] part.wire (part.bit + bit)) (slice_index (offsets_from start (wires_of bound at)) part.wire + part.bit) 0 part.count
      (λ i. let own = number_own bound levels at part.wire (part.bit + (0 + i)) in let off = offset_is start (wires_of bound at) part.wire is.wire is.there in omega (arith, own, off))
      ∙ sym (map-map (λ (bit : ℕ × ℕ). number_from bound levels at start (own_place bit)) (λ (bit : ℕ). (part.wire, part.bit + bit)) (range_with_len 0 part.count))

-- ---- links

assign_are : (bound : Bound) (levels at start : ℕ) (assign : BoundAssign) → IsAssign (wires_of bound at) assign →
    assign_links (offsets_from start (wires_of bound at)) assign ≡ map (numbered_hop bound levels at start) (assign_hops assign)
assign_are bound levels at start assign is =
    ap (λ (bits : List ℕ). map ends_link (zip bits (bit_numbers (offsets_from start (wires_of bound at)) assign.to))) (bits_are bound levels at start assign.from is.from)
    ∙ ap (λ (bits : List ℕ). map ends_link (zip (map (λ bit. number_from bound levels at start (own_place bit)) (part_bits assign.from)) bits)) (bits_are bound levels at start assign.to is.to)
    ∙ ap (map ends_link) (zip_map (λ (bit : ℕ × ℕ). number_from bound levels at start (own_place bit)) (part_bits assign.from) (part_bits assign.to))
    ∙ map-map ends_link (λ (p : (ℕ × ℕ) × (ℕ × ℕ)). (number_from bound levels at start (own_place p.0), number_from bound levels at start (own_place p.1))) (zip (part_bits assign.from) (part_bits assign.to))
    ∙ sym (map-map (numbered_hop bound levels at start) (λ (bits : (ℕ × ℕ) × (ℕ × ℕ)). record { from = own_place bits.0; to = own_place bits.1 }) (zip (part_bits assign.from) (part_bits assign.to)))

-- the links of a link of an instance whose wires begin where they do
link_are : (table : CellTable) (bound : Bound) → IsBound table bound → (levels at start instance inner : ℕ) (declared : BoundInstance) → slice_get (instances_of bound at) instance ≡ Some declared → declared.kind ≡ Module inner →
    (link : BoundLink) → All (IsPart (wires_of bound at)) link.parts →
    links_of_link (ports_of bound inner) (offsets_from (start + bits_before bound levels at instance) (wires_of bound inner)) (offsets_from start (wires_of bound at)) link
    ≡ map (numbered_hop bound (suc levels) at start) (link_hops instance (ports_of bound inner) link)
link_are table bound is levels at start instance inner declared e k link all = go (slice_get (ports_of bound inner) link.port) refl where
  one_bit : (port : BoundPort) → slice_get (ports_of bound inner) link.port ≡ Some port → (output : Bool) (p : ℕ × (ℕ × ℕ)) →
      port_link (slice_index (offsets_from (start + bits_before bound levels at instance) (wires_of bound inner)) link.port) output (p.0, number_from bound (suc levels) at start (own_place p.1))
      ≡ numbered_hop bound (suc levels) at start (link_hop instance link.port output p)
  one_bit port there output p = by_direction output where
    fit : (others : List BoundWire) × (wires_of bound inner ≡ map port_wire (ports_of bound inner) ++ others)
    fit = (let f = are_fit table bound is inner in (f.others, f.wires))

    wire_there : slice_get (wires_of bound inner) link.port ≡ Some (port_wire port)
    wire_there = subst (λ (ws : List BoundWire). slice_get ws link.port ≡ Some (port_wire port)) (sym fit.1) (got_left (map port_wire (ports_of bound inner)) fit.0 link.port (port_wire port) (got_map port_wire (ports_of bound inner) link.port port there))

    same : slice_index (offsets_from (start + bits_before bound levels at instance) (wires_of bound inner)) link.port + p.0 ≡ number_from bound (suc levels) at start (record { path = instance ∷ []; wire = link.port; bit = p.0 })
    same =
        let off = offset_is (start + bits_before bound levels at instance) (wires_of bound inner) link.port (port_wire port) wire_there in
        let deep = deeper_number bound levels at start instance inner declared (own_place (link.port, p.0)) e k in
        let own = number_own bound levels inner link.port p.0 in
        omega (arith, off, deep, own)

    by_direction : (output : Bool) → port_link (slice_index (offsets_from (start + bits_before bound levels at instance) (wires_of bound inner)) link.port) output (p.0, number_from bound (suc levels) at start (own_place p.1))
        ≡ numbered_hop bound (suc levels) at start (link_hop instance link.port output p)
    by_direction true = ap (λ (n : ℕ). let l : Link = record { from = n; to = number_from bound (suc levels) at start (own_place p.1) } in l) same
    by_direction false = ap (λ (n : ℕ). let l : Link = record { from = number_from bound (suc levels) at start (own_place p.1); to = n } in l) same

  of_port : (port : BoundPort) → slice_get (ports_of bound inner) link.port ≡ Some port →
      port_links (offsets_from start (wires_of bound at)) (slice_index (offsets_from (start + bits_before bound levels at instance) (wires_of bound inner)) link.port) port.output link.parts
      ≡ map (numbered_hop bound (suc levels) at start) (map (link_hop instance link.port port.output) (enumerate_from 0 (part_bits link.parts)))
  of_port port there =
      let first = slice_index (offsets_from (start + bits_before bound levels at instance) (wires_of bound inner)) link.port in
      ap (λ (bits : List ℕ). map (port_link first port.output) (enumerate_from 0 bits)) (bits_are bound (suc levels) at start link.parts all)
      ∙ ap (map (port_link first port.output)) (numbered_map (λ (bit : ℕ × ℕ). number_from bound (suc levels) at start (own_place bit)) 0 (part_bits link.parts))
      ∙ map-map (port_link first port.output) (λ (p : ℕ × (ℕ × ℕ)). (p.0, number_from bound (suc levels) at start (own_place p.1))) (enumerate_from 0 (part_bits link.parts))
      ∙ map_same (λ (p : ℕ × (ℕ × ℕ)). port_link first port.output (p.0, number_from bound (suc levels) at start (own_place p.1))) (λ (p : ℕ × (ℕ × ℕ)). numbered_hop bound (suc levels) at start (link_hop instance link.port port.output p))
      (enumerate_from 0 (part_bits link.parts)) (λ p. one_bit port there port.output p)
      ∙ sym (map-map (numbered_hop bound (suc levels) at start) (link_hop instance link.port port.output) (enumerate_from 0 (part_bits link.parts)))

  go : (o : Option BoundPort) → slice_get (ports_of bound inner) link.port ≡ o →
      flat_map (λ (port : BoundPort). port_links (offsets_from start (wires_of bound at)) (slice_index (offsets_from (start + bits_before bound levels at instance) (wires_of bound inner)) link.port) port.output link.parts) (option_to_list o)
      ≡ map (numbered_hop bound (suc levels) at start) (flat_map (λ (port : BoundPort). map (link_hop instance link.port port.output) (enumerate_from 0 (part_bits link.parts))) (option_to_list o))
  go None there = refl
  go (Some port) there = flat_same (numbered_hop bound (suc levels) at start) (λ (port : BoundPort). port_links (offsets_from start (wires_of bound at)) (slice_index (offsets_from (start + bits_before bound levels at instance) (wires_of bound inner)) link.port) port.output link.parts) (λ (port : BoundPort). map (link_hop instance link.port port.output) (enumerate_from 0 (part_bits link.parts))) (port ∷ []) (λ i x f. one_item i x f) where
    one_item : (i : ℕ) (x : BoundPort) → slice_get (port ∷ []) i ≡ Some x →
        port_links (offsets_from start (wires_of bound at)) (slice_index (offsets_from (start + bits_before bound levels at instance) (wires_of bound inner)) link.port) x.output link.parts
        ≡ map (numbered_hop bound (suc levels) at start) (map (link_hop instance link.port x.output) (enumerate_from 0 (part_bits link.parts)))
    one_item zero x f = of_port x (there ∙ f)
    one_item (suc i) x f = absurd cc

-- ---- pieces

one_linked : (table : CellTable) (bound : Bound) → IsBound table bound → (levels at : ℕ) → (IsDeeper bound (suc levels) at → ⊥) →
    ((inner : ℕ) → (IsDeeper bound levels inner → ⊥) → (path : Option (List ℕ)) (start : ℕ) → (inside_from table bound levels inner path start).links ≡ map (numbered_hop bound levels inner start) (hops_in bound levels inner)) →
    (path : Option (List ℕ)) (start i : ℕ) (x : BoundInstance) → slice_get (instances_of bound at) i ≡ Some x →
    (instance_with table bound levels path (offsets_from start (wires_of bound at)) (start + bits_before bound levels at i) x).links ≡ map (numbered_hop bound (suc levels) at start) (hops_by bound (hops_in bound levels) i x.links x.kind)
one_linked table bound is levels at deep law path start i x e = go x.kind refl where
  fit : IsInstance table bound (wires_of bound at) x
  fit = all_got (IsInstance table bound (wires_of bound at)) (instances_of bound at) i x (are_fit table bound is at).instances e

  base : ℕ
  base = start + bits_before bound levels at i

  go : (kind : BoundKind) → x.kind ≡ kind → (instance_piece table bound (inside_piece table bound levels) path (offsets_from start (wires_of bound at)) (start + bits_before bound levels at i) x.name x.links kind).links
      ≡ map (numbered_hop bound (suc levels) at start) (hops_by bound (hops_in bound levels) i x.links kind)
  go (Cell number) k =
      let row = row_there table bound number fit.widths (subst (λ (kind : BoundKind). port_widths table bound kind ≡ Some fit.widths) k fit.kind) in
      ap (λ (o : Option CellRow). (unwrap_or (option_map (λ (r : CellRow). cell_piece (longer path x.name) number r x.links (offsets_from start (wires_of bound at))) o) empty).links) row.1
  go (Module inner) k =
      let there = module_there table bound inner fit.widths (subst (λ (kind : BoundKind). port_widths table bound kind ≡ Some fit.widths) k fit.kind) in
      let base = start + bits_before bound levels at i in
      let whole = ap (λ (p : Piece). p.links) (of_module table bound levels inner path (offsets_from start (wires_of bound at)) base x.name x.links there) in
      let inside = law inner (not_deeper bound levels at i inner x e k deep) (Some (longer path x.name)) base in
      let own : flat_map (links_of_link (ports_of bound inner) (offsets_from base (wires_of bound inner)) (offsets_from start (wires_of bound at))) x.links
      ≡ map (numbered_hop bound (suc levels) at start) (flat_map (link_hops i (ports_of bound inner)) x.links) =
      flat_same (numbered_hop bound (suc levels) at start) (links_of_link (ports_of bound inner) (offsets_from base (wires_of bound inner)) (offsets_from start (wires_of bound at))) (link_hops i (ports_of bound inner)) x.links
      (λ j link f. link_are table bound is levels at start i inner x e k link (all_got (IsLink (wires_of bound at) fit.widths) x.links j link fit.links f).parts) in
      let deeper : map (numbered_hop bound levels inner base) (hops_in bound levels inner) ≡ map (numbered_hop bound (suc levels) at start) (map (deeper_hop i) (hops_in bound levels inner)) =
      map_same (numbered_hop bound levels inner base) (λ (hop : Hop). numbered_hop bound (suc levels) at start (deeper_hop i hop)) (hops_in bound levels inner)
      (λ hop. ap (λ (n : ℕ). let l : Link = record { from = n; to = number_from bound levels inner base hop.to } in l) (sym (deeper_number bound levels at start i inner x hop.from e k))
      ∙ ap (λ (n : ℕ). let l : Link = record { from = number_from bound (suc levels) at start (deeper_place i hop.from); to = n } in l) (sym (deeper_number bound levels at start i inner x hop.to e k)))
      ∙ sym (map-map (numbered_hop bound (suc levels) at start) (deeper_hop i) (hops_in bound levels inner)) in
      whole
      ∙ ap (λ (ls : List Link). ls ++ (inside_from table bound levels inner (Some (longer path x.name)) base).links) own
      ∙ ap (λ (ls : List Link). map (numbered_hop bound (suc levels) at start) (flat_map (link_hops i (ports_of bound inner)) x.links) ++ ls) (inside ∙ deeper)
      ∙ sym (map-append (numbered_hop bound (suc levels) at start) (flat_map (link_hops i (ports_of bound inner)) x.links) (map (deeper_hop i) (hops_in bound levels inner)))

pub inside_links : (table : CellTable) (bound : Bound) → IsBound table bound → (levels at : ℕ) → (IsDeeper bound levels at → ⊥) → (path : Option (List ℕ)) (start : ℕ) →
    (inside_from table bound levels at path start).links ≡ map (numbered_hop bound levels at start) (hops_in bound levels at)
inside_links table bound is zero at deep path start = absurd (deep ([], refl, refl))
inside_links table bound is (suc levels) at deep path start =
    let offsets = offsets_from start (wires_of bound at) in
    let one = instance_with table bound levels path offsets in
    let size = λ (instance : BoundInstance). bits_by (bit_count bound levels) instance.kind in
    let number = numbered_hop bound (suc levels) at start in
    let hops = λ (p : ℕ × BoundInstance). hops_by bound (hops_in bound levels) p.0 p.1.links p.1.kind in
    let whole = ap (λ (p : Piece). p.links) (inside_more table bound levels at path offsets (start + bits_of (wires_of bound at))) in
    let own : flat_map (assign_links offsets) (assigns_of bound at) ≡ map number (flat_map assign_hops (assigns_of bound at)) =
    flat_same number (assign_links offsets) assign_hops (assigns_of bound at) (λ i assign e. assign_are bound (suc levels) at start assign (all_got (IsAssign (wires_of bound at)) (assigns_of bound at) i assign (are_fit table bound is at).assigns e)) in
    let rest : (pieces_from one (start + bits_of (wires_of bound at)) (instances_of bound at)).links ≡ flat_map (λ (p : ℕ × BoundInstance). map number (hops p)) (enumerate_from 0 (instances_of bound at)) =
    pieces_list (λ (p : Piece). p.links) (λ a b. refl) refl one size (λ (p : ℕ × BoundInstance). map number (hops p)) (start + bits_of (wires_of bound at)) 0 (instances_of bound at)
    (λ i x e b. one_size table bound is levels at deep (inside_size table bound is levels) path offsets i x e b)
    (λ i x e.
    let b : start + bits_before bound levels at i ≡ start + bits_of (wires_of bound at) + sum_by size (take i (instances_of bound at)) = omega arith in
    let z : i ≡ 0 + i = omega arith in
    subst (λ (c : ℕ). (one c x).links ≡ map number (hops (0 + i, x))) b (subst (λ (k : ℕ). (one (start + bits_before bound levels at i) x).links ≡ map number (hops (k, x))) z (one_linked table bound is levels at deep (inside_links table bound is levels) path start i x e))) in
    whole
    ∙ ap (λ (ls : List Link). ls ++ (pieces_from one (start + bits_of (wires_of bound at)) (instances_of bound at)).links) own
    ∙ ap (λ (ls : List Link). map number (flat_map assign_hops (assigns_of bound at)) ++ ls) (rest ∙ flat_same number (λ (p : ℕ × BoundInstance). map number (hops p)) hops (enumerate_from 0 (instances_of bound at)) (λ i p e. refl))
    ∙ sym (map-append number (flat_map assign_hops (assigns_of bound at)) (flat_map hops (enumerate_from 0 (instances_of bound at))))
    ∙ ap (map number) (sym (hops_more bound levels at))
