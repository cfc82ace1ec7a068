-- Where wires begin, and that the bits of parts have numbers.
use Rattle.std.proofs.Common.{◌≡◌, ◌∙◌, ◌+◌, ◌<◌, ◌≤◌, ℕ, zero, suc, List, [], ◌∷◌, map, take, length, get_or, Option, Some, refl, sym, ap, subst, arith, length-append}
use Rattle.std.specs.Prelude.{slice_get}
use Rattle.std.specs.Option.{option_map}
use Rattle.std.specs.List.{All}
use Rattle.std.proofs.lemmas.Option.{same_Some, slice_get_within, get_or_from_slice_get}
use Rattle.std.proofs.lemmas.List.FromFn.{length-range_with_len}
use Rattle.std.proofs.lemmas.List.Sums.{sum_by-cons}
use Rattle.rsfq_ids.specs.declared.table.CellTable.{CellTable}
use Rattle.bind_forms.specs.declared.bound.BoundPart.{BoundPart}
use Rattle.bind_forms.specs.declared.bound.BoundWire.{BoundWire}
use Rattle.bind_forms.specs.declared.bound.BoundPort.{BoundPort}
use Rattle.bind_forms.specs.declared.bound.BoundLink.{BoundLink}
use Rattle.bind_forms.specs.declared.bound.BoundModule.{BoundModule}
use Rattle.bind_forms.specs.declared.bound.Bound.{Bound}
use Rattle.bind_forms.specs.declared.bound.BoundKind.TheVariants.{Module}
use Rattle.bind_forms.specs.Bits.{width_of}
use Rattle.bind_forms.specs.WellFormed.{IsPart, IsLink, IsModule, parts_width, port_wire, port_widths}
use Rattle.flat_places.specs.Hierarchy.{bits_of}
use Rattle.flat_places.specs.Bits.{offsets_from, part_numbers, bit_numbers}
use Rattle.flattener.specs.Wiring.{IsNumbered, AreNumbered, IsNumberedLink}
use Rattle.flattener.specs.Walk.{AreOffsets}
use Rattle.flat_places.proofs.Joined.{got_left, map_got, got_map}

pub offsets_length : (base : ℕ) (wires : List BoundWire) → length (offsets_from base wires) ≡ length wires
offsets_length base [] = refl
offsets_length base (wire ∷ wires) = let rest = offsets_length (base + width_of wire.range) wires in omega (arith, rest)

-- a wire begins behind those before it
pub offset_at : (base : ℕ) (wires : List BoundWire) (k : ℕ) → k < length wires → slice_get (offsets_from base wires) k ≡ Some (base + bits_of (take k wires))
offset_at base [] k low = absurd (omega arith)
offset_at base (wire ∷ wires) zero low = let e : base ≡ base + 0 = omega arith in ap Some e
offset_at base (wire ∷ wires) (suc k) low =
    let more = sum_by-cons (λ (w : BoundWire). width_of w.range) wire (take k wires) in
    let e : base + width_of wire.range + bits_of (take k wires) ≡ base + bits_of (take (suc k) (wire ∷ wires)) = omega (arith, more) in
    offset_at (base + width_of wire.range) wires k (omega arith) ∙ ap Some e

-- a wire's bits end within those of all wires
pub wire_within : (wires : List BoundWire) (k : ℕ) (wire : BoundWire) → slice_get wires k ≡ Some wire → bits_of (take k wires) + width_of wire.range ≤ bits_of wires
wire_within [] k wire e = absurd cc
wire_within (w ∷ wires) zero wire e =
    let same = ap (λ (v : BoundWire). width_of v.range) (same_Some w wire e) in
    let more = sum_by-cons (λ (v : BoundWire). width_of v.range) w wires in
    omega (arith, same, more)
wire_within (w ∷ wires) (suc k) wire e =
    let rest = wire_within wires k wire e in
    let more = sum_by-cons (λ (v : BoundWire). width_of v.range) w wires in
    let taken = sum_by-cons (λ (v : BoundWire). width_of v.range) w (take k wires) in
    omega (arith, rest, more, taken)

pub begins_at : (base : ℕ) (wires : List BoundWire) (k : ℕ) → k < length wires → get_or (offsets_from base wires) k 0 ≡ base + bits_of (take k wires)
begins_at base wires k low = get_or_from_slice_get (offsets_from base wires) k (base + bits_of (take k wires)) 0 (offset_at base wires k low)

-- offsets of equal wires
pub offsets_on : (offsets : List ℕ) (wires others : List BoundWire) → wires ≡ others → AreOffsets offsets wires → AreOffsets offsets others
offsets_on offsets wires others e o = subst (AreOffsets offsets) e o

-- ---- parts

pub part_numbered : (offsets : List ℕ) (wires : List BoundWire) (part : BoundPart) → AreOffsets offsets wires → IsPart wires part → IsNumbered offsets part
part_numbered offsets wires part o p =
    let low : part.wire < length wires = slice_get_within wires part.wire p.wire p.there in
    let len : length offsets ≡ length wires = ap length o.listed ∙ offsets_length o.base wires in
    let start : get_or offsets part.wire 0 ≡ o.base + bits_of (take part.wire wires) = ap (λ (xs : List ℕ). get_or xs part.wire 0) o.listed ∙ begins_at o.base wires part.wire low in
    let within = wire_within wires part.wire p.wire p.there in
    let lies = p.lies.within in
    let small = o.small in
    record { there = omega (arith, low, len); small = omega (arith, start, within, lies, small) }

pub parts_numbered : (offsets : List ℕ) (wires : List BoundWire) (parts : List BoundPart) → AreOffsets offsets wires → All (IsPart wires) parts → AreNumbered offsets parts
parts_numbered offsets wires parts o h = λ k d low. part_numbered offsets wires (get_or parts k d) o (h k d low)

pub bits_length : (offsets : List ℕ) (parts : List BoundPart) → length (bit_numbers offsets parts) ≡ parts_width parts
bits_length offsets [] = refl
bits_length offsets (part ∷ parts) =
    let rest = bits_length offsets parts in
    let both = length-append (part_numbers offsets part) (bit_numbers offsets parts) in
    let here = length-range_with_len (get_or offsets part.wire 0 + part.bit) part.count in
    let more = sum_by-cons (λ (p : BoundPart). p.count) part parts in
    omega (arith, rest, both, here, more)

-- ---- links of instances of modules

-- the port that a link is of
pub linked_port : (table : CellTable) (bound : Bound) (at : ℕ) (owner : BoundModule) (wires : List BoundWire) (widths : List ℕ) (link : BoundLink) → slice_get bound.modules at ≡ Some owner → port_widths table bound (Module at) ≡ Some widths →
    IsLink wires widths link → (port : BoundPort) × (slice_get owner.ports link.port ≡ Some port) × (width_of port.range ≡ parts_width link.parts)
linked_port table bound at owner wires widths link there kind l =
    let widths_are : map (λ (port : BoundPort). width_of port.range) owner.ports ≡ widths =
    same_Some (map (λ (port : BoundPort). width_of port.range) owner.ports) widths (sym (ap (λ (o : Option BoundModule). option_map (λ (inner : BoundModule). map (λ (port : BoundPort). width_of port.range) inner.ports) o) there) ∙ kind) in
    map_got (λ (port : BoundPort). width_of port.range) owner.ports link.port (parts_width link.parts) (subst (λ (ws : List ℕ). slice_get ws link.port ≡ Some (parts_width link.parts)) (sym widths_are) l.width)

-- the wires of a module begin with its ports
pub port_is_wire : (table : CellTable) (bound : Bound) (owner : BoundModule) (at : ℕ) (port : BoundPort) → IsModule table bound owner → slice_get owner.ports at ≡ Some port → slice_get owner.wires at ≡ Some (port_wire port)
port_is_wire table bound owner at port m e =
    subst (λ (ws : List BoundWire). slice_get ws at ≡ Some (port_wire port)) (sym m.wires) (got_left (map port_wire owner.ports) m.others at (port_wire port) (got_map port_wire owner.ports at port e))

pub link_numbered : (table : CellTable) (bound : Bound) (at : ℕ) (owner : BoundModule) (wires : List BoundWire) (widths : List ℕ) (offsets inner : List ℕ) (link : BoundLink) → slice_get bound.modules at ≡ Some owner → IsModule table bound owner →
    port_widths table bound (Module at) ≡ Some widths → AreOffsets offsets wires → AreOffsets inner owner.wires → IsLink wires widths link → IsNumberedLink owner.ports inner offsets link
link_numbered table bound at owner wires widths offsets inner link there m kind o i l =
    let p = linked_port table bound at owner wires widths link there kind l in
    let w = port_is_wire table bound owner link.port p.0 m p.1 in
    let low : link.port < length owner.wires = slice_get_within owner.wires link.port (port_wire p.0) w in
    let len : length inner ≡ length owner.wires = ap length i.listed ∙ offsets_length i.base owner.wires in
    let start : get_or inner link.port 0 ≡ i.base + bits_of (take link.port owner.wires) = ap (λ (xs : List ℕ). get_or xs link.port 0) i.listed ∙ begins_at i.base owner.wires link.port low in
    let within : bits_of (take link.port owner.wires) + width_of (p.0).range ≤ bits_of owner.wires = wire_within owner.wires link.port (port_wire p.0) w in
    let bits = bits_length offsets link.parts in
    let width = p.2 in
    let small = i.small in
    record {
      port = slice_get_within owner.ports link.port p.0 p.1;
      wire = omega (arith, low, len);
      parts = parts_numbered offsets wires link.parts o l.parts;
      small = omega (arith, start, within, bits, width, small);
    }
