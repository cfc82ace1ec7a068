-- The numbers of the bits of wires, where a module stands among all places.
use Rattle.std.specs.Prelude.{ℕ, ◌+◌, ◌==◌, Bool, true, false, cond, List, [], ◌∷◌, map, slice_get, slice_index, Option}
use Rattle.std.specs.Option.{option_map}
use Rattle.std.specs.List.{flat_map, enumerate_from, range_with_len, zip}
use Rattle.flat_aliases.specs.declared.link.Link.{Link}
use Rattle.bind_forms.specs.declared.bound.BoundAssign.{BoundAssign}
use Rattle.bind_forms.specs.declared.bound.BoundLink.{BoundLink}
use Rattle.bind_forms.specs.declared.bound.BoundPart.{BoundPart}
use Rattle.bind_forms.specs.declared.bound.BoundWire.{BoundWire}
use Rattle.bind_forms.specs.Bits.{width_of}

-- where the bits of each wire begin, those of the first one at the base
abbrev pub offsets_from : ℕ → List BoundWire → List ℕ
offsets_from base [] = []
offsets_from base (wire ∷ wires) = base ∷ offsets_from (base + width_of wire.range) wires

-- the numbers of the bits of a part and of parts, from the right, where wires begin at these offsets
abbrev pub part_numbers : List ℕ → BoundPart → List ℕ
part_numbers offsets part = range_with_len (slice_index offsets part.wire + part.bit) part.count

abbrev pub bit_numbers : List ℕ → List BoundPart → List ℕ
bit_numbers offsets parts = flat_map (part_numbers offsets) parts

-- the link between two places
abbrev pub ends_link : ℕ × ℕ → Link
ends_link ends = record { from = ends.0; to = ends.1 }

-- the links of an assign, bit by bit
abbrev pub assign_links : List ℕ → BoundAssign → List Link
assign_links offsets assign = map ends_link (zip (bit_numbers offsets assign.from) (bit_numbers offsets assign.to))

-- the link of a port's bit, where the port begins at a number, and a place outside: out of an output, into an input
abbrev pub port_link : ℕ → Bool → ℕ × ℕ → Link
port_link start true bit = record { from = start + bit.0; to = bit.1 }
port_link start false bit = record { from = bit.1; to = start + bit.0 }

-- the links of a port that begins at a number with the bits of parts outside
abbrev pub port_links : List ℕ → ℕ → Bool → List BoundPart → List Link
port_links offsets start output parts = map (port_link start output) (enumerate_from 0 (bit_numbers offsets parts))

-- the parts that a port is linked to, if it is linked
abbrev pub linked_parts : List BoundLink → ℕ → List BoundPart
linked_parts [] port = []
linked_parts (link ∷ links) port = cond (link.port == port) link.parts (linked_parts links port)

-- the number of the bit at the right end of what a port is linked to
abbrev pub linked_number : List ℕ → List BoundLink → ℕ → Option ℕ
linked_number offsets links port = option_map (λ part. slice_index offsets part.wire + part.bit) (slice_get (linked_parts links port) 0)

-- those of as many ports, from one on
abbrev pub linked_numbers : List ℕ → List BoundLink → ℕ → ℕ → List (Option ℕ)
linked_numbers offsets links first count = map (linked_number offsets links) (range_with_len first count)
