-- The port bits that the name of a line stands for.
use Rattle.std.specs.Prelude.{ℕ, ◌+◌, ◌-◌, ◌==◌, Bool, ◌&&◌, if◌then◌else◌, List, ◌++◌, codes, drop, filter, length, map, take}
use Rattle.std.specs.List.{enumerate_from}
use Rattle.std.specs.Str.{bytes_eq}
use Rattle.rsfq_ids.specs.declared.id.PortId.{PortId}
use Rattle.rsfq_ids.specs.declared.circuit.PortBit.{PortBit}
use Rattle.table_fields.specs.Records.{is_number}

-- one digit or more, and then `]`
abbrev pub is_place : List ℕ → Bool
is_place text = is_number (take (length text - 1) text) && bytes_eq (drop (length text - 1) text) (codes "]")

-- A printed name is a name followed by `[`, digits and `]`.
unfoldable pub is_bit_of : List ℕ → List ℕ → Bool
is_bit_of name printed = bytes_eq (take (length name + 1) printed) (name ++ codes "[") && is_place (drop (length name + 1) printed)

-- the port bits whose printed names pass a test, in port order
unfoldable pub places_of : (List ℕ → Bool) → List PortBit → List PortId
places_of passes ports = map (λ (at, port). at) (filter (λ (at, port). passes port.name) (enumerate_from 0 ports))

-- The bits that a name stands for, in port order: the bit of that printed name or, where there is none, all bits whose printed name is that
-- name followed by `[`, digits and `]`.
abbrev pub bits_of : List PortBit → List ℕ → List PortId
bits_of ports name = if length (places_of (bytes_eq name) ports) == 0 then places_of (is_bit_of name) ports else places_of (bytes_eq name) ports
