-- Ranges of vectors, and the bits of wires by their places and printed names.
use Rattle.std.specs.Prelude.{◌≡◌, ℕ, ◌+◌, ◌-◌, ◌≤◌, nat_le, if◌then◌else◌, List, ◌++◌, map, codes, decimal, Option, Some, None}
use Rattle.std.specs.List.{range_with_len}

-- How many bits a range [left:right] has, whichever way it goes. One of the two differences is 0. A scalar is one bit wide.
abbrev pub width_of : Option (ℕ × ℕ) → ℕ
width_of None = 1
width_of (Some range) = (range.0 - range.1) + (range.1 - range.0) + 1

-- the index of the bit at a place, where the right end of the range is place 0
abbrev pub index_at : ℕ × ℕ → ℕ → ℕ
index_at range place = if nat_le range.1 range.0 then range.1 + place else range.1 - place

-- the printed name of the bit at a place: that of a scalar is its name, that of a vector has the bit's index behind it, as a[3]
abbrev pub bit_name : List ℕ → Option (ℕ × ℕ) → ℕ → List ℕ
bit_name name None place = name
bit_name name (Some range) place = name ++ codes "[" ++ decimal (index_at range place) ++ codes "]"

-- the printed names of a wire's bits, from the right end of its range
abbrev pub bit_names : List ℕ → Option (ℕ × ℕ) → List (List ℕ)
bit_names name range = map (bit_name name range) (range_with_len 0 (width_of range))

-- A select [left:right] of a range takes `count` bits from place `bit` up: it goes the way of the range, and lies within it.
pub record Selects (range select : ℕ × ℕ) (bit count : ℕ) : Type 0 where
  pub some : 1 ≤ count
  pub within : bit + count ≤ width_of (Some range)
  pub right : index_at range bit ≡ select.1
  pub left : index_at range (bit + count - 1) ≡ select.0
