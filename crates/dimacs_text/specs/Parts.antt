-- How a text divides into parts: lines, which end at newlines, and words, which blanks part.
use Rattle.std.specs.Prelude.{◌≡◌, ◌<◌, ◌≤◌, ℕ, ◌+◌, ◌-◌, length, take, drop, ◌==◌, ◌||◌, Bool, true, false, not, if◌then◌else◌, List, [], ◌∷◌}
use Rattle.std.specs.List.{filter}

-- a part of a text: the place of its first byte, and its bytes
pub record Part : Type 0 where
  pub start : ℕ
  pub bytes : List ℕ

-- the bytes up to the first one at which a part ends
abbrev pub front : (ℕ → Bool) → List ℕ → List ℕ
front ends [] = []
front ends (b ∷ bs) = if ends b then [] else b ∷ front ends bs

-- one byte more at the front of the first part
abbrev pub with_byte : ℕ → ℕ → List Part → List Part
with_byte at b [] = record { start = at; bytes = b ∷ [] } ∷ []
with_byte at b (part ∷ parts) = record { start = at; bytes = b ∷ part.bytes } ∷ parts

-- the parts of bytes that begin at a place; each ends before a byte that ends parts, or with the text
abbrev pub parts : (ℕ → Bool) → ℕ → List ℕ → List Part
parts ends at [] = []
parts ends at (b ∷ bs) =
    if ends b then record { start = at; bytes = [] } ∷ parts ends (at + 1) bs else with_byte at b (parts ends (at + 1) bs)

abbrev pub is_newline : ℕ → Bool
is_newline b = b == 10

-- space, newline, tab, carriage return, form feed
abbrev pub is_blank : ℕ → Bool
is_blank b = b == 32 || b == 10 || b == 9 || b == 13 || b == 12

abbrev pub is_space : ℕ → Bool
is_space b = b == 32

abbrev pub is_empty : List ℕ → Bool
is_empty [] = true
is_empty (b ∷ bs) = false

abbrev pub has_bytes : Part → Bool
has_bytes part = not (is_empty part.bytes)

-- the lines of bytes that begin at a place
abbrev pub lines : ℕ → List ℕ → List Part
lines at bytes = parts is_newline at bytes

-- the parts that have bytes
abbrev pub words : (ℕ → Bool) → ℕ → List ℕ → List Part
words ends at bytes = filter has_bytes (parts ends at bytes)

-- the first of the words from a place on, where spaces alone part words: it begins and ends at these places
pub record IsFirstField (text : List ℕ) (at start end : ℕ) : Type 0 where
  pub first : words is_space at (drop at text) ≡ record { start = start; bytes = take (end - start) (drop start text) } ∷ words is_space end (drop end text)
  pub from : at ≤ start
  pub some : start < end
  pub within : end ≤ length text
