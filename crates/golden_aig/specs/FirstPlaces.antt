-- The first places of texts in a list.
use Rattle.std.specs.Prelude.{◌≡◌, ℕ, List, Option, position}
use Rattle.std.specs.Str.{bytes_eq}
use Rattle.name_table.specs.declared.places.FirstNames.{FirstNames}
use Rattle.name_table.specs.Places.{place_of}

-- the first place at which a text stands, if it does
abbrev pub place_in : List (List ℕ) → List ℕ → Option ℕ
place_in texts name = position (bytes_eq name) texts

-- the table has the first places of these texts, and no others
abbrev pub HoldsPlaces : List (List ℕ) → FirstNames → Type 0
HoldsPlaces texts table = (name : List ℕ) → place_of table name ≡ place_in texts name
