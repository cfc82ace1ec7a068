-- The kinds of cells, and the pins that each has.
use Rattle.std.specs.Prelude.{ℕ, ◌==◌, nat_le, Bool, true, ◌&&◌, not, if◌then◌else◌, List, [], ◌∷◌, ◌++◌, codes, length, Option, Some, None}
use Rattle.std.specs.List.{list_all, list_any, slice_split}
use Rattle.std.specs.Str.{bytes_eq}
use Rattle.rsfq_ids.specs.declared.table.Kind.{Kind}
use Rattle.rsfq_ids.specs.declared.table.Kind.TheVariants as kind
use Rattle.rsfq_ids.specs.declared.table_fault.TableWhy.{TableWhy}
use Rattle.rsfq_ids.specs.declared.table_fault.TableWhy.TheVariants.{Pins}
use Rattle.table_fields.specs.Names.{is_plain_name}
use Rattle.table_fields.specs.Records.{is_empty, unless}

-- the word for a kind
abbrev pub kind_text : Kind → List ℕ
kind_text kind.Jtl = codes "jtl"
kind_text kind.Split = codes "split"
kind_text kind.Merge = codes "merge"
kind_text kind.Gate = codes "gate"

-- the kind of a word, if it is one of the four
abbrev pub kind_of : List ℕ → Option Kind
kind_of text = if bytes_eq text (kind_text kind.Jtl) then Some kind.Jtl
    else if bytes_eq text (kind_text kind.Split) then Some kind.Split
    else if bytes_eq text (kind_text kind.Merge) then Some kind.Merge
    else if bytes_eq text (kind_text kind.Gate) then Some kind.Gate
    else None

-- the names in a list of names that single spaces part
abbrev pub names_in : List ℕ → List (List ℕ)
names_in text = slice_split (λ byte. byte == 32) text

-- so many inputs are right: one, at a merger two, at a gate one to three
abbrev pub fits_inputs : Kind → ℕ → Bool
fits_inputs kind.Jtl count = count == 1
fits_inputs kind.Split count = count == 1
fits_inputs kind.Merge count = count == 2
fits_inputs kind.Gate count = nat_le 1 count && nat_le count 3

-- so many outputs are right: one, at a splitter two
abbrev pub fits_outputs : Kind → ℕ → Bool
fits_outputs kind.Jtl count = count == 1
fits_outputs kind.Split count = count == 2
fits_outputs kind.Merge count = count == 1
fits_outputs kind.Gate count = count == 1

-- only a gate has a clock
abbrev pub fits_clock : Kind → List ℕ → Bool
fits_clock kind.Jtl text = is_empty text
fits_clock kind.Split text = is_empty text
fits_clock kind.Merge text = is_empty text
fits_clock kind.Gate text = true

abbrev pub clock_of : Kind → List ℕ → Option (List ℕ)
clock_of kind.Jtl text = None
clock_of kind.Split text = None
clock_of kind.Merge text = None
clock_of kind.Gate text = Some text

-- the clock pin as a list of one or of none
abbrev pub clock_pins : Kind → List ℕ → List (List ℕ)
clock_pins kind.Jtl text = []
clock_pins kind.Split text = []
clock_pins kind.Merge text = []
clock_pins kind.Gate text = text ∷ []

-- no name stands twice
abbrev pub are_distinct : List (List ℕ) → Bool
are_distinct [] = true
are_distinct (name ∷ names) = not (list_any (bytes_eq name) names) && are_distinct names

-- all pins of a cell, in order
abbrev pub pins_of : Kind → List ℕ → List ℕ → List ℕ → List (List ℕ)
pins_of kind inputs clock outputs = names_in inputs ++ clock_pins kind clock ++ names_in outputs

-- so many pins as the kind has
abbrev pub has_counts : Kind → List ℕ → List ℕ → List ℕ → Bool
has_counts kind inputs clock outputs = fits_inputs kind (length (names_in inputs)) && fits_outputs kind (length (names_in outputs)) && fits_clock kind clock

-- names that a cell may have side by side
abbrev pub are_pins : List (List ℕ) → Bool
are_pins names = list_all is_plain_name names && are_distinct names

-- the pins are those of the kind: as many, each with a plain name, and no two of one name
abbrev pub pins_fault : Kind → List ℕ → List ℕ → List ℕ → Option TableWhy
pins_fault kind inputs clock outputs = unless (has_counts kind inputs clock outputs && are_pins (pins_of kind inputs clock outputs)) Pins
