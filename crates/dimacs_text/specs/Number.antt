-- Numbers as fields of a text write them.
use Rattle.std.specs.Prelude.{ℕ, ◌+◌, ◌-◌, ◌*◌, ℤ, pos, neg_ℤ, ◌==◌, ◌&&◌, Bool, true, false, not, if◌then◌else◌, List, [], ◌∷◌, Option, Some, None, option_map, nat_le}
use Rattle.std.specs.List.{list_all}
use Rattle.std.specs.Char.{is_ascii_digit}
use Rattle.std.specs.Str.Parse.{digits_value}
use Rattle.decimal_text.specs.Number.{number_up_to}
use Rattle.dimacs_text.specs.declared.number.Signed.{Signed}

-- a sign, and digits of a value up to 4,294,967,295
abbrev pub sized : Bool → List ℕ → Option Signed
sized negative ds = option_map (λ n. record { negative = negative; size = n }) (number_up_to 4294967295 ds)

-- digits behind a hyphen (45) or behind nothing
abbrev pub signed_of : List ℕ → Option Signed
signed_of [] = None
signed_of (b ∷ bs) = if b == 45 then sized true bs else sized false (b ∷ bs)

-- the number as it is read
abbrev pub whole_of : Signed → ℤ
whole_of number = if number.negative then neg_ℤ (pos number.size) else pos number.size

-- as a literal: twice the variable, which counts from 0, plus 1 for the negation
abbrev pub literal_of : Signed → ℕ
literal_of number = 2 * (number.size - 1) + (if number.negative then 1 else 0)
