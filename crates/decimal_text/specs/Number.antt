-- Numbers in decimal digits.
use Rattle.std.specs.Prelude.{◌≡◌, ◌<◌, ◌≤◌, ℕ, ◌&&◌, Bool, true, false, if◌then◌else◌, List, [], ◌∷◌, Option, Some, None, nat_le}
use Rattle.std.specs.List.{list_all}
use Rattle.std.specs.Char.{is_ascii_digit}
use Rattle.std.specs.Str.Parse.{IsNumeral, digits_value}
use Rattle.decimal_text.specs.declared.read.NumberRead.{NumberRead}
use Rattle.decimal_text.specs.declared.read.NumberRead.TheVariants.{Value, Malformed, TooLarge}

-- one digit or more, and nothing else
abbrev pub is_numeral : List ℕ → Bool
is_numeral [] = false
is_numeral (d ∷ ds) = list_all is_ascii_digit (d ∷ ds)

-- the number that digits write, where it is at most so large; leading zeros are fine
abbrev pub number_up_to : ℕ → List ℕ → Option ℕ
number_up_to most ds = if is_numeral ds && nat_le (digits_value 10 ds) most then Some (digits_value 10 ds) else None

-- What the reading of a field says of it, at a limit.
abbrev pub Reads : List ℕ → ℕ → NumberRead → Type 0
Reads field most (Value n) = IsNumeral 10 field × (n ≡ digits_value 10 field) × (n ≤ most)
Reads field most Malformed = ¬ (IsNumeral 10 field)
Reads field most TooLarge = IsNumeral 10 field × (most < digits_value 10 field)
