-- How numbers stand in a file, in the words of the format.
use Rattle.std.specs.Prelude.{◌≡◌, ℕ, ◌+◌, ◌*◌, ◌<◌, ◌≤◌, ◌^◌, List, [], ◌∷◌, ◌++◌, length, Some, Ok}
use Rattle.std.specs.Str.Parse.{IsNumeral, digits_value}
use Rattle.golden_aig.specs.declared.graph.And.{And}
use Rattle.aiger_parts.specs.Reading.{number_of, difference_at, and_at}

-- A field writes a number: one or more digits, leading zeros too, of a value below 2^32.
pub record WritesNumber (field : List ℕ) (n : ℕ) : Type 0 where
  pub digits : IsNumeral 10 field
  pub value : digits_value 10 field ≡ n
  pub small : n < 2 ^ 32

-- Groups of seven bits write a number: the low group first, with 128 set on all but the last byte.
abbrev pub WriteGroups : List ℕ → ℕ → Type 0
WriteGroups [] n = ⊥
WriteGroups (b ∷ []) n = (b < 128) × (n ≡ b)
WriteGroups (b ∷ c ∷ bs) n = (128 ≤ b) × (high : ℕ) × (n + 128 ≡ b + 128 * high) × WriteGroups (c ∷ bs) high

-- The bytes begin with a difference, in at most five groups and below 2^32, and the rest stands behind it.
pub record BeginsWithDifference (bytes : List ℕ) (n : ℕ) (rest : List ℕ) : Type 0 where
  pub front : List ℕ
  pub parts : bytes ≡ front ++ rest
  pub few : length front ≤ 5
  pub groups : WriteGroups front n
  pub small : n < 2 ^ 32

-- a field is read as a number exactly where it writes it
abbrev pub NumbersAreRead : Type 0
NumbersAreRead = (field : List ℕ) (n : ℕ) → (number_of field ≡ Some n → WritesNumber field n) × (WritesNumber field n → number_of field ≡ Some n)

-- a difference is read exactly where the bytes begin with it
abbrev pub DifferencesAreRead : Type 0
DifferencesAreRead = (bytes rest : List ℕ) (n : ℕ) → (difference_at bytes ≡ Ok (n, rest) → BeginsWithDifference bytes n rest) × (BeginsWithDifference bytes n rest → difference_at bytes ≡ Ok (n, rest))

-- The bytes begin with an AND of a literal: two differences, the first of them at least 1, that lead from the literal to the one operand and from there to the other.
pub record BeginsWithAnd (lhs : ℕ) (bytes : List ℕ) (one : And) (rest : List ℕ) : Type 0 where
  pub first : ℕ
  pub second : ℕ
  pub between : List ℕ
  pub first_stands : BeginsWithDifference bytes first between
  pub second_stands : BeginsWithDifference between second rest
  pub lhs_is : one.lhs ≡ lhs
  pub rhs0_is : one.rhs0 + first ≡ lhs
  pub rhs1_is : one.rhs1 + second ≡ one.rhs0
  pub lower : 1 ≤ first

-- an AND is read exactly where the bytes begin with it
abbrev pub AndsAreRead : Type 0
AndsAreRead = (lhs : ℕ) (bytes rest : List ℕ) (one : And) → (and_at lhs bytes ≡ Ok (one, rest) → BeginsWithAnd lhs bytes one rest) × (BeginsWithAnd lhs bytes one rest → and_at lhs bytes ≡ Ok (one, rest))
