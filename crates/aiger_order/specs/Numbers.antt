-- Numbers of the variables of a file: a list of the variables, in the order of their numbers.
use Rattle.std.specs.Prelude.{◌≡◌, ℕ, ◌+◌, ◌*◌, ◌/◌, ◌%◌, List, length, slice_get, slice_index_or, Option, Some, is_none}
use Rattle.std.specs.List.{count_by}
use Rattle.golden_aig.specs.declared.graph.And.{And}
use Rattle.aiger_order.specs.declared.numbering.Numbering.{Numbering}

-- a variable has a number
abbrev pub Known : List ℕ → ℕ → Type 0
Known names variable = (number : ℕ) × (slice_get names number ≡ Some variable)

-- no item stands at two places
abbrev pub HoldsOnce : List ℕ → Type 0
HoldsOnce items = (here there item : ℕ) → slice_get items here ≡ Some item → slice_get items there ≡ Some item → here ≡ there

-- the literal of the file that a literal of the graph stands for
abbrev pub file_literal : List ℕ → ℕ → ℕ
file_literal names literal = 2 * slice_index_or names (literal / 2) 0 + literal % 2

-- the AND of the file that an AND of the graph stands for
abbrev pub file_and : List ℕ → And → And
file_and names one = record { lhs = file_literal names one.lhs; rhs0 = file_literal names one.rhs0; rhs1 = file_literal names one.rhs1 }

-- A table has the number of each variable that has one; the others up to the highest have none.
pub record IsNumbering (top : ℕ) (names : List ℕ) (numbers : List (Option ℕ)) : Type 0 where
  pub size : length numbers ≡ top + 1
  pub sound : (variable number : ℕ) → slice_get numbers variable ≡ Some (Some number) → slice_get names number ≡ Some variable
  pub complete : (variable number : ℕ) → slice_get names number ≡ Some variable → slice_get numbers variable ≡ Some (Some number)
  pub room : length names + count_by is_none numbers ≡ top + 1

abbrev pub Numbers : ℕ → Numbering → Type 0
Numbers top numbering = IsNumbering top numbering.names.items numbering.numbers.items
