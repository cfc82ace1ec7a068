-- A truth table, as digits and as clauses.
use Rattle.std.specs.Prelude.{ℕ, ◌^◌, ◌==◌, Bool, not, if◌then◌else◌, List, [], ◌∷◌, ◌++◌, map}
use Rattle.std.specs.Int.{bit_at}
use Rattle.std.specs.List.{enumerate_from, flat_map, range_with_len}
use Rattle.rsfq_ids.specs.Run.{row_number}
use Rattle.rsfq_ids.specs.Formula.{opposite, value_of}
use Rattle.cell_truth.specs.Clause.{written}

-- the digit of a row, as a bit
abbrev pub digit : ℕ → ℕ → Bool
digit rows row = bit_at rows row == 1

-- a literal, negated where it is said so
abbrev pub signed : Bool → ℕ → ℕ
signed negate literal = if negate then opposite literal else literal

-- each pin's literal, negated where the row has a 1 for the pin
abbrev pub pin_literals : ℕ → List ℕ → List ℕ
pin_literals row inputs = map (λ (pin, literal). signed (bit_at row pin == 1) literal) (enumerate_from 0 inputs)

-- The clause of a row: its pins' literals, and then the output's, negated where the row's digit is 0.
abbrev pub row_clause : ℕ → List ℕ → ℕ → ℕ → List ℕ
row_clause rows inputs output row = pin_literals row inputs ++ signed (not (digit rows row)) output ∷ []

-- the clauses of all rows of a table of so many pins, in order
abbrev pub truth_clauses : ℕ → ℕ → List ℕ → ℕ → List (List ℕ)
truth_clauses rows pins inputs output = flat_map (λ row. written (row_clause rows inputs output row)) (range_with_len 0 (2 ^ pins))

-- what the table says of the inputs where the variables have these values
abbrev pub truth_value : (ℕ → Bool) → ℕ → List ℕ → Bool
truth_value values rows inputs = digit rows (row_number (map (value_of values) inputs))
