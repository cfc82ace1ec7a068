-- A table of the values of variables.
use Rattle.std.specs.Prelude.{◌≡◌, ℕ, zero, suc, ◌≤◌, Bool, false, List, slice_index_or}
use Rattle.golden_aig.specs.declared.graph.Aig.{Aig}
use Rattle.golden_aig.specs.Golden.{value_of}

-- the value of a variable in a table, which has no place for the constant
abbrev pub marked : List Bool → ℕ → Bool
marked marks zero = false
marked marks (suc place) = slice_index_or marks place false

-- the table holds the values of the variables up to `last`
abbrev pub Holds : Aig → List Bool → ℕ → List Bool → Type 0
Holds aig word last marks = (variable : ℕ) → variable ≤ last → marked marks variable ≡ value_of aig word variable
