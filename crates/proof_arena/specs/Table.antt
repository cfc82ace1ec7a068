-- Which literals are false, as contracts see the marks.
use Rattle.std.specs.Prelude.{ℕ, Bool, false, List, length, nat_lt, slice_index_or, ◌==◌, if◌then◌else◌}
use Rattle.std.specs.List.{list_any}

-- a bit for each literal of the table, and the false literals beyond it
pub record Marked : Type 0 where
  pub table : List Bool
  pub beyond : List ℕ

abbrev pub falses_of : Marked → ℕ → Bool
falses_of marked lit = if nat_lt lit (length marked.table) then slice_index_or marked.table lit false else list_any (λ other. lit == other) marked.beyond
