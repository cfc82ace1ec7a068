-- Tables of the lines that use each variable.
use Rattle.std.specs.Prelude.{◌≡◌, ℕ, ◌+◌, ◌/◌, ◌<◌, List, [], map, length, slice_get, slice_index_or, Some}
use Rattle.std.specs.declared.vec.Vec.{Vec}
use Rattle.std.specs.declared.alloc.Global.{Global}
use Rattle.golden_aig.specs.declared.graph.And.{And}

-- the lists of a table
abbrev pub lists_of : List (Vec ℕ Global) → List (List ℕ)
lists_of table = map (λ list. list.items) table

-- a line stands in the list of a variable
abbrev pub UsedBy : List (List ℕ) → ℕ → ℕ → Type 0
UsedBy lists variable line = (at : ℕ) × (slice_get (slice_index_or lists variable []) at ≡ Some line)

-- Each of the first lines stands in the lists of its operands' variables, and no other line stands in any.
pub record AreUsers (top count : ℕ) (lines : List And) (lists : List (List ℕ)) : Type 0 where
  pub size : length lists ≡ top + 1
  pub inside : (variable line : ℕ) → UsedBy lists variable line → line < count
  pub first : (line : ℕ) (one : And) → line < count → slice_get lines line ≡ Some one → UsedBy lists (one.rhs0 / 2) line
  pub second : (line : ℕ) (one : And) → line < count → slice_get lines line ≡ Some one → UsedBy lists (one.rhs1 / 2) line
