-- Lines whose operands have numbers.
use Rattle.std.specs.Prelude.{◌≡◌, ℕ, ◌/◌, ◌≤◌, true, List, slice_get, Some}
use Rattle.std.specs.Ordering.{nat_cmp}
use Rattle.std.specs.BTreeSet.{BTreeSet, contains}
use Rattle.golden_aig.specs.declared.graph.And.{And}
use Rattle.aiger_order.specs.Numbers.{Known}

-- all variables of the lines are at most this
abbrev pub AreBelow : ℕ → List And → Type 0
AreBelow top lines = (line : ℕ) (one : And) → slice_get lines line ≡ Some one → (one.lhs / 2 ≤ top) × (one.rhs0 / 2 ≤ top) × (one.rhs1 / 2 ≤ top)

-- a line has no number, but its operands have
pub record IsReadyLine (names : List ℕ) (lines : List And) (line : ℕ) : Type 0 where
  pub one : And
  pub is : slice_get lines line ≡ Some one
  pub fresh : ¬ Known names (one.lhs / 2)
  pub first : Known names (one.rhs0 / 2)
  pub second : Known names (one.rhs1 / 2)

abbrev pub Has : BTreeSet ℕ → ℕ → Type 0
Has set line = contains nat_cmp set line ≡ true

-- the lines of a set are ready
abbrev pub OnlyReady : List ℕ → List And → BTreeSet ℕ → Type 0
OnlyReady names lines set = (line : ℕ) → Has set line → IsReadyLine names lines line
