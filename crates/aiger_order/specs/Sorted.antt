-- ANDs that were made from lines, in an order of use.
use Rattle.std.specs.Prelude.{◌≡◌, ℕ, ◌+◌, ◌*◌, ◌/◌, ◌<◌, ◌≤◌, List, ◌∷◌, [], ◌++◌, map, take, length, slice_get, Some}
use Rattle.golden_aig.specs.declared.graph.And.{And}
use Rattle.golden_aig.specs.Aig.{IsAndAt}
use Rattle.aiger_order.specs.Numbers.{file_and}
use Rattle.aiger_order.specs.Ready.{IsReadyLine}

-- An AND has the next number, uses lower ones, and stands for a line.
pub record IsBuilt (names : List ℕ) (line one : And) : Type 0 where
  pub lhs : one.lhs ≡ 2 * length names
  pub rhs0 : one.rhs0 < one.lhs
  pub rhs1 : one.rhs1 < one.lhs
  pub same : file_and (names ++ line.lhs / 2 ∷ []) one ≡ line

-- the constant and the inputs have the first numbers
abbrev pub first_names : List ℕ → List ℕ
first_names inputs = 0 ∷ map (λ literal. literal / 2) inputs

-- Each AND has the number of its place, uses lower ones, and stands for a line: the first of those that are ready when it is numbered.
pub record IsSorted (inputs : List ℕ) (lines : List And) (names : List ℕ) (ands : List And) : Type 0 where
  pub others : List ℕ
  pub parts : names ≡ first_names inputs ++ others
  pub count : length others ≡ length ands
  pub built : (place : ℕ) (one : And) → slice_get ands place ≡ Some one → IsAndAt (length inputs) place one × ((line : ℕ) × (slice_get lines line ≡ Some (file_and names one)))
  pub first : (place line earlier : ℕ) (one : And) → slice_get ands place ≡ Some one → slice_get lines line ≡ Some (file_and names one) → IsReadyLine (take (length inputs + place + 1) names) lines earlier → line ≤ earlier
