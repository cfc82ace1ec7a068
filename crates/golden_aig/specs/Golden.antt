-- The golden function: the value of each literal of a graph under a word.
use Rattle.std.specs.Prelude.{◌≡◌, ℕ, zero, suc, ◌+◌, ◌-◌, ◌*◌, ◌/◌, ◌%◌, ◌<◌, ◌==◌, nat_lt, Bool, false, cond, not, ◌&&◌, List, slice_get, slice_index_or, Option, None, Some}
use Rattle.golden_aig.specs.Aig.{variables_of}
use Rattle.golden_aig.specs.declared.graph.Aig.{Aig}
use Rattle.golden_aig.specs.declared.graph.And.{And}

-- the value of a literal, where the variables have these values: an odd literal is the negation of the even one below it
abbrev pub literal_value : (ℕ → Bool) → ℕ → Bool
literal_value value literal = cond (literal % 2 == 0) (value (literal / 2)) (not (value (literal / 2)))

-- an AND is both of its operands
abbrev pub and_value : (ℕ → Bool) → Option And → Bool
and_value value None = false
and_value value (Some one) = literal_value value one.rhs0 && literal_value value one.rhs1

-- The value of a variable, where lower variables have these values: the constant is false, an input is its bit.
abbrev pub variable_value : Aig → List Bool → (ℕ → Bool) → ℕ → Bool
variable_value aig word lower zero = false
variable_value aig word lower (suc place) = cond (nat_lt place aig.inputs) (slice_index_or word place false) (and_value lower (slice_get aig.ands (place - aig.inputs)))

-- the value of a variable, by a recursion that goes at most so many variables down
unfoldable pub value_within : ℕ → Aig → List Bool → ℕ → Bool
value_within zero aig word variable = false
value_within (suc depth) aig word variable = variable_value aig word (value_within depth aig word) variable

-- The value of a variable. An AND uses lower variables alone, so from any variable the recursion goes no further down than to 0.
unfoldable pub value_of : Aig → List Bool → ℕ → Bool
value_of aig word variable = value_within (suc variable) aig word variable

-- the value of a literal under a word
unfoldable pub golden : Aig → List Bool → ℕ → Bool
golden aig word literal = literal_value (value_of aig word) literal

-- Values of all literals of a graph under a word, as equations: each is given by lower ones.
pub record AreValues (aig : Aig) (word : List Bool) (value : ℕ → Bool) : Type 0 where
  pub constant : value 0 ≡ false
  pub negation : (variable : ℕ) → value (2 * variable + 1) ≡ not (value (2 * variable))
  pub input : (place : ℕ) → place < aig.inputs → value (2 * (place + 1)) ≡ slice_index_or word place false
  pub both : (place : ℕ) (one : And) → slice_get aig.ands place ≡ Some one → value one.lhs ≡ (value one.rhs0 && value one.rhs1)

-- the golden values meet the equations
abbrev pub AreGoldenValues : Aig → List Bool → Type 0
AreGoldenValues aig word = AreValues aig word (golden aig word)

-- whatever meets the equations is the golden value of each literal of the graph
abbrev pub DetermineValues : Aig → List Bool → Type 0
DetermineValues aig word = (value : ℕ → Bool) (literal : ℕ) → AreValues aig word value → literal < 2 * (variables_of aig + 1) → value literal ≡ golden aig word literal
