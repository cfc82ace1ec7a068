-- Which graphs are well formed.
use Rattle.std.specs.Prelude.{◌≡◌, ℕ, ◌+◌, ◌*◌, ◌<◌, ◌≤◌, length, slice_get, Some}
use Rattle.rsfq_ids.specs.declared.limits.TheConstants.{AIG_LIMIT}
use Rattle.std.specs.List.{All}
use Rattle.golden_aig.specs.declared.graph.Aig.{Aig}
use Rattle.golden_aig.specs.declared.graph.And.{And}

-- how many variables a graph has, the constant not counted: its inputs and its ANDs
abbrev pub variables_of : Aig → ℕ
variables_of aig = aig.inputs + length aig.ands

-- An AND that may stand at a place, from 0: it makes the variable of its place, and its operands are literals of lower variables.
pub record IsAndAt (inputs place : ℕ) (one : And) : Type 0 where
  pub lhs : one.lhs ≡ 2 * (inputs + place + 1)
  pub rhs0 : one.rhs0 < one.lhs
  pub rhs1 : one.rhs1 < one.lhs

-- A well-formed graph: at most 1,000,000 variables, ANDs in an order of use, output literals of its variables, and one entry for the symbol of each input and output.
pub record IsAig (aig : Aig) : Type 0 where
  pub size : variables_of aig ≤ AIG_LIMIT
  pub ands : (place : ℕ) (one : And) → slice_get aig.ands place ≡ Some one → IsAndAt aig.inputs place one
  pub outputs : All (λ literal. literal < 2 * (variables_of aig + 1)) aig.outputs
  pub in_names : length aig.in_names ≡ aig.inputs
  pub out_names : length aig.out_names ≡ length aig.outputs
