-- Which listings are well formed.
use Rattle.std.specs.Prelude.{◌≡◌, ℕ, ◌*◌, ◌/◌, ◌≤◌, ◌⊎◌, List, ◌++◌, map, length, slice_get, Some}
use Rattle.rsfq_ids.specs.declared.limits.TheConstants.{AIG_LIMIT}
use Rattle.golden_aig.specs.declared.graph.And.{And}
use Rattle.aiger_order.specs.declared.listing.Listing.{Listing}
use Rattle.aiger_order.specs.Numbers.{HoldsOnce}
use Rattle.aiger_order.specs.Ready.{AreBelow}

-- the literals that the file defines: those of the inputs, then those of the ANDs, line by line
abbrev pub defined_by : List ℕ → List And → List ℕ
defined_by inputs ands = inputs ++ map (λ one. one.lhs) ands

-- an even literal of a variable from 1 to the highest
abbrev pub IsDefinition : ℕ → ℕ → Type 0
IsDefinition top literal = (variable : ℕ) × (literal ≡ 2 * variable) × (1 ≤ variable) × (variable ≤ top)

-- Lines that define even literals, once each, with all variables in range.
pub record AreLines (top : ℕ) (lines : List And) : Type 0 where
  pub definitions : (line : ℕ) (one : And) → slice_get lines line ≡ Some one → IsDefinition top one.lhs
  pub below : AreBelow top lines
  pub once : HoldsOnce (map (λ one. one.lhs) lines)

-- a literal of the constant or of a variable that is defined
abbrev pub IsDefined : List ℕ → ℕ → Type 0
IsDefined defined literal = (literal / 2 ≡ 0) ⊎ ((at : ℕ) × (slice_get defined at ≡ Some (2 * (literal / 2))))

-- A well-formed listing: each literal is defined once, by an input or an AND, and each literal that is used is of the constant or defined.
pub record IsListing (listing : Listing) : Type 0 where
  pub size : listing.top ≤ AIG_LIMIT
  pub definitions : (at literal : ℕ) → slice_get (defined_by listing.inputs listing.ands) at ≡ Some literal → IsDefinition listing.top literal
  pub once : HoldsOnce (defined_by listing.inputs listing.ands)
  pub operands : (line : ℕ) (one : And) → slice_get listing.ands line ≡ Some one → IsDefined (defined_by listing.inputs listing.ands) one.rhs0 × IsDefined (defined_by listing.inputs listing.ands) one.rhs1
  pub outputs : (at literal : ℕ) → slice_get listing.outputs at ≡ Some literal → IsDefined (defined_by listing.inputs listing.ands) literal
  pub in_names : length listing.in_names ≡ length listing.inputs
  pub out_names : length listing.out_names ≡ length listing.outputs
