-- ANDs that use each other in a ring.
use Rattle.std.specs.Prelude.{◌≡◌, ℕ, ◌+◌, ◌*◌, ◌/◌, ◌<◌, ◌≤◌, ◌≢◌, ◌⊎◌, length, List, [], ◌∷◌, ◌++◌, slice_get, Some}
use Rattle.std.specs.List.{All, AllPairs}
use Rattle.golden_aig.specs.declared.graph.And.{And}
use Rattle.aiger_order.specs.Numbers.{Known}

-- the AND of a literal has an operand of the variable of another
abbrev pub Uses : List And → ℕ → ℕ → Type 0
Uses lines literal other = (line : ℕ) × (one : And) × (slice_get lines line ≡ Some one) × (one.lhs ≡ literal) × ((one.rhs0 / 2 ≡ other / 2) ⊎ (one.rhs1 / 2 ≡ other / 2))

-- each literal uses the next one
abbrev pub IsChain : List And → List ℕ → Type 0
IsChain lines [] = Unit {0}
IsChain lines (literal ∷ []) = Unit {0}
IsChain lines (literal ∷ next ∷ more) = Uses lines literal next × IsChain lines (next ∷ more)

-- each literal uses the next one, and the last uses the first
abbrev pub GoesRound : List And → List ℕ → Type 0
GoesRound lines [] = ⊥
GoesRound lines (first ∷ others) = IsChain lines (first ∷ others ++ first ∷ [])

-- no literal is below the first
abbrev pub BeginsAtLeast : List ℕ → Type 0
BeginsAtLeast [] = ⊥
BeginsAtLeast (first ∷ others) = All (λ literal. first ≤ literal) others

-- Each literal uses the next one, and the last uses the first, which is the least. Each stands once, so the ring goes round once.
pub record IsRingOfAnds (lines : List And) (ring : List ℕ) : Type 0 where
  pub round : GoesRound lines ring
  pub least : BeginsAtLeast ring
  pub once : AllPairs (λ one other. one ≢ other) ring

-- ---- how one is found

-- a line whose literal has no number
abbrev pub IsLeft : List ℕ → List And → ℕ → Type 0
IsLeft names lines line = (one : And) × (slice_get lines line ≡ Some one) × (Known names (one.lhs / 2) → ⊥)

-- the variable of a literal has a number, or a line defines it
abbrev pub IsFed : List ℕ → List And → ℕ → Type 0
IsFed names lines literal = Known names (literal / 2) ⊎ ((line : ℕ) × (one : And) × (slice_get lines line ≡ Some one) × (one.lhs ≡ 2 * (literal / 2)))

abbrev pub AreFed : List ℕ → List And → Type 0
AreFed names lines = (line : ℕ) (one : And) → slice_get lines line ≡ Some one → IsFed names lines one.rhs0 × IsFed names lines one.rhs1

-- A table has the line of each variable that one of the first lines defines.
pub record AreDefiners (top count : ℕ) (lines : List And) (definers : List ℕ) : Type 0 where
  pub size : length definers ≡ top + 1
  pub each : (line : ℕ) (one : And) → line < count → slice_get lines line ≡ Some one → slice_get definers (one.lhs / 2) ≡ Some line

-- one line uses the literal of another
abbrev pub IsStep : List And → ℕ → ℕ → Type 0
IsStep lines line next = (one other : And) × (slice_get lines line ≡ Some one) × (slice_get lines next ≡ Some other) × Uses lines one.lhs other.lhs
