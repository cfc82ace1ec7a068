-- What a module reaches.
use Rattle.std.specs.Prelude.{◌≡◌, ◌≢◌, ◌↔◌, ℕ, ◌<◌, Bool, true, false, List, ◌∷◌, length, take, slice_index_or, slice_index, Option, MatchOption}
use Rattle.std.specs.List.{AllPairs, Contains}
use Rattle.verilog_tree.specs.Trees.{Module}
use Rattle.bind_hierarchy.specs.Modules.{Instantiates, IsReached, IsChain, IsOnRing}

-- The first ring that a module reaches, from its first module in text order on: each module instantiates the next and the last the first, each stands there once, and no earlier reached module lies on a ring.
pub record IsFirstRing (modules : List Module) (top : ℕ) (ring : List ℕ) : Type 0 where
  pub first : ℕ
  pub rest : List ℕ
  pub begins : ring ≡ first ∷ rest
  pub chain : IsChain modules first ring
  pub once : AllPairs (λ a b. a ≢ b) ring
  pub reached : IsReached modules top first
  pub least : (other : ℕ) → other < first → IsReached modules top other → IsOnRing modules other → ⊥

-- The modules that a module reaches: a flag for each module of the text, and an order of them, each once, in which each that lies on no ring comes after all that it instantiates; and the first ring, if there is one.
pub record IsReach (modules : List Module) (top : ℕ) (reached : List Bool) (order : List ℕ) (ring : Option (List ℕ)) : Type 0 where
  pub flags : length reached ≡ length modules
  pub reached_is : (at : ℕ) → (slice_index_or reached at false ≡ true) ↔ IsReached modules top at
  pub order_is : (at : ℕ) → Contains order at ↔ IsReached modules top at
  pub once : AllPairs (λ a b. a ≢ b) order
  pub after : (place inner : ℕ) → place < length order → (IsOnRing modules (slice_index order place) → ⊥) → Instantiates modules (slice_index order place) inner → Contains (take place order) inner
  pub ring_is : MatchOption ring ((at : ℕ) → IsReached modules top at → IsOnRing modules at → ⊥) (IsFirstRing modules top)
