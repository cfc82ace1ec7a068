-- Graphs over numbers: the item at a place is the list of the nodes that the node of this number leads to.
use Rattle.std.specs.Prelude.{◌≡◌, ◌≢◌, ◌⊎◌, ◌↔◌, ℕ, ◌<◌, Bool, true, false, List, [], ◌∷◌, length, take, slice_index_or, slice_index, slice_get, Some}
use Rattle.std.specs.List.{All, AllPairs, Contains}

-- each edge leads to a node
abbrev pub IsGraph : List (List ℕ) → Type 0
IsGraph graph = All (All (λ node. node < length graph)) graph

-- the nodes that a node leads to by one edge
abbrev pub edges_of : List (List ℕ) → ℕ → List ℕ
edges_of graph node = slice_index_or graph node []

abbrev pub HasEdge : List (List ℕ) → ℕ → ℕ → Type 0
HasEdge graph from to = Contains (edges_of graph from) to

-- edges lead from a node through these, one after the other, to a node
abbrev pub IsWalk : List (List ℕ) → ℕ → List ℕ → ℕ → Type 0
IsWalk graph from [] to = HasEdge graph from to
IsWalk graph from (next ∷ rest) to = HasEdge graph from next × IsWalk graph next rest to

-- one or more edges lead from the one node to the other
pub record Leads (graph : List (List ℕ)) (from to : ℕ) : Type 0 where
  pub through : List ℕ
  pub walk : IsWalk graph from through to

-- it is the same node, or edges lead there
abbrev pub Reaches : List (List ℕ) → ℕ → ℕ → Type 0
Reaches graph from to = (from ≡ to) ⊎ Leads graph from to

-- each node leads to the next, and the last to the first
abbrev pub IsRing : List (List ℕ) → List ℕ → Type 0
IsRing graph [] = ⊥
IsRing graph (first ∷ rest) = IsWalk graph first rest first

-- a ring that begins with this node, in which each node stands once
pub record IsRingThrough (graph : List (List ℕ)) (node : ℕ) (ring : List ℕ) : Type 0 where
  pub ring_is : IsRing graph ring
  pub first : slice_get ring 0 ≡ Some node
  pub once : AllPairs (λ a b. a ≢ b) ring

-- A ring through the least of the nodes that the start reaches and that lie on rings.
pub record IsFirstRing (graph : List (List ℕ)) (start : ℕ) (ring : List ℕ) : Type 0 where
  pub node : ℕ
  pub through : IsRingThrough graph node ring
  pub reached : Reaches graph start node
  pub least : (other : ℕ) → other < node → Reaches graph start other → Leads graph other other → ⊥

-- What the start reaches: for each node whether it is reached, and whether it is reached and lies on a ring; and the reached nodes, each once, in an order in which each that lies on no ring comes after all that it leads to.
pub record IsSurvey (graph : List (List ℕ)) (start : ℕ) (reached on_ring : List Bool) (order : List ℕ) : Type 0 where
  pub reached_len : length reached ≡ length graph
  pub on_ring_len : length on_ring ≡ length graph
  pub reached_is : (node : ℕ) → (slice_index_or reached node false ≡ true) ↔ Reaches graph start node
  pub on_ring_is : (node : ℕ) → (slice_index_or on_ring node false ≡ true) ↔ (Reaches graph start node × Leads graph node node)
  pub order_is : (node : ℕ) → Contains order node ↔ Reaches graph start node
  pub once : AllPairs (λ a b. a ≢ b) order
  pub after : (place to : ℕ) → place < length order → (Leads graph (slice_index order place) (slice_index order place) → ⊥) → HasEdge graph (slice_index order place) to → Contains (take place order) to
