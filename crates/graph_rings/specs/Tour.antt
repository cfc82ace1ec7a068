-- What holds between the steps of a search for a way back to a node. It serves the proofs.
use Rattle.std.specs.Prelude.{◌≡◌, ◌≢◌, ◌⊎◌, ℕ, ◌+◌, ◌*◌, ◌<◌, ◌≤◌, Bool, true, false, List, length, sum_by, slice_index_or, slice_index, slice_get, Some, ◌-◌}
use Rattle.std.specs.List.{Contains}
use Rattle.graph_rings.specs.declared.ring.Tour.{Tour}
use Rattle.graph_rings.specs.Graph.{edges_of, HasEdge}

abbrev pub is_seen : List Bool → ℕ → Bool
is_seen seen node = slice_index_or seen node false

pub record IsTour (graph : List (List ℕ)) (node : ℕ) (left : List ℕ) (seen : List Bool) (path : List ℕ) : Type 0 where
  pub left_len : length left ≡ length graph
  pub seen_len : length seen ≡ length graph
  pub few : (x : ℕ) → slice_index left x ≤ length (edges_of graph x)
  pub fresh : (x : ℕ) → is_seen seen x ≡ false → length (edges_of graph x) ≤ slice_index left x
  pub node_seen : is_seen seen node ≡ true
  pub path_seen : (place : ℕ) → place < length path → is_seen seen (slice_index path place) ≡ true
  pub first : 0 < length path → slice_index path 0 ≡ node
  pub edges : (place : ℕ) → place + 1 < length path → HasEdge graph (slice_index path place) (slice_index path (place + 1))
  pub once : (i k : ℕ) → i < k → k < length path → slice_index path i ≢ slice_index path k
  pub spent : (x : ℕ) → is_seen seen x ≡ true → Contains path x ⊎ (slice_index left x ≡ 0)
  pub looked : (x edge : ℕ) → is_seen seen x ≡ true → edge < length (edges_of graph x) → slice_index left x ≤ edge →
      (is_seen seen (slice_index (edges_of graph x) edge) ≡ true) × (slice_index (edges_of graph x) edge ≢ node)

abbrev pub IsTourOf : List (List ℕ) → ℕ → Tour → Type 0
IsTourOf graph node t = IsTour graph node t.left.items t.seen.items t.path.items

-- at least the number of steps that are left
abbrev pub tour_work : Tour → ℕ
tour_work t = 2 * sum_by (λ n. n) t.left.items + length t.path.items

-- the last node of the way, and what the search may read there
pub record IsEnd (graph : List (List ℕ)) (t : Tour) (last : ℕ) : Type 0 where
  pub is_last : slice_get t.path.items (length t.path.items - 1) ≡ Some last
  pub inside : last < length graph
  pub few : slice_index t.left.items last ≤ length (edges_of graph last)
  pub left_len : length t.left.items ≡ length graph
  pub seen_len : length t.seen.items ≡ length graph
