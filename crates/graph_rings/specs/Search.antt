-- What holds between the steps of a search for rings. It serves the proofs.
use Rattle.std.specs.Prelude.{◌≡◌, ◌≢◌, ◌⊎◌, ℕ, ◌+◌, ◌*◌, ◌<◌, ◌≤◌, Bool, true, false, List, [], length, map, sum_by, take, replicate, slice_index_or, slice_index, slice_get, Some, ◌-◌}
use Rattle.std.specs.List.{All, Contains}
use Rattle.graph_rings.specs.declared.search.Mark.{Mark}
use Rattle.graph_rings.specs.declared.search.Mark.TheVariants as mark
use Rattle.graph_rings.specs.declared.search.Search.{Search}
use Rattle.graph_rings.specs.Graph.{edges_of, HasEdge, Leads, Reaches}

abbrev pub mark_of : List Mark → ℕ → Mark
mark_of marks node = slice_index_or marks node mark.Unseen

abbrev pub is_done : Mark → Bool
is_done (mark.Done on_ring) = true
is_done _ = false

abbrev pub is_on_ring : Mark → Bool
is_on_ring (mark.Done on_ring) = on_ring
is_on_ring _ = false

-- no group begins above the one place up to the other
abbrev pub HasNoBase : List ℕ → ℕ → ℕ → Type 0
HasNoBase bases low high = (base : ℕ) → Contains bases base → low < base → base ≤ high → ⊥

-- An edge from a place of the path that was looked at leads to a node that is done, or to the path, to the group of that place or behind it.
abbrev pub IsLooked : List Mark → List ℕ → ℕ → ℕ → Type 0
IsLooked marks bases place to = ((on_ring : Bool) × (mark_of marks to ≡ mark.Done on_ring)) ⊎ ((met : ℕ) × (mark_of marks to ≡ mark.OnPath met) × HasNoBase bases met place)

abbrev pub Rises : List ℕ → Type 0
Rises xs = (i k : ℕ) → i < k → k < length xs → slice_index xs i < slice_index xs k

pub record IsSearch (graph : List (List ℕ)) (start : ℕ) (left : List ℕ) (marks : List Mark) (path bases stack order : List ℕ) : Type 0 where
  pub left_len : length left ≡ length graph
  pub marks_len : length marks ≡ length graph
  pub few : (node : ℕ) → slice_index left node ≤ length (edges_of graph node)
  pub fresh : (node : ℕ) → mark_of marks node ≡ mark.Unseen → length (edges_of graph node) ≤ slice_index left node
  pub on_path : (place : ℕ) → place < length path → mark_of marks (slice_index path place) ≡ mark.OnPath place
  pub path_of : (node place : ℕ) → mark_of marks node ≡ mark.OnPath place → (place < length path) × (slice_index path place ≡ node)
  pub done_in : (node : ℕ) (on_ring : Bool) → mark_of marks node ≡ mark.Done on_ring → Contains order node
  pub in_done : (node : ℕ) → Contains order node → (on_ring : Bool) × (mark_of marks node ≡ mark.Done on_ring)
  pub forward : (i k : ℕ) → i < k → k < length path → Leads graph (slice_index path i) (slice_index path k)
  pub back : (i k : ℕ) → i < k → k < length path → HasNoBase bases i k → Leads graph (slice_index path k) (slice_index path i)
  pub stack_in : (place : ℕ) → Contains stack place → place < length path
  pub stack_rises : Rises stack
  pub bases_rise : Rises bases
  pub bases_in : (base : ℕ) → Contains bases base → Contains stack base
  pub based : 0 < length path → Contains bases 0
  pub spent : (place : ℕ) → place < length path → Contains stack place ⊎ (slice_index left (slice_index path place) ≡ 0)
  pub looked : (place edge : ℕ) → place < length path → edge < length (edges_of graph (slice_index path place)) → slice_index left (slice_index path place) ≤ edge →
      IsLooked marks bases place (slice_index (edges_of graph (slice_index path place)) edge)
  pub closed : (node to : ℕ) → Contains order node → HasEdge graph node to → Contains order to
  pub on_ring : (node : ℕ) → mark_of marks node ≡ mark.Done true → Leads graph node node
  pub off_ring : (node : ℕ) → mark_of marks node ≡ mark.Done false → Leads graph node node → ⊥
  pub once : (i k : ℕ) → i < k → k < length order → slice_index order i ≢ slice_index order k
  pub after : (place to : ℕ) → place < length order → mark_of marks (slice_index order place) ≡ mark.Done false → HasEdge graph (slice_index order place) to → Contains (take place order) to
  pub path_reached : (place : ℕ) → place < length path → Reaches graph start (slice_index path place)
  pub order_reached : (node : ℕ) → Contains order node → Reaches graph start node

abbrev pub IsSearchOf : List (List ℕ) → ℕ → Search → Type 0
IsSearchOf graph start s = IsSearch graph start s.left.items s.marks.items s.path.items s.bases.items s.stack.items s.order.items

-- a place of the path that is the last of the stack, and what the search may read there
pub record IsTop (graph : List (List ℕ)) (s : Search) (place : ℕ) : Type 0 where
  pub last : slice_get s.stack.items (length s.stack.items - 1) ≡ Some place
  pub inside : place < length s.path.items
  pub node : slice_index s.path.items place < length graph
  pub few : slice_index s.left.items (slice_index s.path.items place) ≤ length (edges_of graph (slice_index s.path.items place))
  pub left_len : length s.left.items ≡ length graph
  pub marks_len : length s.marks.items ≡ length graph
  pub bases_rise : Rises s.bases.items
  pub path_below : All (λ node. node < length graph) s.path.items

-- nothing was looked at
pub record IsStart (graph : List (List ℕ)) (s : Search) : Type 0 where
  pub left : s.left.items ≡ map (λ edges. length edges) graph
  pub marks : s.marks.items ≡ replicate (length graph) mark.Unseen
  pub path : s.path.items ≡ []
  pub bases : s.bases.items ≡ []
  pub stack : s.stack.items ≡ []
  pub order : s.order.items ≡ []

-- at least the number of steps that are left
abbrev pub work_of : Search → ℕ
work_of s = 2 * sum_by (λ n. n) s.left.items + length s.stack.items

-- what was seen stays seen
abbrev pub KeepsSeen : List Mark → List Mark → Type 0
KeepsSeen old new = (node : ℕ) → mark_of new node ≡ mark.Unseen → mark_of old node ≡ mark.Unseen

-- the search is at its end
pub record IsDone (graph : List (List ℕ)) (start : ℕ) (s : Search) : Type 0 where
  pub search : IsSearchOf graph start s
  pub empty : s.stack.items ≡ []
  pub seen : mark_of s.marks.items start ≡ mark.Unseen → ⊥
