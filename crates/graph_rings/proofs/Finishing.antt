-- A search at its beginning and at its end.
use Rattle.std.proofs.Common.{◌≡◌, ◌∙◌, ◌<◌, ◌-◌, inl, inr, ℕ, Bool, true, false, List, [], ◌∷◌, ◌++◌, Some, map, replicate, length, take, refl, sym, subst, ap, arith, get_or, set}
use Rattle.std.specs.Prelude.{slice_get}
use Rattle.std.specs.List.{Contains}
use Rattle.std.proofs.Math.ListN.{get_or-map, get_or-eq_default}
use Rattle.std.proofs.lemmas.Bool.{cases_lt}
use Rattle.std.proofs.lemmas.Grind.{get_or-set_at}
use Rattle.std.proofs.lemmas.List.Elements.{Contains-get_or}
use Rattle.std.proofs.lemmas.List.{get_or-replicate, get_or_default, length-map, length-replicate}
use Rattle.graph_rings.specs.declared.search.Mark.{Mark}
use Rattle.graph_rings.specs.declared.search.Mark.TheVariants as mark
use Rattle.graph_rings.specs.declared.search.Search.{Search}
use Rattle.graph_rings.specs.Graph.{edges_of, HasEdge, Leads, Reaches, IsSurvey}
use Rattle.graph_rings.specs.Search.{mark_of, is_done, is_on_ring, IsSearch, IsSearchOf, IsStart, IsTop, IsDone}
use Rattle.graph_rings.proofs.Entering.{entered, on_unseen, done_unseen}
use Rattle.graph_rings.proofs.Looking.{path_below}
use Rattle.graph_rings.proofs.Results.{same_search}
use Rattle.graph_rings.proofs.Tops.{top_in}
use Rattle.graph_rings.proofs.Walks.{reaches_stays}

nothing : {A : Type 0} (x : ℕ) → Contains {X = ℕ} [] x → A
nothing x c = let l : c.0 < length {A = ℕ} [] = c.1 in absurd (omega arith)

all_unseen : (n node : ℕ) → mark_of (replicate n mark.Unseen) node ≡ mark.Unseen
all_unseen n node = elim (cases_lt node n) [
  | inl l ↦ get_or-replicate n node mark.Unseen mark.Unseen l
  | inr g ↦ get_or-eq_default (replicate n mark.Unseen) mark.Unseen (omega (arith, length-replicate n mark.Unseen, g))
]

pub all_left : (g : List (List ℕ)) (node : ℕ) → get_or (map (λ (edges : List ℕ). length edges) g) node 0 ≡ length (edges_of g node)
all_left g node = get_or-map (λ (edges : List ℕ). length edges) g node []

begun : (g : List (List ℕ)) (start : ℕ) → IsSearch g start (map (λ (edges : List ℕ). length edges) g) (replicate (length g) mark.Unseen) [] [] [] []
begun g start = record {
  left_len = length-map g (λ (edges : List ℕ). length edges);
  marks_len = length-replicate (length g) mark.Unseen;
  few = λ n. omega (arith, all_left g n);
  fresh = λ n _. omega (arith, all_left g n);
  on_path = λ k l. absurd (omega (arith, l));
  path_of = λ n p e. absurd (on_unseen p (sym e ∙ all_unseen (length g) n));
  done_in = λ n f e. absurd (done_unseen f (sym e ∙ all_unseen (length g) n));
  in_done = λ n c. nothing n c;
  forward = λ i k l h. absurd (omega (arith, h));
  back = λ i k l h _. absurd (omega (arith, h));
  stack_in = λ k c. nothing k c;
  stack_rises = λ i k l h. absurd (omega (arith, h));
  bases_rise = λ i k l h. absurd (omega (arith, h));
  bases_in = λ b c. nothing b c;
  based = λ h. absurd (omega (arith, h));
  spent = λ k h. absurd (omega (arith, h));
  looked = λ k edge h _ _. absurd (omega (arith, h));
  closed = λ n to c _. nothing n c;
  on_ring = λ n e. absurd (done_unseen true (sym e ∙ all_unseen (length g) n));
  off_ring = λ n e _. absurd (done_unseen false (sym e ∙ all_unseen (length g) n));
  once = λ i k l h _. absurd (omega (arith, h));
  after = λ k to h _ _. absurd (omega (arith, h));
  path_reached = λ k h. absurd (omega (arith, h));
  order_reached = λ n c. nothing n c;
}

-- the start is put on the path
pub set_out : (g : List (List ℕ)) (start : ℕ) (s t : Search) → start < length g → IsStart g s → t.left.items ≡ s.left.items → t.marks.items ≡ set s.marks.items start (mark.OnPath (length s.path.items)) → t.path.items ≡ s.path.items ++ start ∷ [] →
    t.bases.items ≡ s.bases.items ++ length s.path.items ∷ [] → t.stack.items ≡ s.stack.items ++ length s.path.items ∷ [] → t.order.items ≡ s.order.items → IsSearchOf g start t × (mark_of t.marks.items start ≡ mark.Unseen → ⊥)
set_out g start s t inside b e1 e2 e3 e4 e5 e6 =
    let s0 : IsSearchOf g start s = same_search g start _ _ _ _ _ _ _ _ _ _ _ _ b.left b.marks b.path b.bases b.stack b.order (begun g start) in
    let below : start < length s.marks.items = omega (arith, inside, s0.marks_len) in
    let unseen : mark_of s.marks.items start ≡ mark.Unseen = ap (λ (l : List Mark). mark_of l start) b.marks ∙ all_unseen (length g) start in
    let lead : (place : ℕ) → place < length s.path.items → Leads g (get_or s.path.items place 0) start = λ place l. absurd (let e : length s.path.items ≡ 0 = ap (λ (l : List ℕ). length l) b.path in omega (arith, l, e)) in
    let after : IsSearch g start s.left.items (set s.marks.items start (mark.OnPath (length s.path.items))) (s.path.items ++ start ∷ []) (s.bases.items ++ length s.path.items ∷ []) (s.stack.items ++ length s.path.items ∷ []) s.order.items =
    entered g start s.left.items s.marks.items s.path.items s.bases.items s.stack.items s.order.items s0 start below unseen lead (inl refl) in (
      same_search g start _ _ _ _ _ _ _ _ _ _ _ _ e1 e2 e3 e4 e5 e6 after,
      λ no. on_unseen (length s.path.items) (sym (get_or-set_at s.marks.items start start (mark.OnPath (length s.path.items)) mark.Unseen refl below) ∙ (ap (λ (l : List Mark). mark_of l start) (sym e2) ∙ no)),
    )

-- what a step may read
pub at_top : (g : List (List ℕ)) (start : ℕ) (s : Search) (place : ℕ) → IsSearchOf g start s → slice_get s.stack.items (length s.stack.items - 1) ≡ Some place → IsTop g s place
at_top g start s place h last =
    let inside : place < length s.path.items = h.stack_in place (top_in s.stack.items place last) in
    let below : (k : ℕ) → k < length s.path.items → get_or s.path.items k 0 < length s.marks.items = path_below g start s.left.items s.marks.items s.path.items s.bases.items s.stack.items s.order.items h in
    record {
      last = last;
      inside = inside;
      node = omega (arith, below place inside, h.marks_len);
      few = h.few (get_or s.path.items place 0);
      left_len = h.left_len;
      marks_len = h.marks_len;
      bases_rise = h.bases_rise;
      path_below = λ k d kl. omega (arith, get_or_default s.path.items k d 0 kl, below k kl, h.marks_len);
    }

-- an empty stack ends the search
pub ended : (g : List (List ℕ)) (start : ℕ) (s : Search) → IsDone g start s → length s.path.items ≡ 0
ended g start s d = elim (cases_lt 0 (length s.path.items)) [
  | inl some ↦ nothing 0 (subst (λ (l : List ℕ). Contains l 0) d.empty (d.search.bases_in 0 (d.search.based some)))
  | inr none ↦ omega (arith, none)
]

module _ (g : List (List ℕ)) (start : ℕ) (s : Search) (d : IsDone g start s) where
  start_done : Contains s.order.items start
  start_done = go (mark_of s.marks.items start) refl where
    go : (m : Mark) → mark_of s.marks.items start ≡ m → Contains s.order.items start
    go mark.Unseen e = absurd (d.seen e)
    go (mark.Done f) e = d.search.done_in start f e
    go (mark.OnPath p) e = let l : p < length s.path.items = (d.search.path_of start p e).0 in let z : length s.path.items ≡ 0 = ended g start s d in absurd (omega (arith, l, z))

  all_done : (node : ℕ) → Reaches g start node → Contains s.order.items node
  all_done node r = reaches_stays g (λ n. Contains s.order.items n) d.search.closed start node start_done r

  done_at : (node : ℕ) → get_or (map is_done s.marks.items) node false ≡ is_done (mark_of s.marks.items node)
  done_at node = get_or-map is_done s.marks.items node mark.Unseen

  ring_at : (node : ℕ) → get_or (map is_on_ring s.marks.items) node false ≡ is_on_ring (mark_of s.marks.items node)
  ring_at node = get_or-map is_on_ring s.marks.items node mark.Unseen

  from_done : (node : ℕ) (m : Mark) → mark_of s.marks.items node ≡ m → is_done m ≡ true → Reaches g start node
  from_done node mark.Unseen e y = cc
  from_done node (mark.OnPath p) e y = cc
  from_done node (mark.Done f) e y = d.search.order_reached node (d.search.done_in node f e)

  from_ring : (node : ℕ) (m : Mark) → mark_of s.marks.items node ≡ m → is_on_ring m ≡ true → Reaches g start node × Leads g node node
  from_ring node mark.Unseen e y = absurd (let n : false ≡ true = y in cc)
  from_ring node (mark.OnPath p) e y = absurd (let n : false ≡ true = y in cc)
  from_ring node (mark.Done f) e y =
      (d.search.order_reached node (d.search.done_in node f e), d.search.on_ring node (e ∙ ap mark.Done y))

  to_ring : (node : ℕ) (f : Bool) → mark_of s.marks.items node ≡ mark.Done f → Leads g node node → f ≡ true
  to_ring node true e l = refl
  to_ring node false e l = absurd (d.search.off_ring node e l)

  pub surveyed : IsSurvey g start (map is_done s.marks.items) (map is_on_ring s.marks.items) s.order.items
  surveyed = record {
    reached_len = length-map s.marks.items is_done ∙ d.search.marks_len;
    on_ring_len = length-map s.marks.items is_on_ring ∙ d.search.marks_len;
    reached_is = λ node. (λ y. from_done node (mark_of s.marks.items node) refl (sym (done_at node) ∙ y), λ r. let f = d.search.in_done node (all_done node r) in done_at node ∙ ap is_done f.1);
    on_ring_is = λ node. (
      λ y. from_ring node (mark_of s.marks.items node) refl (sym (ring_at node) ∙ y),
      λ r.
          let f = d.search.in_done node (all_done node r.0) in ring_at node ∙ (ap is_on_ring f.1 ∙ to_ring node f.0 f.1 r.1),
    );
    order_is = λ node. (d.search.order_reached node, all_done node);
    once = λ i k x l h same. d.search.once i k l h (get_or_default s.order.items i 0 x (omega (arith, l, h)) ∙ (same ∙ get_or_default s.order.items k x 0 h));
    after = λ k to h none edge.
        let f = d.search.in_done (get_or s.order.items k 0) (Contains-get_or s.order.items k 0 h) in
        plain k to h none edge f.0 f.1;
  } where
    plain : (k to : ℕ) → k < length s.order.items → (Leads g (get_or s.order.items k 0) (get_or s.order.items k 0) → ⊥) → HasEdge g (get_or s.order.items k 0) to → (f : Bool) → mark_of s.marks.items (get_or s.order.items k 0) ≡ mark.Done f → Contains (take k s.order.items) to
    plain k to h none edge true e = absurd (none (d.search.on_ring (get_or s.order.items k 0) e))
    plain k to h none edge false e = d.search.after k to h e edge
