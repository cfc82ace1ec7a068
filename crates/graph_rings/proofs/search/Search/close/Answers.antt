use Rattle.std.proofs.Common.{◌≡◌, ◌∙◌, ◌-◌, ◌+◌, ◌<◌, ◌≤◌, ◌⊎◌, inl, inr, ℕ, true, false, List, [], ◌∷◌, ◌++◌, length, take, drop, subst, sym, ap, refl, arith, get_or, rules, length-drop}
use Rattle.std.specs.List.{Contains}
use Rattle.std.specs.Bool.{Decides}
use Rattle.std.proofs.Math.Dec.{eqb}
use Rattle.std.proofs.lemmas.Bool.{ltb-false}
use Rattle.std.proofs.lemmas.Bool.Decides.{Decides-eqb}
use Rattle.std.proofs.lemmas.List.{take_all}
use Rattle.std.proofs.lemmas.List.Elements.{contains_decides, Decides-contains}
use Rattle.std.proofs.lemmas.Option.{get_or_from_slice_get}
use Rattle.graph_rings.specs.Graph.{edges_of, HasEdge}
use Rattle.graph_rings.proofs.Closing.{closed_by_list}
use Rattle.graph_rings.proofs.Dropping.{popped}
use Rattle.graph_rings.proofs.Results.{read_at, same_search}
use Rattle.graph_rings.proofs.search.Search.close.Goals as goal
use Rattle.graph_rings.proofs.search.Search.close.Goals.{then-group-gt1, else-group-gt1}

group_is : (path row : List ℕ) (w : ℕ) → row ≡ path → take (length row - w) (drop w row) ≡ drop w path
group_is path row w e =
    let whole : take (length row - w) (drop w row) ≡ drop w row = take_all (length row - w) (drop w row) (omega (arith, length-drop w row)) in
    whole ∙ ap (λ (l : List ℕ). drop w l) e

pub returns-clause-search : goal.returns-clause-search
returns-clause-search c = λ start s.
    let path = c.args.self.now.path.items in
    let stack = c.args.self.now.stack.items in
    let bases = c.args.self.now.bases.items in
    let w = c.args.place in
    let row = c.as_slice.result.now in
    let group = take (length row - w) (drop w row) in
    let is : group ≡ drop w path = group_is path row w c.as_slice.ensures.value in
    let size : length group ≡ length path - w = ap (λ (l : List ℕ). length l) is ∙ length-drop w path in
    let node_is : get_or path w 0 ≡ c.index.result.now = read_at path w 0 c.index.result.now (omega arith) c.index.ensures in
    let base_is : bases ≡ c.pop.new.self.items ++ w ∷ [] = popped bases c.pop.new.self.items c.pop.result w c.pop.ensures.items (search rules) (get_or_from_slice_get bases (length bases - 1) w 0 c.requires.base) in
    let stack_is : stack ≡ c.pop-2.new.self.items ++ w ∷ [] = popped stack c.pop-2.new.self.items c.pop-2.result w c.pop-2.ensures.items (search rules) (get_or_from_slice_get stack (length stack - 1) w 0 c.requires.top.last) in
    let says : ((c.if-group-gt1.on_ring ≡ true → (w + 1 < length path) ⊎ HasEdge c.args.graph.now (get_or path w 0) (get_or path w 0)) × (c.if-group-gt1.on_ring ≡ false → (length path ≤ w + 1) × (HasEdge c.args.graph.now (get_or path w 0) (get_or path w 0) → ⊥))) =
    elim c.if-group-gt1.branch [
      | then-group-gt1 v ↦
          let more : 1 < length group = v.if-group-gt1.true in
          let two : w + 1 < length path = omega (arith, more, size) in
          (λ e. inl two, λ e. let few : length group ≤ 1 = ltb-false 1 (length group) (sym v.on_ring-is ∙ e) in absurd (omega (arith, few, more)))
      | else-group-gt1 v ↦
          let few : length group ≤ 1 = v.if-group-gt1.false in
          let one : length path ≤ w + 1 = omega (arith, few, size) in
          let own = v.as_slice-else-group-gt1.result.now in
          let node = c.index.result.now in
          let row_is : edges_of c.args.graph.now node ≡ own = read_at c.args.graph.now node [] v.index-graph-node.result (omega arith) v.index-graph-node.is ∙ sym v.as_slice-else-group-gt1.ensures in
          let found : Decides v.contains-on_ring.result (Contains own node) = Decides-contains own node v.contains-on_ring.result (contains_decides eqb Decides-eqb own node v.contains-on_ring.result v.contains-on_ring.ensures.cases) in
          let edge_is : HasEdge c.args.graph.now (get_or path w 0) (get_or path w 0) ≡ Contains own node = ap (λ (x : ℕ). HasEdge c.args.graph.now x x) node_is ∙ ap (λ (l : List ℕ). Contains l node) row_is in (
            λ e. inr (subst (λ (x : ℕ). HasEdge c.args.graph.now x x) (sym node_is) (subst (λ (l : List ℕ). Contains l node) (sym row_is) (found.0 (sym v.on_ring-is ∙ e)))),
            λ e. (one, λ edge. let yes : c.if-group-gt1.on_ring ≡ true = v.on_ring-is ∙ found.1 (subst (λ (l : List ℕ). Contains l node) row_is (subst (λ (x : ℕ). HasEdge c.args.graph.now x x) node_is edge)) in let no : true ≡ false = sym yes ∙ e in cc),
          )
    ] in
    same_search c.args.graph.now start _ _ _ _ _ _ _ _ _ _ _ _ refl refl c.truncate.ensures.items refl refl c.in_ok-extend_from_slice.ensures.items
    (closed_by_list c.args.graph.now start c.args.self.now.left.items c.args.self.now.marks.items path bases stack c.args.self.now.order.items s w c.if-group-gt1.on_ring c.settle.new.marks.items c.pop.new.self.items c.pop-2.new.self.items group c.requires.top.inside is
    base_is stack_is c.requires.spent c.settle.ensures.len c.settle.ensures.within c.settle.ensures.without says.0 says.1)
