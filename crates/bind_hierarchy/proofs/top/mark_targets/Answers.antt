use Rattle.std.proofs.Common.{◌≡◌, ◌∙◌, ◌<◌, ◌≤◌, ◌+◌, ◌⊎◌, inl, inr, ℕ, List, [], true, false, length, sym, subst, arith, get_or}
use Rattle.std.specs.List.{Contains}
use Rattle.std.proofs.lemmas.Bool.{cases_lt}
use Rattle.std.proofs.lemmas.List.{get_or_default}
use Rattle.graph_rings.specs.Graph.{edges_of, HasEdge}
use Rattle.bind_hierarchy.proofs.Roots.{edge_inside}
use Rattle.bind_hierarchy.proofs.top.mark_targets.Goals as goal

pub loop-edges-preserved : goal.loop-edges-preserved
loop-edges-preserved c =
    let i = c.loop-edges.edges-index in
    let g = c.args.graph.now in
    let row_is : edges_of g i ≡ c.as_slice.result.now = get_or_default g i [] c.edges-item.result (omega arith) ∙ (sym c.edges-item.is ∙ sym c.as_slice.ensures) in
    record {
      len = c.mark_edges.ensures.len ∙ c.loop-edges.invariant.len;
      marked = λ outer node l edge. elim (cases_lt outer i) [
        | inl before ↦ c.mark_edges.ensures.kept node (c.loop-edges.invariant.marked outer node before edge)
        | inr high ↦
            let here : outer ≡ i = omega (arith, l, high) in
            c.mark_edges.ensures.marked node (subst (λ (xs : List ℕ). Contains xs node) row_is (subst (λ (n : ℕ). HasEdge g n node) here edge))
      ];
      only = λ node e. elim (c.mark_edges.ensures.only node e) [
        | inl was ↦ c.loop-edges.invariant.only node was
        | inr new ↦ (i, subst (λ (xs : List ℕ). Contains xs node) (sym row_is) new)
      ];
    }

pub returns-clause-marks : goal.returns-clause-marks
returns-clause-marks c = λ node. (
  c.loop-edges.invariant.only node,
  λ p.
      let l : p.0 < length c.args.graph.now = edge_inside c.args.graph.now p.0 node p.1 in
      c.loop-edges.invariant.marked p.0 node (omega (arith, l, c.loop-edges-test.false)) p.1,
)
