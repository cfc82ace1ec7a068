use Rattle.std.proofs.Common.{◌≡◌, ◌∙◌, ◌-◌, ◌<◌, ℕ, true, false, List, [], ◌∷◌, ◌++◌, length, subst, sym, arith, get_or, set, rules}
use Rattle.std.proofs.lemmas.Option.{get_or_from_slice_get}
use Rattle.graph_rings.specs.Graph.{edges_of, HasEdge}
use Rattle.graph_rings.specs.Tour.{is_seen, IsTour}
use Rattle.graph_rings.proofs.Dropping.{popped}
use Rattle.graph_rings.proofs.Results.{read_at}
use Rattle.graph_rings.proofs.Touring.{toured_back, edge_on, step_seen, step_on, ring_found}
use Rattle.graph_rings.proofs.ring.Tour.step.Goals as goal

pub returns-then-left-eq0-clause-on : goal.returns-then-left-eq0-clause-on
returns-then-left-eq0-clause-on c = λ _.
    let path = c.args.self.now.path.items in
    let left = c.args.self.now.left.items in
    let is : path ≡ c.pop.new.self.items ++ c.args.last ∷ [] = popped path c.pop.new.self.items c.pop.result c.args.last c.pop.ensures.items (search rules) (get_or_from_slice_get path (length path - 1) c.args.last 0 c.requires.last.is_last) in
    let none : get_or left c.args.last 0 ≡ 0 = read_at left c.args.last 0 c.index-left.result.now (omega arith) c.index-left.ensures ∙ c.if-left-eq0.true in
    toured_back c.args.graph.now c.args.node left c.args.self.now.seen.items path c.pop.new.self.items c.args.last c.requires.tour is none

pub returns-then-to-node-clause-back : goal.returns-then-to-node-clause-back
returns-then-to-node-clause-back c = λ _.
    let path = c.args.self.now.path.items in
    let left = c.args.self.now.left.items in
    let n_is : get_or left c.args.last 0 ≡ c.index-left.result.now = read_at left c.args.last 0 c.index-left.result.now (omega arith) c.index-left.ensures in
    let row_is : edges_of c.args.graph.now c.args.last ≡ c.as_slice.result.now = read_at c.args.graph.now c.args.last [] c.index-graph-last.result (omega arith) c.index-graph-last.is ∙ sym c.as_slice.ensures in
    let edge : HasEdge c.args.graph.now c.args.last (get_or c.as_slice.result.now (c.index-left.result.now - 1) 0) = edge_on c.args.graph.now c.args.node left c.args.self.now.seen.items path c.args.last c.index-left.result.now c.as_slice.result.now c.requires.tour c.requires.last.is_last c.requires.last.inside n_is (omega arith) row_is in
    ring_found c.args.graph.now c.args.node left c.args.self.now.seen.items path c.args.last c.requires.tour c.requires.last.is_last (subst (λ (x : ℕ). HasEdge c.args.graph.now c.args.last x) c.if-to-node.true edge)

pub returns-then-index-clause-on : goal.returns-then-index-clause-on
returns-then-index-clause-on c = λ _.
    let path = c.args.self.now.path.items in
    let left = c.args.self.now.left.items in
    let seen = c.args.self.now.seen.items in
    let to = get_or c.as_slice.result.now (c.index-left.result.now - 1) 0 in
    let n_is : get_or left c.args.last 0 ≡ c.index-left.result.now = read_at left c.args.last 0 c.index-left.result.now (omega arith) c.index-left.ensures in
    let row_is : edges_of c.args.graph.now c.args.last ≡ c.as_slice.result.now = read_at c.args.graph.now c.args.last [] c.index-graph-last.result (omega arith) c.index-graph-last.is ∙ sym c.as_slice.ensures in
    let to_seen : is_seen seen to ≡ true = read_at seen to false c.index.result.now (search rules) c.index.ensures ∙ c.if-index.true in
    step_seen c.args.graph.now c.args.node left seen path c.args.last c.index-left.result.now c.as_slice.result.now c.requires.tour c.requires.last.is_last c.requires.last.inside n_is (omega arith) row_is to_seen c.if-to-node.false

pub returns-clause-on : goal.returns-clause-on
returns-clause-on c = λ _.
    let path = c.args.self.now.path.items in
    let left = c.args.self.now.left.items in
    let seen = c.args.self.now.seen.items in
    let to = get_or c.as_slice.result.now (c.index-left.result.now - 1) 0 in
    let n_is : get_or left c.args.last 0 ≡ c.index-left.result.now = read_at left c.args.last 0 c.index-left.result.now (omega arith) c.index-left.ensures in
    let row_is : edges_of c.args.graph.now c.args.last ≡ c.as_slice.result.now = read_at c.args.graph.now c.args.last [] c.index-graph-last.result (omega arith) c.index-graph-last.is ∙ sym c.as_slice.ensures in
    let below : to < length seen = search rules in
    let unseen : is_seen seen to ≡ false = read_at seen to false c.index.result.now below c.index.ensures ∙ c.if-index.false in
    let path_is : c.push.new.self.items ≡ path ++ to ∷ [] = c.in_ok-push.ensures.items in
    subst (λ (l : List ℕ). IsTour c.args.graph.now c.args.node (set left c.args.last (c.index-left.result.now - 1)) (set seen to true) l) (sym path_is)
    (step_on c.args.graph.now c.args.node left seen path c.args.last c.index-left.result.now c.as_slice.result.now c.requires.tour c.requires.last.is_last c.requires.last.inside n_is (omega arith) row_is below unseen c.if-to-node.false)
