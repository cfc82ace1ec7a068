use Rattle.std.proofs.Common.{◌≡◌, ◌∙◌, ◌-◌, ℕ, List, [], sym, ap, arith, get_or, rules}
use Rattle.graph_rings.specs.declared.search.Mark.TheVariants as mark
use Rattle.graph_rings.specs.Graph.{edges_of}
use Rattle.graph_rings.specs.Search.{mark_of}
use Rattle.graph_rings.proofs.Results.{read_at, on_ok_six, same_search}
use Rattle.graph_rings.proofs.Stepping.{stepped_done, stepped_back, stepped_on}
use Rattle.graph_rings.proofs.search.Search.step.Goals as goal

pub returns-in-Unseen-clause-search : goal.returns-in-Unseen-clause-search
returns-in-Unseen-clause-search c =
    on_ok_six c.enter.result c.enter.ensures.left c.enter.ensures.marks c.enter.ensures.path c.enter.ensures.bases c.enter.ensures.stack c.enter.ensures.order
    (λ a b d e f h. λ start s.
    let node = c.index-node.result.now in
    let n = c.index-left.result.now in
    let to = get_or c.as_slice.result.now (n - 1) 0 in
    let node_is : get_or c.args.self.now.path.items c.args.place 0 ≡ node = read_at c.args.self.now.path.items c.args.place 0 node (omega arith) c.index-node.ensures in
    let n_is : get_or c.args.self.now.left.items node 0 ≡ n = read_at c.args.self.now.left.items node 0 n (omega arith) c.index-left.ensures in
    let row_is : edges_of c.args.graph.now node ≡ c.as_slice.result.now = read_at c.args.graph.now node [] c.index-graph-node.result (omega arith) c.index-graph-node.is ∙ sym c.as_slice.ensures in
    let mark_is : mark_of c.args.self.now.marks.items to ≡ mark.Unseen = read_at c.args.self.now.marks.items to mark.Unseen c.index.result.now (search rules) c.index.ensures ∙ c.in-Unseen.is in
    same_search c.args.graph.now start _ _ _ _ _ _ _ _ _ _ _ _ a b d e f h
    (stepped_on c.args.graph.now start c.args.self.now.left.items c.args.self.now.marks.items c.args.self.now.path.items c.args.self.now.bases.items c.args.self.now.stack.items c.args.self.now.order.items s c.args.place node n to c.requires.top.last node_is n_is (omega arith)
    (ap (λ (l : List ℕ). get_or l (n - 1) 0) row_is) (search rules) mark_is))

pub returns-in-OnPath-clause-search : goal.returns-in-OnPath-clause-search
returns-in-OnPath-clause-search c = λ start s.
    let node = c.index-node.result.now in
    let n = c.index-left.result.now in
    let to = get_or c.as_slice.result.now (n - 1) 0 in
    let node_is : get_or c.args.self.now.path.items c.args.place 0 ≡ node = read_at c.args.self.now.path.items c.args.place 0 node (omega arith) c.index-node.ensures in
    let n_is : get_or c.args.self.now.left.items node 0 ≡ n = read_at c.args.self.now.left.items node 0 n (omega arith) c.index-left.ensures in
    let row_is : edges_of c.args.graph.now node ≡ c.as_slice.result.now = read_at c.args.graph.now node [] c.index-graph-node.result (omega arith) c.index-graph-node.is ∙ sym c.as_slice.ensures in
    let mark_is : mark_of c.args.self.now.marks.items to ≡ mark.OnPath c.in-OnPath.met = read_at c.args.self.now.marks.items to mark.Unseen c.index.result.now (search rules) c.index.ensures ∙ c.in-OnPath.is in
    stepped_back c.args.graph.now start c.args.self.now.left.items c.args.self.now.marks.items c.args.self.now.path.items c.args.self.now.bases.items c.args.self.now.stack.items c.args.self.now.order.items s c.args.place node n to c.requires.top.last node_is n_is (omega arith)
    (ap (λ (l : List ℕ). get_or l (n - 1) 0) row_is) c.in-OnPath.met mark_is c.drop_above.new.bases.items c.drop_above.ensures.rises c.drop_above.ensures.kept

pub returns-in-Done-clause-search : goal.returns-in-Done-clause-search
returns-in-Done-clause-search c = λ start s.
    let node = c.index-node.result.now in
    let n = c.index-left.result.now in
    let to = get_or c.as_slice.result.now (n - 1) 0 in
    let node_is : get_or c.args.self.now.path.items c.args.place 0 ≡ node = read_at c.args.self.now.path.items c.args.place 0 node (omega arith) c.index-node.ensures in
    let n_is : get_or c.args.self.now.left.items node 0 ≡ n = read_at c.args.self.now.left.items node 0 n (omega arith) c.index-left.ensures in
    let row_is : edges_of c.args.graph.now node ≡ c.as_slice.result.now = read_at c.args.graph.now node [] c.index-graph-node.result (omega arith) c.index-graph-node.is ∙ sym c.as_slice.ensures in
    let mark_is : mark_of c.args.self.now.marks.items to ≡ mark.Done c.in-Done.field-0 = read_at c.args.self.now.marks.items to mark.Unseen c.index.result.now (search rules) c.index.ensures ∙ c.in-Done.is in
    stepped_done c.args.graph.now start c.args.self.now.left.items c.args.self.now.marks.items c.args.self.now.path.items c.args.self.now.bases.items c.args.self.now.stack.items c.args.self.now.order.items s c.args.place node n to c.requires.top.last node_is n_is (omega arith)
    (ap (λ (l : List ℕ). get_or l (n - 1) 0) row_is) c.in-Done.field-0 mark_is
