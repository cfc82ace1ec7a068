use Rattle.std.proofs.Common.{◌≡◌, ◌∙◌, ◌<◌, ℕ, true, length, arith, get_or, length-set}
use Rattle.bind_hierarchy.proofs.Roots.{set_kept, set_marked, set_only}
use Rattle.bind_hierarchy.proofs.top.mark_edges.Goals as goal

pub loop-node-preserved : goal.loop-node-preserved
loop-node-preserved c =
    let below : get_or c.args.edges.now c.loop-node.node-index 0 < length c.loop-node.marks.items = let b : get_or c.args.edges.now c.loop-node.node-index 0 < length c.args.marks.now.items = c.requires c.loop-node.node-index 0 (omega arith) in omega (arith, b, c.loop-node.invariant.len) in
    record {
      len = length-set c.loop-node.marks.items (get_or c.args.edges.now c.loop-node.node-index 0) true ∙ c.loop-node.invariant.len;
      kept = λ node e. set_kept c.loop-node.marks.items (get_or c.args.edges.now c.loop-node.node-index 0) node below (c.loop-node.invariant.kept node e);
      marked = set_marked c.loop-node.marks.items c.args.edges.now c.loop-node.node-index (omega arith) below c.loop-node.invariant.marked;
      only = set_only c.loop-node.marks.items c.args.marks.now.items c.args.edges.now c.loop-node.node-index (omega arith) c.loop-node.invariant.only;
    }
