use Rattle.std.proofs.Common.{◌∙◌, length-set, ◌<◌, ℕ, List, length, subst, sym, arith, get_or}
use Rattle.std.specs.List.{Contains}
use Rattle.std.proofs.lemmas.List.{take_all}
use Rattle.graph_rings.specs.declared.search.Mark.TheVariants as mark
use Rattle.graph_rings.proofs.Marks.{settled_within, settled_without}
use Rattle.graph_rings.proofs.search.settle.Goals as goal

pub loop-node-preserved : goal.loop-node-preserved
loop-node-preserved c = record {
  len = length-set c.loop-node.marks.items (get_or c.args.nodes.now c.loop-node.node-index 0) (mark.Done c.args.on_ring) ∙ c.loop-node.invariant.len;
  within = settled_within c.loop-node.marks.items c.args.nodes.now c.loop-node.node-index c.args.on_ring (omega arith) (let b : get_or c.args.nodes.now c.loop-node.node-index 0 < length c.args.marks.now.items = c.requires c.loop-node.node-index 0 (omega arith) in omega (arith, b, c.loop-node.invariant.len)) c.loop-node.invariant.within;
  without = settled_without c.loop-node.marks.items c.args.marks.now.items c.args.nodes.now c.loop-node.node-index c.args.on_ring (omega arith) c.loop-node.invariant.without;
}

pub returns-clause-within : goal.returns-clause-within
returns-clause-within c = λ node h. c.loop-node.invariant.within node (subst (λ (xs : List ℕ). Contains xs node) (sym (take_all c.loop-node.node-index c.args.nodes.now (omega arith))) h)
