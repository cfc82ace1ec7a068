use Rattle.std.proofs.Common.{◌≡◌, ◌∙◌, ◌<◌, ◌≤◌, ◌*◌, ◌+◌, ◌/◌, ◌⊎◌, inl, inr, ℕ, length, sym, subst, arith}
use Rattle.std.proofs.Math.ListN.{length-set}
use Rattle.std.proofs.lemmas.List.{get_or-set_other}
use Rattle.std.specs.Prelude.{None}
use Rattle.variable_order.specs.Tree.{better, node_at}
use Rattle.variable_order.proofs.Tournament.{right_above, right_all}
use Rattle.variable_order.proofs.order.settle.Goals as goal

pub overflow_mul-node : goal.overflow_mul-node
overflow_mul-node c =
    let r = c.up.invariant.right c.requires.right.0 c.requires.right.1.0 in
    let inside : c.up.node < c.requires.right.0 = r.0 in
    omega (arith, c.requires.few, c.requires.right.1.0, inside)

pub offset_bounds-tree-node : goal.offset_bounds-tree-node
offset_bounds-tree-node c =
    let inside : c.up.node < c.requires.right.0 = (c.up.invariant.right c.requires.right.0 c.requires.right.1.0).0 in
    omega (arith, c.requires.few, c.requires.right.1.0, inside)

pub slice_copy_out-better_of : goal.slice_copy_out-better_of
slice_copy_out-better_of c =
    let inside : c.up.node < c.requires.right.0 = (c.up.invariant.right c.requires.right.0 c.requires.right.1.0).0 in
    omega (arith, c.requires.right.1.0, c.up.invariant.size, inside)

pub overflow_mul-node-in-up : goal.overflow_mul-node-in-up
overflow_mul-node-in-up c =
    let inside : c.up.node < c.requires.right.0 = (c.up.invariant.right c.requires.right.0 c.requires.right.1.0).0 in
    omega (arith, c.requires.few, c.requires.right.1.0, inside)

pub overflow_add-node : goal.overflow_add-node
overflow_add-node c =
    let inside : c.up.node < c.requires.right.0 = (c.up.invariant.right c.requires.right.0 c.requires.right.1.0).0 in
    omega (arith, c.requires.few, c.requires.right.1.0, inside)

pub offset_bounds-tree-node-in-up : goal.offset_bounds-tree-node-in-up
offset_bounds-tree-node-in-up c =
    let inside : c.up.node < c.requires.right.0 = (c.up.invariant.right c.requires.right.0 c.requires.right.1.0).0 in
    omega (arith, c.requires.few, c.requires.right.1.0, inside)

pub slice_copy_out-better_of-in-up : goal.slice_copy_out-better_of-in-up
slice_copy_out-better_of-in-up c =
    let inside : c.up.node < c.requires.right.0 = (c.up.invariant.right c.requires.right.0 c.requires.right.1.0).0 in
    omega (arith, c.requires.right.1.0, c.up.invariant.size, inside)

pub offset_bounds-tree-node-in-up-2 : goal.offset_bounds-tree-node-in-up-2
offset_bounds-tree-node-in-up-2 c =
    let inside : c.up.node < c.requires.right.0 = (c.up.invariant.right c.requires.right.0 c.requires.right.1.0).0 in
    omega (arith, c.requires.few, c.requires.right.1.0, inside)

pub slice_copy_out-are_same : goal.slice_copy_out-are_same
slice_copy_out-are_same c =
    let inside : c.up.node < c.requires.right.0 = (c.up.invariant.right c.requires.right.0 c.requires.right.1.0).0 in
    omega (arith, c.requires.right.1.0, c.up.invariant.size, inside)

pub returns-then-are_same-clause-right : goal.returns-then-are_same-clause-right
returns-then-are_same-clause-right c = λ count size.
    let same = sym (c.are_same.ensures c.if-are_same.true) ∙ c.better_of-best.ensures in
    right_all c.up.tree count c.up.node (c.up.invariant.right count size).1 (inr same)

pub offset_bounds-tree-node-in-up-3 : goal.offset_bounds-tree-node-in-up-3
offset_bounds-tree-node-in-up-3 c =
    let inside : c.up.node < c.requires.right.0 = (c.up.invariant.right c.requires.right.0 c.requires.right.1.0).0 in
    omega (arith, c.requires.few, c.requires.right.1.0, inside)

pub bounds-tree-node : goal.bounds-tree-node
bounds-tree-node c =
    let inside : c.up.node < c.requires.right.0 = (c.up.invariant.right c.requires.right.0 c.requires.right.1.0).0 in
    omega (arith, c.requires.right.1.0, c.up.invariant.size, inside)

pub up-preserved : goal.up-preserved
up-preserved c = record {
  size = length-set c.up.tree c.up.node c.better_of-best.result ∙ c.up.invariant.size;
  right = λ count size.
      let was = c.up.invariant.right count size in
      let inside : c.up.node < count = was.0 in
      (omega arith, right_above c.up.tree count c.up.node c.better_of-best.result (c.up.invariant.size ∙ size) c.up-test.true inside was.1 c.better_of-best.ensures);
  leaves = λ count place size l.
      let inside : c.up.node < count = (c.up.invariant.right count size).0 in
      get_or-set_other c.up.tree c.up.node place c.better_of-best.result None (λ e. omega arith) ∙ c.up.invariant.leaves count place size l;
}

pub returns-clause-right : goal.returns-clause-right
returns-clause-right c = λ count size.
    right_all c.up.tree count c.up.node (c.up.invariant.right count size).1 (inl (omega (arith, c.up-test.false)))
