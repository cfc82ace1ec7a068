use Rattle.std.proofs.Common.{◌≡◌, ◌∙◌, ◌+◌, ◌<◌, ◌++◌, List, length, take, drop, set, Option, ap, subst, sym, arith}
use Rattle.std.proofs.Math.ListN.{length-set}
use Rattle.variable_order.specs.declared.order.Ranked.{Ranked}
use Rattle.variable_order.specs.declared.order.Seat.{Seat}
use Rattle.variable_order.proofs.Tournament.{put_kept, put_right, whole}
use Rattle.variable_order.proofs.order.VariableOrder.put.Goals as goal

pub settle-requires-clause-few : goal.settle-requires-clause-few
settle-requires-clause-few c =
    let known : c.args.var < length c.self.inside.seats.items = subst (λ (seats : List Seat). c.args.var < length seats) (sym c.self.view_is) c.requires in
    let place : c.len.result + c.index.result ≡ length c.self.inside.seats.items + c.args.var = omega (arith, c.len.ensures, c.index.ensures.number) in
    let r = put_right c.self.inside.seats.items c.self.inside.tree.items c.as_mut_slice.result.now c.args.var (c.len.result + c.index.result) c.leaf_of.result c.self.invariant.size c.self.invariant.right known place c.as_mut_slice.ensures.value in
    omega (arith, r.0, c.self.invariant.few)

pub settle-requires-clause-right : goal.settle-requires-clause-right
settle-requires-clause-right c =
    let known : c.args.var < length c.self.inside.seats.items = subst (λ (seats : List Seat). c.args.var < length seats) (sym c.self.view_is) c.requires in
    let place : c.len.result + c.index.result ≡ length c.self.inside.seats.items + c.args.var = omega (arith, c.len.ensures, c.index.ensures.number) in
    (length c.self.inside.seats.items, put_right c.self.inside.seats.items c.self.inside.tree.items c.as_mut_slice.result.now c.args.var (c.len.result + c.index.result) c.leaf_of.result c.self.invariant.size c.self.invariant.right known place c.as_mut_slice.ensures.value)

pub invariant_of-self : goal.invariant_of-self
invariant_of-self c =
    let known : c.args.var < length c.self.inside.seats.items = subst (λ (seats : List Seat). c.args.var < length seats) (sym c.self.view_is) c.requires in
    let place : c.len.result + c.index.result ≡ length c.self.inside.seats.items + c.args.var = omega (arith, c.len.ensures, c.index.ensures.number) in
    let kept = put_kept c.self.inside.seats.items c.self.inside.tree.items c.as_mut_slice.result.now c.settle.new.tree c.args.var (c.len.result + c.index.result) c.args.seat c.leaf_of.result
    c.self.invariant.few c.self.invariant.size c.self.invariant.leaves known place c.leaf_of.ensures c.as_mut_slice.ensures.value c.settle.ensures.size c.settle.ensures.right c.settle.ensures.leaves in
    let mid = set c.self.inside.tree.items (c.len.result + c.index.result) c.leaf_of.result in
    let long : length mid ≡ length c.self.inside.tree.items = length-set c.self.inside.tree.items (c.len.result + c.index.result) c.leaf_of.result in
    let new_long : length c.settle.new.tree ≡ length mid = c.settle.ensures.size ∙ ap (λ (t : List (Option Ranked)). length t) c.as_mut_slice.ensures.value in
    let all : take c.self.inside.tree.len (c.settle.new.tree ++ drop (length c.settle.new.tree) mid) ≡ c.settle.new.tree = whole c.settle.new.tree mid c.self.inside.tree.len new_long (omega arith) in
    rw c.index-2.ensures.number (record { few = kept.few; size = rw all kept.size; right = rw all kept.right; leaves = rw all kept.leaves })
