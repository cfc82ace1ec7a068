use Rattle.std.proofs.Common.{arith, sym, ap, subst, ◌≡◌, ◌∙◌, ◌<◌, ◌≤◌, length, List, ℕ, false, replicate}
use Rattle.flat_form.specs.Walking.{IsWalk}
use Rattle.flat_form.proofs.Loops.{ring_of}
use Rattle.flat_form.proofs.Walks.{start, order_of}
use Rattle.flat_form.proofs.order.find_order.Goals as goal

pub walk-requires-clause-walk : goal.walk-requires-clause-walk
walk-requires-clause-walk c =
    let marks : c.as_mut_slice.result.now ≡ replicate (length c.args.flat.now.cells) false = c.as_mut_slice.ensures.value ∙ c.in_ok-seen.ensures ∙ ap (λ (n : ℕ). replicate n false) c.len.ensures.len in
    subst (λ (order : List ℕ). IsWalk c.args.flat.now c.as_mut_slice.result.now order) (sym c.new-order.ensures) (start c.args.flat.now c.requires.flat c.as_mut_slice.result.now marks)

pub returns-then-len-clause-ring : goal.returns-then-len-clause-ring
returns-then-len-clause-ring c =
    let lt : length c.walk.new.order < length c.args.flat.now.cells = omega arith in
    ring_of c.args.flat.now c.requires.flat c.walk.new.seen c.walk.new.order c.in_ok-walk.ensures.done lt

pub returns-clause-ordered : goal.returns-clause-ordered
returns-clause-ordered c =
    let le : length c.args.flat.now.cells ≤ length c.walk.new.order = omega arith in
    order_of c.args.flat.now c.requires.flat c.walk.new.seen c.walk.new.order c.in_ok-walk.ensures.done.walk le
