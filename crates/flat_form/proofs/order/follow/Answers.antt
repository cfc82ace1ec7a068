use Rattle.std.proofs.Common.{sym, ap, subst, ◌∙◌, List, ℕ, Bool, get_or}
use Rattle.flat_form.specs.Walking.{IsMarked, reach_seen, IsWalk, IsServed, Grows, Extends}
use Rattle.flat_form.proofs.Walks.{both_ok, is_reader, is_marked, walk_step, step_served, seen_grows, order_extends}
use Rattle.flat_form.proofs.order.follow.Goals as goal

pub reach-requires : goal.reach-requires
reach-requires c =
    let is =
    is_reader c.args.flat.now c.requires.flat c.args.readers.now c.requires.readers c.args.net c.index-readers-index.result c.requires.net
    (c.index-readers-index.is ∙ ap (λ (k : ℕ). get_or c.args.readers.now k c.index-readers-index.result) c.index.ensures.number) in
    subst (λ (n : ℕ). IsMarked n c.index-readers-index.result) (sym c.requires.walk.flags) (is_marked c.args.flat.now c.requires.flat c.args.readers.now c.requires.readers c.args.net c.index-readers-index.result is)

pub returns-clause-walk : goal.returns-clause-walk
returns-clause-walk c =
    let is =
    is_reader c.args.flat.now c.requires.flat c.args.readers.now c.requires.readers c.args.net c.index-readers-index.result c.requires.net
    (c.index-readers-index.is ∙ ap (λ (k : ℕ). get_or c.args.readers.now k c.index-readers-index.result) c.index.ensures.number) in
    let h = walk_step c.args.flat.now c.requires.flat c.args.readers.now c.requires.readers c.args.seen.now c.args.order.now c.args.net c.index-readers-index.result c.requires.walk c.requires.comes is in
    both_ok c.reach.result c.reach.ensures.seen c.reach.ensures.order (λ s o.
    subst (λ (seen : List Bool). IsWalk c.args.flat.now seen c.reach.new.order) (sym s) (subst (λ (order : List ℕ). IsWalk c.args.flat.now (reach_seen c.index-readers-index.result c.args.seen.now) order) (sym o) h))

pub returns-clause-served : goal.returns-clause-served
returns-clause-served c =
    let is =
    is_reader c.args.flat.now c.requires.flat c.args.readers.now c.requires.readers c.args.net c.index-readers-index.result c.requires.net
    (c.index-readers-index.is ∙ ap (λ (k : ℕ). get_or c.args.readers.now k c.index-readers-index.result) c.index.ensures.number) in
    let h = step_served c.args.flat.now c.requires.flat c.args.readers.now c.requires.readers c.args.seen.now c.args.order.now c.args.net c.index-readers-index.result c.requires.walk is in
    both_ok c.reach.result c.reach.ensures.seen c.reach.ensures.order (λ s o. subst (λ (seen : List Bool). IsServed c.args.flat.now seen c.args.net) (sym s) h)

pub returns-clause-grows : goal.returns-clause-grows
returns-clause-grows c = both_ok c.reach.result c.reach.ensures.seen c.reach.ensures.order (λ s o. subst (λ (seen : List Bool). Grows c.args.seen.now seen) (sym s) (seen_grows c.index-readers-index.result c.args.seen.now))

pub returns-clause-extends : goal.returns-clause-extends
returns-clause-extends c =
    both_ok c.reach.result c.reach.ensures.seen c.reach.ensures.order (λ s o. subst (λ (order : List ℕ). Extends c.args.order.now order) (sym o) (order_extends c.index-readers-index.result c.args.seen.now c.args.order.now))
