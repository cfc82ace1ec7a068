use Rattle.std.proofs.Common.{sym, subst, arith, ◌<◌, length, List, ℕ}
use Rattle.flat_form.specs.Walking.{IsServed, Comes}
use Rattle.flat_form.proofs.Lists.{got_contained}
use Rattle.flat_form.proofs.Circuits.{cells_within}
use Rattle.flat_form.proofs.Clocks.{item_at}
use Rattle.flat_form.proofs.Walks.{walked_within, output_comes, cells_more, three_ok}
use Rattle.flat_form.proofs.order.follow_cell.Goals as goal

pub net_behind-requires-clause-cell : goal.net_behind-requires-clause-cell
net_behind-requires-clause-cell c =
    let at = item_at c.as_slice.result.now c.args.order.now c.args.place c.index-as_slice-place.result c.as_slice.ensures (subst (λ (xs : List ℕ). c.args.place < length xs) (sym c.as_slice.ensures) c.requires.place)
    c.index-as_slice-place.is in
    walked_within c.args.flat.now c.requires.flat c.args.seen.now c.args.order.now c.requires.walk c.index-as_slice-place.result (got_contained c.args.order.now c.args.place c.index-as_slice-place.result at)

pub follow-requires-clause-net : goal.follow-requires-clause-net
follow-requires-clause-net c =
    let at =
    item_at c.as_slice.result.now c.args.order.now c.args.place c.index-as_slice-place.result c.as_slice.ensures (subst (λ (xs : List ℕ). c.args.place < length xs) (sym c.as_slice.ensures) c.requires.place)
    c.index-as_slice-place.is in
    let cell = walked_within c.args.flat.now c.requires.flat c.args.seen.now c.args.order.now c.requires.walk c.index-as_slice-place.result (got_contained c.args.order.now c.args.place c.index-as_slice-place.result at) in
    let nets = cells_within c.args.flat.now c.requires.flat in
    omega arith

pub follow-requires-clause-comes : goal.follow-requires-clause-comes
follow-requires-clause-comes c =
    let at =
    item_at c.as_slice.result.now c.args.order.now c.args.place c.index-as_slice-place.result c.as_slice.ensures (subst (λ (xs : List ℕ). c.args.place < length xs) (sym c.as_slice.ensures) c.requires.place)
    c.index-as_slice-place.is in
    subst (λ (net : ℕ). Comes c.args.flat.now c.args.order.now net) (sym c.net_behind.ensures)
    (output_comes c.args.flat.now c.requires.flat c.args.order.now c.index-as_slice-place.result (got_contained c.args.order.now c.args.place c.index-as_slice-place.result at))

pub returns-clause-cells : goal.returns-clause-cells
returns-clause-cells c =
    let at =
    item_at c.as_slice.result.now c.args.order.now c.args.place c.index-as_slice-place.result c.as_slice.ensures (subst (λ (xs : List ℕ). c.args.place < length xs) (sym c.as_slice.ensures) c.requires.place)
    c.index-as_slice-place.is in
    three_ok c.follow.result c.follow.ensures.grows c.follow.ensures.extends c.follow.ensures.served (λ grows extends served.
    cells_more c.args.flat.now c.requires.flat c.args.seen.now c.follow.new.seen c.args.order.now c.follow.new.order c.args.place c.index-as_slice-place.result c.requires.place at c.requires.cells grows extends
    (subst (λ (net : ℕ). IsServed c.args.flat.now c.follow.new.seen net) c.net_behind.ensures served))
