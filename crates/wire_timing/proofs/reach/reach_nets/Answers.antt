use Rattle.std.proofs.Common.{◌≡◌, ℕ, List, set, ◌-◌, ◌+◌, ◌∙◌, sym, ap, subst, arith}
use Rattle.std.proofs.lemmas.Option.{slice_get-get_or}
use Rattle.std.specs.Prelude.{slice_get, Option, Some}
use Rattle.wire_timing.specs.declared.reach.Reach.{Reach}
use Rattle.wire_timing.specs.Reach.{IsPassed}
use Rattle.wire_timing.specs.Wires.{design_of}
use Rattle.wire_timing.proofs.Shape.{inputs, cells_below}
use Rattle.wire_timing.proofs.Walk.{IsWalked, walk_starts, walk_on, walk_ends, place_within}
use Rattle.wire_timing.proofs.reach.reach_nets.Goals as goal

pub overflow_sub-inputs : goal.overflow_sub-inputs
overflow_sub-inputs c = let below = cells_below (design_of c.args.table.now c.args.flat.now c.args.bench.now) c.requires.set_up c.requires.jtls in omega arith

pub loop-cell-init : goal.loop-cell-init
loop-cell-init c = walk_starts (design_of c.args.table.now c.args.flat.now c.args.bench.now) c.args.order.now c.requires c.in_ok-reached.reached.items c.in_ok-reached.ensures

pub returns : goal.returns
returns c = walk_ends (design_of c.args.table.now c.args.flat.now c.args.bench.now) c.args.order.now c.requires c.loop-cell.cell-index c.loop-cell.reached.items c.loop-cell-test.false c.loop-cell.auto.cell-index-end c.loop-cell.invariant

pub index_mut-requires : goal.index_mut-requires
index_mut-requires c =
    let here : slice_get c.args.order.now c.loop-cell.cell-index ≡ Some c.cell-item.result = slice_get-get_or c.args.order.now c.loop-cell.cell-index c.cell-item.result c.loop-cell-test.true ∙ ap (λ (x : ℕ). Some x) (sym c.cell-item.is) in
    let within = place_within (design_of c.args.table.now c.args.flat.now c.args.bench.now) c.args.order.now c.requires c.loop-cell.cell-index c.cell-item.result c.loop-cell.reached.items c.loop-cell.invariant here in
    let a = c.len.ensures.len in
    let b = c.len-2.ensures.len in
    let n = c.index.ensures.number in omega arith

pub loop-cell-preserved : goal.loop-cell-preserved
loop-cell-preserved c =
    let here : slice_get c.args.order.now c.loop-cell.cell-index ≡ Some c.cell-item.result = slice_get-get_or c.args.order.now c.loop-cell.cell-index c.cell-item.result c.loop-cell-test.true ∙ ap (λ (x : ℕ). Some x) (sym c.cell-item.is) in
    let passed = subst (λ (xs : List (Option Reach)). IsPassed (design_of c.args.table.now c.args.flat.now c.args.bench.now) c.cell-item.result xs c.reach_behind-behind.result) c.deref.ensures.value c.reach_behind-behind.ensures in
    let next = walk_on (design_of c.args.table.now c.args.flat.now c.args.bench.now) c.args.order.now c.requires c.loop-cell.cell-index c.cell-item.result c.loop-cell.reached.items c.loop-cell.invariant here c.reach_behind-behind.result passed in
    let a = c.len.ensures.len in
    let b = c.len-2.ensures.len in
    let n = c.index.ensures.number in
    let place : inputs (design_of c.args.table.now c.args.flat.now c.args.bench.now) + c.cell-item.result ≡ c.len.result - c.len-2.result + c.index.result = omega arith in
    subst (λ (k : ℕ). IsWalked (design_of c.args.table.now c.args.flat.now c.args.bench.now) c.args.order.now (c.loop-cell.cell-index + 1) (set c.loop-cell.reached.items k c.reach_behind-behind.result)) place next
