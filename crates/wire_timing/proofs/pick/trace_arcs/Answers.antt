use Rattle.std.proofs.Common.{List, length, reverse, subst, sym, arith, ap, ◌∙◌}
use Rattle.rsfq_ids.specs.declared.circuit.Driver.TheVariants as driver
use Rattle.rsfq_ids.specs.declared.offence.PathArc.{PathArc}
use Rattle.rsfq_ids.specs.Circuit.{IsDrivenBy}
use Rattle.rsfq_ids.specs.Path.{IsRoute}
use Rattle.wire_timing.specs.Wires.{design_of}
use Rattle.wire_timing.proofs.Shape.{net_is}
use Rattle.wire_timing.proofs.Trace.{IsTraced, driver_read, driven_at, trace_on, trace_ends}
use Rattle.wire_timing.proofs.pick.trace_arcs.Goals as goal

pub bounds-as_slice-index : goal.bounds-as_slice-index
bounds-as_slice-index c = let within = driven_at (design_of c.args.table.now c.args.flat.now c.args.bench.now) c.requires.set_up c.requires.jtls c.args.net c.args.reach c.loop-cell.at c.loop-cell.arcs.items c.loop-cell.invariant in let n = c.index.ensures.number in let e = ap length c.as_slice.ensures.value in omega arith

pub bounds : goal.bounds
bounds c = let within = driven_at (design_of c.args.table.now c.args.flat.now c.args.bench.now) c.requires.set_up c.requires.jtls c.args.net c.args.reach c.loop-cell.at c.loop-cell.arcs.items c.loop-cell.invariant in let n = c.index.ensures.number in let e = ap length c.as_slice.ensures.value in omega arith

pub bounds-as_slice-index-in-Out-1 : goal.bounds-as_slice-index-in-Out-1
bounds-as_slice-index-in-Out-1 c = let within = driven_at (design_of c.args.table.now c.args.flat.now c.args.bench.now) c.requires.set_up c.requires.jtls c.args.net c.args.reach c.loop-cell.at c.loop-cell.arcs.items c.loop-cell.invariant in let n = c.index.ensures.number in let e = ap length c.as_slice.ensures.value in omega arith

pub net_read-at-requires-clause-cell : goal.net_read-at-requires-clause-cell
net_read-at-requires-clause-cell c =
    let drives : IsDrivenBy c.args.flat.now c.loop-cell.at (driver.Out c.in-Out.cell c.in-Out.field-1) = driver_read (design_of c.args.table.now c.args.flat.now c.args.bench.now) c.as_slice.result.now c.index.result c.loop-cell.at _ (driver.Out c.in-Out.cell c.in-Out.field-1) c.as_slice.ensures.value c.index.ensures.number (driven_at (design_of c.args.table.now c.args.flat.now c.args.bench.now) c.requires.set_up c.requires.jtls c.args.net c.args.reach c.loop-cell.at c.loop-cell.arcs.items c.loop-cell.invariant) c.in-Out.is in
    (net_is (design_of c.args.table.now c.args.flat.now c.args.bench.now) c.requires.set_up c.requires.jtls c.loop-cell.at c.in-Out.cell c.in-Out.field-1 drives).2

pub loop-cell-preserved : goal.loop-cell-preserved
loop-cell-preserved c =
    let drives : IsDrivenBy c.args.flat.now c.loop-cell.at (driver.Out c.in-Out.cell c.in-Out.field-1) = driver_read (design_of c.args.table.now c.args.flat.now c.args.bench.now) c.as_slice.result.now c.index.result c.loop-cell.at _ (driver.Out c.in-Out.cell c.in-Out.field-1) c.as_slice.ensures.value c.index.ensures.number (driven_at (design_of c.args.table.now c.args.flat.now c.args.bench.now) c.requires.set_up c.requires.jtls c.args.net c.args.reach c.loop-cell.at c.loop-cell.arcs.items c.loop-cell.invariant) c.in-Out.is in
    subst (λ (xs : List PathArc). IsTraced (design_of c.args.table.now c.args.flat.now c.args.bench.now) c.args.net c.args.reach c.net_read-at.result xs) (sym c.in_ok-push.ensures.items)
    (trace_on (design_of c.args.table.now c.args.flat.now c.args.bench.now) c.requires.set_up c.requires.jtls c.args.net c.args.reach c.loop-cell.at c.in-Out.cell c.in-Out.field-1 c.net_read-at.result c.loop-cell.arcs.items c.loop-cell.invariant drives c.net_read-at.ensures.pin)

pub returns : goal.returns
returns c =
    let drives : IsDrivenBy c.args.flat.now c.loop-cell.at (driver.Port c.in_default.field-0) = driver_read (design_of c.args.table.now c.args.flat.now c.args.bench.now) c.as_slice.result.now c.index.result c.loop-cell.at _ (driver.Port c.in_default.field-0) c.as_slice.ensures.value c.index.ensures.number (driven_at (design_of c.args.table.now c.args.flat.now c.args.bench.now) c.requires.set_up c.requires.jtls c.args.net c.args.reach c.loop-cell.at c.loop-cell.arcs.items c.loop-cell.invariant) c.in_default.is in
    let route = trace_ends (design_of c.args.table.now c.args.flat.now c.args.bench.now) c.requires.set_up c.requires.jtls c.args.net c.args.reach c.loop-cell.at c.in_default.field-0 c.loop-cell.arcs.items c.loop-cell.invariant drives in
    subst (λ (xs : List PathArc). IsRoute (design_of c.args.table.now c.args.flat.now c.args.bench.now) xs c.args.net) (sym (c.reverse.ensures.items ∙ ap reverse c.in_ok-push-2.ensures.items)) route
