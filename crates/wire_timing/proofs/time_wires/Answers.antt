use Rattle.std.proofs.Common.{◌+◌, ℕ, List, length, ap, sym, subst, ◌∙◌, arith}
use Rattle.wire_timing.specs.declared.WireDepth.{WireDepth}
use Rattle.wire_timing.specs.Wires.{design_of}
use Rattle.wire_timing.specs.Window.{IsPinFault}
use Rattle.wire_timing.proofs.Ports.{IsTimed, first_of_all, no_window_past, time_output_next, time_cell_next, timed_all}
use Rattle.wire_timing.proofs.time_wires.Goals as goal
use Rattle.wire_timing.proofs.time_wires.Goals.{in-Port+in-Ok+in_ok-push-in-Ok, in_default}

pub returns-in-Err-clause-fault : goal.returns-in-Err-clause-fault
returns-in-Err-clause-fault c =
    let at = subst (λ (p : ℕ). IsPinFault (design_of c.args.table.now c.args.flat.now c.args.bench.now) p c.in-Err.fault) c.of.ensures c.in-Err.ensures.fault in
    first_of_all (design_of c.args.table.now c.args.flat.now c.args.bench.now) c.requires.set_up c.requires.jtls c.loop-place.place c.in-Err.fault c.loop-place.invariant.no_window at

pub loop-place-preserved : goal.loop-place-preserved
loop-place-preserved c = elim c.match-pin.branch [
  | in-Port+in-Ok+in_ok-push-in-Ok w ↦ time_output_next (design_of c.args.table.now c.args.flat.now c.args.bench.now) c.requires.set_up c.requires.jtls c.loop-place.place w.in-Port.output w.of.result c.pin-item.result c.as_slice-pin-items.result.now c.loop-place.depths c.match-pin.depths w.in-Ok.found
      c.loop-place.invariant c.as_slice-pin-items.ensures.value c.loop-place-test.true c.pin-item.is w.in-Port.is w.of.ensures w.in-Ok.ensures.no_offence w.in-Ok.ensures.output w.in-Ok.ensures.depth
      (w.depths-is ∙ w.in_ok-push-in-Ok.ensures.ok)
  | in_default w ↦ subst (λ (ds : List WireDepth). IsTimed (design_of c.args.table.now c.args.flat.now c.args.bench.now) (c.loop-place.place + 1) ds) (sym w.depths-is)
      (time_cell_next (design_of c.args.table.now c.args.flat.now c.args.bench.now) c.requires.set_up c.requires.jtls c.loop-place.place w.in_default.field-0 w.in_default.field-1 c.pin-item.result c.as_slice-pin-items.result.now c.loop-place.depths c.loop-place.invariant c.as_slice-pin-items.ensures.value c.loop-place-test.true c.pin-item.is w.in_default.is)
]

pub returns-clause-no_offence : goal.returns-clause-no_offence
returns-clause-no_offence c = no_window_past (design_of c.args.table.now c.args.flat.now c.args.bench.now) c.requires.set_up c.requires.jtls c.loop-place.place (let e = ap length c.as_slice-pin-items.ensures.value in let l = c.loop-place-test.false in omega arith) c.loop-place.invariant.no_window

pub returns-clause-outputs : goal.returns-clause-outputs
returns-clause-outputs c = timed_all (design_of c.args.table.now c.args.flat.now c.args.bench.now) c.requires.set_up c.requires.jtls c.loop-place.place c.loop-place.depths (let e = ap length c.as_slice-pin-items.ensures.value in let l = c.loop-place-test.false in omega arith) c.loop-place.invariant
