use Rattle.std.proofs.Common.{◌≡◌, subst, List}
use Rattle.flat_form.specs.Bench.{IsTimeable, design_on}
use Rattle.rsfq_ids.specs.declared.circuit.Bench.{Bench}
use Rattle.wire_timing.specs.declared.WireDepth.{WireDepth}
use Rattle.wire_timing.specs.Wires.{design_of}
use Rattle.signoff.specs.Verdict.{timed_design}
use Rattle.signoff.specs.Answers.{IsReplied}
use Rattle.signoff.proofs.Shown.{IfOk-map, same_parts, judged}
use Rattle.signoff.proofs.Signed.{output_used, every_run_shows}
use Rattle.signoff.proofs.Depths.{shallow}
use Rattle.signoff.proofs.verdict.judge.Goals as goal

pub returns-in-Ok : goal.returns-in-Ok
returns-in-Ok c =
    let asked = timed_design c.args.times c.args.flat.now c.args.wires.now.clock in
    let timeable : IsTimeable asked c.args.wires.now.order = subst (λ (b : Bench). IsTimeable (design_on c.args.flat.now b) c.args.wires.now.order) c.in_ok-bench.ensures.bench c.in_ok-bench.ensures.timeable in
    IfOk-map c.accept.result (λ reply replied. judged (design_of c.args.table.now c.args.flat.now c.in_ok-bench.bench) asked c.in-Ok.depths reply.status reply.text.items
    (same_parts _ _ _ _ _ c.requires.table c.in_ok-bench.ensures.bench) c.in-Ok.ensures.no_offence c.in-Ok.ensures.outputs c.in-Ok.ensures.depths
    (λ line are at. output_used asked c.in-Ok.depths line timeable.set_up are.outputs at)
    (λ are all. shallow asked c.in-Ok.depths timeable.set_up are all)
    (λ are none. every_run_shows asked c.args.wires.now.order c.in-Ok.depths timeable are.outputs are.each c.wires_are_signed.ensures c.order_is_free.ensures none)
    (subst (λ (ds : List WireDepth). IsReplied c.args.flat.now ds reply.status reply.text.items) c.as_slice-in-Ok.ensures replied)) c.accept.ensures
