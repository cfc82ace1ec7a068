use Rattle.std.proofs.Common.{arith, ◌∙◌, sym}
use Rattle.rsfq_ids.specs.Circuit.{is_gate}
use Rattle.rsfq_ids.specs.Path.{passes}
use Rattle.rsfq_ids.specs.Design.{design_of}
use Rattle.offence_check.proofs.Counts.{count_yes, count_no, count_all}
use Rattle.offence_check.proofs.path.count_gates.Goals as goal
use Rattle.offence_check.proofs.path.count_gates.Goals.{then-passes_gate, else-passes_gate}

pub loop-arc-preserved : goal.loop-arc-preserved
loop-arc-preserved c = elim c.if-passes_gate.branch [
  | then-passes_gate w ↦ record {
    small = (let so_far = c.loop-arc.invariant.small in let e = w.count-is in omega arith);
    counted = λ bench. count_yes (passes is_gate (design_of c.args.table.now c.args.flat.now bench)) c.args.arcs.now c.loop-arc.arc-index c.arc-item.result c.loop-arc.count c.if-passes_gate.count c.loop-arc-test.true c.arc-item.is (sym (c.passes_gate.ensures bench) ∙ w.if-passes_gate.true) (c.loop-arc.invariant.counted bench) w.count-is;
  }
  | else-passes_gate w ↦ record {
    small = (let so_far = c.loop-arc.invariant.small in let e = w.count-is in omega arith);
    counted = λ bench. count_no (passes is_gate (design_of c.args.table.now c.args.flat.now bench)) c.args.arcs.now c.loop-arc.arc-index c.arc-item.result c.loop-arc.count c.if-passes_gate.count c.loop-arc-test.true c.arc-item.is (sym (c.passes_gate.ensures bench) ∙ w.if-passes_gate.false) (c.loop-arc.invariant.counted bench) w.count-is;
  }
]

pub returns : goal.returns
returns c = λ bench. count_all (passes is_gate (design_of c.args.table.now c.args.flat.now bench)) c.args.arcs.now c.loop-arc.arc-index c.loop-arc.count (omega (arith, c.loop-arc-test.false, c.loop-arc.auto.arc-index-end)) (c.loop-arc.invariant.counted bench)
