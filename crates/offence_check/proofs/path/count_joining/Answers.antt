use Rattle.std.proofs.Common.{arith, not, ◌∙◌, sym}
use Rattle.rsfq_ids.specs.Circuit.{is_copying}
use Rattle.rsfq_ids.specs.Path.{passes}
use Rattle.rsfq_ids.specs.Design.{design_of}
use Rattle.offence_check.proofs.Counts.{count_yes, count_no, count_all}
use Rattle.offence_check.proofs.path.count_joining.Goals as goal
use Rattle.offence_check.proofs.path.count_joining.Goals.{then-passes_joining, else-passes_joining}

pub loop-arc-preserved : goal.loop-arc-preserved
loop-arc-preserved c = elim c.if-passes_joining.branch [
  | then-passes_joining w ↦ record {
    small = (let so_far = c.loop-arc.invariant.small in let e = w.count-is in omega arith);
    counted = λ bench. count_yes (passes (λ k. not (is_copying k)) (design_of c.args.table.now c.args.flat.now bench)) c.args.arcs.now c.loop-arc.arc-index c.arc-item.result c.loop-arc.count c.if-passes_joining.count c.loop-arc-test.true c.arc-item.is (sym (c.passes_joining.ensures bench) ∙ w.if-passes_joining.true) (c.loop-arc.invariant.counted bench) w.count-is;
  }
  | else-passes_joining w ↦ record {
    small = (let so_far = c.loop-arc.invariant.small in let e = w.count-is in omega arith);
    counted = λ bench. count_no (passes (λ k. not (is_copying k)) (design_of c.args.table.now c.args.flat.now bench)) c.args.arcs.now c.loop-arc.arc-index c.arc-item.result c.loop-arc.count c.if-passes_joining.count c.loop-arc-test.true c.arc-item.is (sym (c.passes_joining.ensures bench) ∙ w.if-passes_joining.false) (c.loop-arc.invariant.counted bench) w.count-is;
  }
]

pub returns : goal.returns
returns c = λ bench. count_all (passes (λ k. not (is_copying k)) (design_of c.args.table.now c.args.flat.now bench)) c.args.arcs.now c.loop-arc.arc-index c.loop-arc.count (omega (arith, c.loop-arc-test.false, c.loop-arc.auto.arc-index-end)) (c.loop-arc.invariant.counted bench)
