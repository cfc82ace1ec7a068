use Rattle.std.proofs.Common.{◌∙◌, arith}
use Rattle.golden_aig.specs.Golden.{golden}
use Rattle.golden_aig.proofs.Tables.{output_more, output_value}
use Rattle.golden_aig.proofs.evaluation.eval.Goals as goal

pub loop-place-preserved : goal.loop-place-preserved
loop-place-preserved c =
    let lt = c.loop-place-test.true in
    let outputs = c.as_slice-literal-items.ensures in
    let inside = rw outputs at lt in
    let is = rw outputs at c.literal_in.ensures in
    output_more (golden c.args.aig.now c.args.word.now) c.args.aig.now.outputs c.loop-place.into c.loop-place.place c.literal_in.result
    (omega arith) inside c.loop-place.invariant
    (is ∙ output_value c.args.aig.now c.args.word.now c.fill_ands.new.marks c.loop-place.place c.requires.graph c.fill_ands.ensures inside)
