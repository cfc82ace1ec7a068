use Rattle.std.proofs.Common.{get_or, arith}
use Rattle.std.proofs.lemmas.Option.{slice_get-get_or}
use Rattle.golden_aig.specs.declared.graph.And.{And}
use Rattle.golden_aig.proofs.Tables.{held_more}
use Rattle.golden_aig.proofs.evaluation.fill_ands.Goals as goal

pub loop-place-preserved : goal.loop-place-preserved
loop-place-preserved c =
    let zero_and : And = record { lhs = 0; rhs0 = 0; rhs1 = 0 } in
    let lt = c.loop-place-test.true in
    let inside = rw c.as_slice-and-items.ensures at lt in
    let is = rw c.as_slice-and-items.ensures at c.and_in.ensures in
    held_more c.args.aig.now c.args.word.now c.loop-place.marks c.loop-place.place (get_or c.args.aig.now.ands c.loop-place.place zero_and) c.and_in.result c.requires.graph
    (slice_get-get_or c.args.aig.now.ands c.loop-place.place zero_and inside) (omega arith) c.loop-place.invariant is
