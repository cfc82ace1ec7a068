use Rattle.std.proofs.Common.{get_or}
use Rattle.std.proofs.lemmas.Option.{slice_get-get_or}
use Rattle.golden_aig.specs.declared.graph.And.{And}
use Rattle.aiger_order.proofs.Rings.{definers_more}
use Rattle.aiger_order.proofs.ring.tabulate_definers.Goals as goal

none : And
none = record { lhs = 0; rhs0 = 0; rhs1 = 0 }

pub loop-place-preserved : goal.loop-place-preserved
unfolding none
loop-place-preserved c =
    let lines = c.args.lines.now in
    let place = c.loop-place.place in
    definers_more c.args.top place lines c.loop-place.definers.items (get_or lines place none) c.requires.lines c.loop-place.invariant (slice_get-get_or lines place none c.loop-place-test.true)
