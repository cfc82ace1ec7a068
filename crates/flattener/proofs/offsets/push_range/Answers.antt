use Rattle.std.proofs.Common.{◌∙◌}
use Rattle.flattener.proofs.Lists.{range_step}
use Rattle.flattener.proofs.offsets.push_range.Goals as goal

pub loop-place-preserved : goal.loop-place-preserved
loop-place-preserved c = c.in_ok-push.ensures.items ∙ range_step c.args.start c.loop-place.place c.loop-place.places.items c.args.places.now.items c.loop-place.auto.place c.loop-place.invariant
