use Rattle.std.proofs.Common.{pos, get_or, subst, sym}
use Rattle.rsfq_ids.specs.declared.offence.PathArc.{PathArc}
use Rattle.rsfq_ids.specs.Path.{IsDelay}
use Rattle.rsfq_ids.specs.Design.{design_of}
use Rattle.lane_pairs.specs.Arcs.{HasInterval}
use Rattle.lane_pairs.proofs.Intervals.{zip_at, zip_more}
use Rattle.lane_pairs.proofs.arcs.intervals_of.Goals as goal

pub interval_of-requires-clause-delay : goal.interval_of-requires-clause-delay
interval_of-requires-clause-delay c =
    let (delays, may) = c.requires.delays in (
      get_or delays c.loop-arc.arc-index (pos 0),
      subst (λ (a : PathArc). IsDelay (design_of c.args.table.now c.args.flat.now c.args.bench.now) a (get_or delays c.loop-arc.arc-index (pos 0))) (sym c.arc-item.is)
          (zip_at (IsDelay (design_of c.args.table.now c.args.flat.now c.args.bench.now)) c.args.arcs.now delays c.loop-arc.arc-index c.arc-item.result (pos 0) may c.loop-arc-test.true),
    )

pub loop-arc-preserved : goal.loop-arc-preserved
loop-arc-preserved c =
    zip_more (HasInterval (design_of c.args.table.now c.args.flat.now c.args.bench.now)) c.args.arcs.now c.loop-arc.intervals.items c.push.new.self.items c.loop-arc.arc-index c.arc-item.result c.interval_of.result c.loop-arc.invariant c.loop-arc-test.true
    (subst (λ (a : PathArc). HasInterval (design_of c.args.table.now c.args.flat.now c.args.bench.now) a c.interval_of.result) c.arc-item.is c.interval_of.ensures) c.in_ok-push.ensures.items
