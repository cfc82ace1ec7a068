use Rattle.wire_timing.proofs.Casts.{product}
use Rattle.wire_timing.proofs.window.span_periods.Goals as goal

pub returns : goal.returns
returns c = product c.args.steps c.args.period c.requires.period.from c.ranges.period c.requires.small
