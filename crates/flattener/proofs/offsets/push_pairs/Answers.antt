use Rattle.std.proofs.Common.{arith, ◌≤◌, length, min}
use Rattle.flat_places.specs.Bits.{ends_link}
use Rattle.flattener.proofs.Lists.{zip_end}
use Rattle.flattener.proofs.offsets.push_pairs.Goals as goal

pub returns : goal.returns
returns c =
    let past : min (length c.args.sources.now) (length c.args.targets.now) ≤ c.loop-at.at = omega arith in
    zip_end ends_link c.args.sources.now c.args.targets.now c.loop-at.at c.loop-at.links.items _ past c.loop-at.invariant
