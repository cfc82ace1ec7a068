use Rattle.std.proofs.Common.{◌∙◌, Some, ap}
use Rattle.flat_aliases.specs.Drives.{start}
use Rattle.flat_aliases.proofs.Spreading.{sets_out, closed_first, settled_closed, spread_none}
use Rattle.flat_aliases.proofs.spread.spread_driver.Goals as goal

pub reach-requires-clause-drives : goal.reach-requires-clause-drives
reach-requires-clause-drives c = start c.in-Some.place (c.requires.start ∙ ap Some c.in-Some.is)

pub reach-requires-clause-spreading : goal.reach-requires-clause-spreading
reach-requires-clause-spreading c = sets_out c.args.net.now.links.now c.args.net.now.starts.now c.args.net.now.places c.args.driver c.args.spread.now c.requires.spread

pub run-requires-clause-closed : goal.run-requires-clause-closed
run-requires-clause-closed c =
    closed_first c.args.net.now.links.now c.args.net.now.starts.now c.args.net.now.places c.args.driver c.args.spread.now c.reach.new.spread c.requires.spread c.in_ok-reach.ensures.on
    (settled_closed c.args.net.now.links.now c.args.net.now.starts.now c.args.net.now.places c.args.driver c.args.spread.now c.requires.net.inside c.requires.spread)

pub returns-in_default : goal.returns-in_default
returns-in_default c =
    spread_none c.args.net.now.links.now c.args.net.now.starts.now c.args.net.now.places c.args.driver c.args.spread.now (c.requires.start ∙ ap Some c.in_default.is) c.requires.spread
