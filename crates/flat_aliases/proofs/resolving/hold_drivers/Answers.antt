use Rattle.flat_aliases.proofs.OneDriver.{held_all}
use Rattle.flat_aliases.proofs.resolving.hold_drivers.Goals as goal

pub returns : goal.returns
returns c = held_all c.args.links.now c.args.starts.now c.args.places c.in_ok-net.net c.in_ok-spread.spread c.in_ok-net.ensures c.in_ok-spread.ensures
