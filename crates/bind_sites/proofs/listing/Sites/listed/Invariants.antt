use Rattle.std.proofs.Common.{take, map}
use Rattle.bind_sites.specs.Sites.{Listed}
use Rattle.bind_sites.specs.Listing.{Adds}
use Rattle.bind_sites.proofs.listing.Sites.listed.Given as goal

abbrev pub invariant-loop-name : goal.invariant-loop-name
invariant-loop-name l = Adds l.fn.self l.self (map Listed (take l.name-index l.names))
