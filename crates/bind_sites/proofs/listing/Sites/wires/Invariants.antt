use Rattle.std.proofs.Common.{take, map}
use Rattle.bind_sites.specs.Sites.{Wire}
use Rattle.bind_sites.specs.Listing.{Adds}
use Rattle.bind_sites.proofs.listing.Sites.wires.Given as goal

abbrev pub invariant-loop-name : goal.invariant-loop-name
invariant-loop-name l = Adds l.fn.self l.self (map (λ name. Wire name l.range) (take l.name-index l.names))
