use Rattle.std.proofs.Common.{take, map}
use Rattle.bind_sites.specs.Sites.{Port}
use Rattle.bind_sites.specs.Listing.{Adds}
use Rattle.bind_sites.proofs.listing.Sites.directions.Given as goal

abbrev pub invariant-loop-name : goal.invariant-loop-name
invariant-loop-name l = Adds l.fn.self l.self (map (λ name. Port name l.output l.range) (take l.name-index l.names))
