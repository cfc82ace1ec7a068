use Rattle.std.proofs.Common.{take, map}
use Rattle.std.specs.List.{flat_map}
use Rattle.verilog_tree.specs.Views.{view_named}
use Rattle.bind_sites.specs.Sites.{named_sites}
use Rattle.bind_sites.specs.Listing.{Adds}
use Rattle.bind_sites.proofs.listing.Sites.nameds.Given as goal

abbrev pub invariant-loop-link : goal.invariant-loop-link
invariant-loop-link l = Adds l.fn.self l.self (flat_map (named_sites l.kind) (map view_named (take l.link-index l.links)))
