use Rattle.std.proofs.Common.{take, map}
use Rattle.std.specs.List.{flat_map}
use Rattle.verilog_tree.specs.Views.{view_pair}
use Rattle.bind_sites.specs.Sites.{assign_sites}
use Rattle.bind_sites.specs.Listing.{Adds}
use Rattle.bind_sites.proofs.listing.Sites.assigns.Given as goal

abbrev pub invariant-loop-pair : goal.invariant-loop-pair
invariant-loop-pair l = Adds l.fn.self l.self (flat_map assign_sites (map view_pair (take l.pair-index l.pairs)))
