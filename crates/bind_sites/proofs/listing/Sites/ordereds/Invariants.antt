use Rattle.std.proofs.Common.{take, map}
use Rattle.std.specs.List.{flat_map, enumerate_from}
use Rattle.verilog_tree.specs.Views.{view_optional}
use Rattle.bind_sites.specs.Sites.{ordered_sites}
use Rattle.bind_sites.specs.Listing.{Adds}
use Rattle.bind_sites.proofs.listing.Sites.ordereds.Given as goal

abbrev pub invariant-loop-place : goal.invariant-loop-place
invariant-loop-place l = Adds l.fn.self l.self (flat_map (ordered_sites l.kind) (enumerate_from 0 (map view_optional (take l.place l.links))))
