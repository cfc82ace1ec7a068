use Rattle.std.proofs.Common.{take, map}
use Rattle.std.specs.List.{flat_map}
use Rattle.verilog_tree.specs.Views.{view_item}
use Rattle.bind_sites.specs.Sites.{item_sites}
use Rattle.bind_sites.specs.Listing.{Adds}
use Rattle.bind_sites.proofs.listing.Sites.items.Given as goal

abbrev pub invariant-loop-item : goal.invariant-loop-item
invariant-loop-item l = Adds l.fn.self l.self (flat_map item_sites (map view_item (take l.item-index l.items)))
