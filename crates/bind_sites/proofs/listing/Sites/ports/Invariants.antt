use Rattle.std.proofs.Common.{◌≡◌, ◌++◌, drop, map, None}
use Rattle.verilog_tree.specs.Views.{view_port}
use Rattle.bind_sites.specs.Sites.{full_sites}
use Rattle.bind_sites.specs.Listing.{all_sites}
use Rattle.bind_sites.proofs.listing.Sites.ports.Given as goal

abbrev pub invariant-loop-port : goal.invariant-loop-port
invariant-loop-port l = all_sites l.self ++ full_sites l.said (map view_port (drop l.port-index l.ports)) ≡ all_sites l.fn.self ++ full_sites None (map view_port l.ports)
