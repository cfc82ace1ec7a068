use Rattle.std.proofs.Common.{take, map}
use Rattle.std.specs.List.{flat_map}
use Rattle.verilog_tree.specs.Views.{view_instance}
use Rattle.bind_sites.specs.Sites.{instance_sites}
use Rattle.bind_sites.specs.Listing.{Adds}
use Rattle.bind_sites.proofs.listing.Sites.instances.Given as goal

abbrev pub invariant-loop-instance : goal.invariant-loop-instance
invariant-loop-instance l = Adds l.fn.self l.self (flat_map (instance_sites l.kind) (map view_instance (take l.instance-index l.instances)))
