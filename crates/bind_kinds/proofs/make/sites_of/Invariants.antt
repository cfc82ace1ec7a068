use Rattle.std.proofs.Common.{◌≡◌, take, map}
use Rattle.verilog_tree.specs.Views.{view_module}
use Rattle.bind_sites.specs.Sites.{sites}
use Rattle.bind_sites.specs.Listing.{all_sites}
use Rattle.bind_kinds.proofs.make.sites_of.Given as goal

abbrev pub invariant-loop-module : goal.invariant-loop-module
invariant-loop-module l = map all_sites l.all.items ≡ map (λ owner. sites (view_module owner)) (take l.module-index l.module-items)
