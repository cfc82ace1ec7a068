use Rattle.verilog_tree.specs.Views.{view_optional}
use Rattle.bind_sites.specs.Sites.{ordered_sites}
use Rattle.bind_sites.specs.Listing.{all_sites}
use Rattle.bind_sites.proofs.Steps.{more_places}
use Rattle.bind_sites.proofs.listing.Sites.ordereds.Goals as goal

pub loop-place-preserved : goal.loop-place-preserved
loop-place-preserved c =
    more_places (ordered_sites c.args.kind.now) view_optional c.args.links.now c.loop-place.place c.index-links-place.result
    (all_sites c.args.self.now) (all_sites c.loop-place.self) (all_sites c.ordered.new.self) (c.loop-place-test.true) c.index-links-place.is c.loop-place.invariant c.in_ok-ordered.ensures
