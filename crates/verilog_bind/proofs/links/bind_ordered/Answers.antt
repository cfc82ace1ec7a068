use Rattle.std.proofs.Common.{map}
use Rattle.std.specs.List.{enumerate_from}
use Rattle.verilog_tree.specs.Views.{view_optional}
use Rattle.verilog_bind.specs.Numbered.{sites_in}
use Rattle.verilog_bind.specs.Sound.{IsSoundOrdered}
use Rattle.verilog_bind.proofs.Zips.{all_at, read_at}
use Rattle.verilog_bind.proofs.Linking.{ordered_start, ordered_more, ordered_all}
use Rattle.verilog_bind.proofs.links.bind_ordered.Goals as goal

pub loop-place-init : goal.loop-place-init
loop-place-init c = ordered_start c.args.wires.now.list (enumerate_from 0 (map view_optional c.args.links.now)) c.new-bound.result c.new-bound.ensures

pub add_ordered-requires-clause-link : goal.add_ordered-requires-clause-link
add_ordered-requires-clause-link c =
    all_at (IsSoundOrdered (sites_in c.args.wires.now)) (map view_optional c.args.links.now) (view_optional c.index-links-place.result) c.loop-place.place c.requires.links
    (read_at view_optional c.args.links.now c.loop-place.place c.index-links-place.result c.loop-place-test.true c.index-links-place.is)

pub loop-place-preserved : goal.loop-place-preserved
loop-place-preserved c =
    ordered_more c.args.wires.now.list (map view_optional c.args.links.now) c.loop-place.place (view_optional c.index-links-place.result) c.loop-place.bound c.add_ordered.new.bound
    (read_at view_optional c.args.links.now c.loop-place.place c.index-links-place.result c.loop-place-test.true c.index-links-place.is) c.loop-place.invariant c.in_ok-add_ordered.ensures

pub returns : goal.returns
returns c = ordered_all c.args.wires.now.list view_optional c.args.links.now c.loop-place.place c.loop-place.bound c.loop-place-test.false c.loop-place.invariant
