use Rattle.std.proofs.Common.{map}
use Rattle.verilog_tree.specs.Views.{view_named}
use Rattle.verilog_bind.specs.Numbered.{sites_in}
use Rattle.verilog_bind.specs.Sound.{setting_in, IsSoundNamed}
use Rattle.verilog_bind.proofs.Zips.{all_at, read_at}
use Rattle.verilog_bind.proofs.Linking.{named_start, named_more, named_all}
use Rattle.verilog_bind.proofs.binder.Binder.bind_named.Goals as goal

pub loop-link-init : goal.loop-link-init
loop-link-init c = named_start (setting_in c.args.self.now) c.args.kind.name.now c.args.wires.now.list (map view_named c.args.links.now) c.new-bound.result c.new-bound.ensures

pub add_named-requires-clause-link : goal.add_named-requires-clause-link
add_named-requires-clause-link c =
    all_at (IsSoundNamed (setting_in c.args.self.now) (sites_in c.args.wires.now) c.args.kind.name.now) (map view_named c.args.links.now) (view_named c.link-item.result) c.loop-link.link-index c.requires.links
    (read_at view_named c.args.links.now c.loop-link.link-index c.link-item.result c.loop-link-test.true c.link-item.is)

pub loop-link-preserved : goal.loop-link-preserved
loop-link-preserved c =
    named_more (setting_in c.args.self.now) c.args.kind.name.now c.args.wires.now.list (map view_named c.args.links.now) c.loop-link.link-index (view_named c.link-item.result) c.loop-link.bound c.add_named.new.bound
    (read_at view_named c.args.links.now c.loop-link.link-index c.link-item.result c.loop-link-test.true c.link-item.is) c.loop-link.invariant c.in_ok-add_named.ensures

pub returns : goal.returns
returns c = named_all (setting_in c.args.self.now) c.args.kind.name.now c.args.wires.now.list view_named c.args.links.now c.loop-link.link-index c.loop-link.bound c.loop-link-test.false c.loop-link.invariant
