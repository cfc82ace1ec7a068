use Rattle.verilog_bind.specs.Numbered.{sites_in}
use Rattle.verilog_bind.specs.Sound.{setting_in}
use Rattle.verilog_bind.proofs.Standing.{instances_start, instances_all}
use Rattle.verilog_bind.proofs.binder.Binder.instances.Goals as goal

pub loop-at-init : goal.loop-at-init
loop-at-init c = instances_start (setting_in c.args.self.now) c.args.self.now.places.now c.args.wires.now.list (sites_in c.args.wires.now) c.new-bound.result c.new-bound.ensures

pub returns : goal.returns
returns c =
    instances_all (setting_in c.args.self.now) c.args.self.now.places.now c.args.wires.now.list c.args.wires.now.sites.now c.loop-at.at c.loop-at.bound c.instances_are_sites.ensures c.loop-at-test.false c.loop-at.invariant
