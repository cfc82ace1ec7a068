use Rattle.verilog_bind.specs.Numbered.{sites_in}
use Rattle.verilog_bind.proofs.Assigning.{assigns_start, assigns_all, end_reached}
use Rattle.verilog_bind.proofs.wires.Wires.assigns.Goals as goal

pub loop-at-init : goal.loop-at-init
loop-at-init c = assigns_start (sites_in c.args.self.now) c.args.self.now.list c.new-assigns.result c.new-assigns.ensures

pub returns : goal.returns
returns c = assigns_all (sites_in c.args.self.now) c.args.self.now.list c.loop-at.at c.loop-at.assigns (end_reached c.args.self.now.sites.now c.loop-at.at c.loop-at-test.false) c.loop-at.invariant
