use Rattle.bind_sites.specs.View.{view_operand}
use Rattle.verilog_bind.specs.Fitting.{IsUsed}
use Rattle.verilog_bind.specs.Numbered.{sites_in}
use Rattle.verilog_bind.proofs.Parts.{used_item, parts_more}
use Rattle.verilog_bind.proofs.wires.Wires.parts.Goals as goal

pub part-requires-clause-used : goal.part-requires-clause-used
part-requires-clause-used c = used_item (IsUsed (sites_in c.args.self.now)) view_operand c.args.found.now c.loop-operand.operand-index _ c.requires.used c.loop-operand-test.true

pub loop-operand-preserved : goal.loop-operand-preserved
loop-operand-preserved c =
    parts_more c.args.self.now.list view_operand c.args.found.now c.loop-operand.operand-index _ c.loop-operand.parts.items c.push.new.self.items c.part.result c.loop-operand-test.true c.loop-operand.invariant c.part.ensures
    c.in_ok-push.ensures.items
