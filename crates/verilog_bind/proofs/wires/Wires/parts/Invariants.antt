use Rattle.std.proofs.Common.{take, map}
use Rattle.bind_sites.specs.View.{view_operand}
use Rattle.verilog_bind.specs.Fitting.{AreParts}
use Rattle.verilog_bind.proofs.wires.Wires.parts.Given as goal

abbrev pub invariant-loop-operand : goal.invariant-loop-operand
invariant-loop-operand l = AreParts l.self.list (map view_operand (take l.operand-index l.found)) l.parts.items
