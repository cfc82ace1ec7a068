use Rattle.std.proofs.Common.{take, map}
use Rattle.std.specs.List.{enumerate_from}
use Rattle.verilog_tree.specs.Views.{view_optional}
use Rattle.verilog_bind.proofs.Linking.{OrderedTo}
use Rattle.verilog_bind.proofs.links.bind_ordered.Given as goal

abbrev pub invariant-loop-place : goal.invariant-loop-place
invariant-loop-place l = OrderedTo l.wires.list (take l.place (enumerate_from 0 (map view_optional l.links))) l.bound
