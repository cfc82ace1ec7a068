use Rattle.std.proofs.Common.{take}
use Rattle.std.specs.List.{AllZip}
use Rattle.verilog_tree.specs.Views.{view_head}
use Rattle.bind_sites.specs.Sites.{port_names}
use Rattle.bind_names.specs.Scoped.{sites_of}
use Rattle.bind_kinds.specs.Ports.{IsWidthOf}
use Rattle.bind_kinds.proofs.widths.head_widths.Given as goal

abbrev pub invariant-loop-place : goal.invariant-loop-place
invariant-loop-place l = AllZip (IsWidthOf (sites_of l.scope)) (take l.place (port_names (view_head l.head))) l.widths
