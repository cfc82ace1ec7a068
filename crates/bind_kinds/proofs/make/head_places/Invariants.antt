use Rattle.verilog_tree.specs.Views.{view_head}
use Rattle.bind_sites.specs.Sites.{port_names}
use Rattle.bind_kinds.proofs.Places.{AreFirstBelow}
use Rattle.bind_kinds.proofs.make.head_places.Given as goal

abbrev pub invariant-loop-place : goal.invariant-loop-place
invariant-loop-place l = AreFirstBelow (port_names (view_head l.head)) l.place l.places
