use Rattle.std.proofs.Common.{take, map}
use Rattle.std.specs.List.{flat_map}
use Rattle.verilog_tree.specs.Views.{view_expr}
use Rattle.bind_sites.specs.Sites.{operands}
use Rattle.bind_sites.specs.View.{operand_site}
use Rattle.bind_sites.specs.Listing.{Adds}
use Rattle.bind_sites.proofs.listing.Sites.+list_operands.Given as goal

abbrev pub invariant-joined-loop-part : goal.invariant-joined-loop-part
invariant-joined-loop-part l = Adds l.fn.self l.self (map (operand_site l.linked) (flat_map (λ part. operands (view_expr part)) (take l.part-index l.parts)))
