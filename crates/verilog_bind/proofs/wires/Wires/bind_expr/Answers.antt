use Rattle.std.proofs.Common.{◌≡◌, List, ◌++◌, map, sym, ◌∙◌, ap, subst}
use Rattle.std.specs.List.{All}
use Rattle.verilog_tree.specs.Views.{view_expr}
use Rattle.bind_sites.specs.Sites.{Operand, operands}
use Rattle.bind_sites.specs.View.{view_operand}
use Rattle.verilog_bind.specs.Fitting.{IsUsed}
use Rattle.verilog_bind.specs.Numbered.{sites_in}
use Rattle.verilog_bind.proofs.Parts.{parts_reversed}
use Rattle.verilog_bind.proofs.wires.Wires.bind_expr.Goals as goal

pub parts-requires-clause-used : goal.parts-requires-clause-used
parts-requires-clause-used c =
    let found : map view_operand c.as_slice.result.now ≡ operands (view_expr c.args.expr.now)
    = ap (map view_operand) c.as_slice.ensures.value ∙ c.in_ok-add_operands.ensures ∙ ap (λ (l : List _). map view_operand l ++ operands (view_expr c.args.expr.now)) c.new-found.ensures.items in
    subst (λ (l : List Operand). All (IsUsed (sites_in c.args.self.now)) l) (sym found) c.requires.used

pub returns : goal.returns
returns c =
    let found : map view_operand c.as_slice.result.now ≡ operands (view_expr c.args.expr.now)
    = ap (map view_operand) c.as_slice.ensures.value ∙ c.in_ok-add_operands.ensures ∙ ap (λ (l : List _). map view_operand l ++ operands (view_expr c.args.expr.now)) c.new-found.ensures.items in
    parts_reversed c.args.self.now.list (operands (view_expr c.args.expr.now)) (map view_operand c.as_slice.result.now) c.in_ok-parts.parts.items c.of.result found c.in_ok-parts.ensures (c.of.ensures ∙ c.reverse.ensures.items)
