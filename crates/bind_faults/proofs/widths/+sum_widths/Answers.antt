use Rattle.std.proofs.Common.{◌≡◌, ℕ, ◌+◌, ◌<◌, ◌^◌, List, [], ◌∷◌, length, Option, Some, None, sym, ◌∙◌, ap, subst, arith}
use Rattle.verilog_tree.specs.declared.tree.Expr as code
use Rattle.verilog_tree.specs.Views.{view_expr}
use Rattle.bind_sites.specs.Sites.{Operand, operands}
use Rattle.bind_names.specs.Scoped.{sites_of}
use Rattle.bind_faults.proofs.Exprs.{operand, join_is, one_found, one_none, join_found, join_small, join_none}
use Rattle.bind_faults.proofs.Sums.{sum_more, sum_fits, part_few, part_lacks}
use Rattle.bind_faults.proofs.Measures.{join_holds, part_held}
use Rattle.bind_faults.proofs.widths.+sum_widths.Goals as goal

pub expr_width-joined_width-requires : goal.expr_width-joined_width-requires
expr_width-joined_width-requires t c =
    let is = join_is c.args.expr.now c.in-Join.parts c.as_slice.result.now c.in-Join.is c.as_slice.ensures.value in
    let less = join_holds c.args.expr.now c.in-Join.parts c.as_slice.result.now c.in-Join.is c.as_slice.ensures.value in
    (omega (arith, less, c.decreases), (c.requires.scope, (c.requires.single, subst (λ (l : List Operand). length l < 2 ^ 32) is c.requires.few)))

pub joined_width-expr_width-requires : goal.joined_width-expr_width-requires
joined_width-expr_width-requires t c =
    let less = part_held c.args.parts.now c.loop-part.part-index c.part-item.result c.loop-part-test.true c.part-item.is in
    (omega (arith, less, c.decreases), (c.requires.scope, (c.requires.single, part_few c.args.parts.now c.loop-part.part-index c.part-item.result c.loop-part-test.true c.part-item.is c.requires.few)))

pub joined_width-overflow_add-width : goal.joined_width-overflow_add-width
joined_width-overflow_add-width t c =
    let all = sites_of c.args.scope.now in
    let more = sum_more all c.args.parts.now c.loop-part.part-index c.part-item.result c.loop-part.width c.in_ok-width.field-0 c.loop-part-test.true c.part-item.is c.loop-part.invariant c.in_ok-width.ensures.found c.in_ok-width.ensures.small in
    let fits = sum_fits all c.args.parts.now (c.loop-part.part-index + 1) (c.loop-part.width + c.in_ok-width.field-0) c.requires.few more in
    omega (arith, fits)

pub joined_width-loop-part-preserved : goal.joined_width-loop-part-preserved
joined_width-loop-part-preserved t c =
    sum_more (sites_of c.args.scope.now) c.args.parts.now c.loop-part.part-index c.part-item.result c.loop-part.width c.in_ok-width.field-0 c.loop-part-test.true c.part-item.is c.loop-part.invariant c.in_ok-width.ensures.found c.in_ok-width.ensures.small

pub joined_width-returns-in_err-width-clause-none : goal.joined_width-returns-in_err-width-clause-none
joined_width-returns-in_err-width-clause-none t c =
    rw c.from_residual.ensures (part_lacks (sites_of c.args.scope.now) c.args.parts.now c.loop-part.part-index c.part-item.result c.loop-part-test.true c.part-item.is c.in_err-width.ensures.none)

pub expr_width-returns-in-Name-clause-found : goal.expr_width-returns-in-Name-clause-found
expr_width-returns-in-Name-clause-found t c =
    let name = c.as_str.result.now in
    let select : Option (ℕ × ℕ) = None in
    let is : operands (view_expr c.args.expr.now) ≡ operand name select ∷ [] = ap (λ (e : code.Expr). operands (view_expr e)) c.in-Name.is ∙ ap (λ (m : List ℕ). operand m select ∷ []) (sym c.as_str.ensures) in
    one_found (sites_of c.args.scope.now) c.args.expr.now name select c.operand_width.result is c.operand_width.ensures.found

pub expr_width-returns-in-Name-clause-none : goal.expr_width-returns-in-Name-clause-none
expr_width-returns-in-Name-clause-none t c =
    let name = c.as_str.result.now in
    let select : Option (ℕ × ℕ) = None in
    let is : operands (view_expr c.args.expr.now) ≡ operand name select ∷ [] = ap (λ (e : code.Expr). operands (view_expr e)) c.in-Name.is ∙ ap (λ (m : List ℕ). operand m select ∷ []) (sym c.as_str.ensures) in
    one_none (sites_of c.args.scope.now) c.args.expr.now name select c.operand_width.result is c.operand_width.ensures.none

pub expr_width-returns-in-Bit-clause-found : goal.expr_width-returns-in-Bit-clause-found
expr_width-returns-in-Bit-clause-found t c =
    let name = c.as_str-in-Bit.result.now in
    let select : Option (ℕ × ℕ) = Some (c.in-Bit.at, c.in-Bit.at) in
    let is : operands (view_expr c.args.expr.now) ≡ operand name select ∷ [] = ap (λ (e : code.Expr). operands (view_expr e)) c.in-Bit.is ∙ ap (λ (m : List ℕ). operand m select ∷ []) (sym c.as_str-in-Bit.ensures) in
    one_found (sites_of c.args.scope.now) c.args.expr.now name select c.operand_width-in-Bit.result is c.operand_width-in-Bit.ensures.found

pub expr_width-returns-in-Bit-clause-none : goal.expr_width-returns-in-Bit-clause-none
expr_width-returns-in-Bit-clause-none t c =
    let name = c.as_str-in-Bit.result.now in
    let select : Option (ℕ × ℕ) = Some (c.in-Bit.at, c.in-Bit.at) in
    let is : operands (view_expr c.args.expr.now) ≡ operand name select ∷ [] = ap (λ (e : code.Expr). operands (view_expr e)) c.in-Bit.is ∙ ap (λ (m : List ℕ). operand m select ∷ []) (sym c.as_str-in-Bit.ensures) in
    one_none (sites_of c.args.scope.now) c.args.expr.now name select c.operand_width-in-Bit.result is c.operand_width-in-Bit.ensures.none

pub expr_width-returns-in-Part-clause-found : goal.expr_width-returns-in-Part-clause-found
expr_width-returns-in-Part-clause-found t c =
    let name = c.as_str-in-Part.result.now in
    let select : Option (ℕ × ℕ) = Some (c.in-Part.left, c.in-Part.right) in
    let is : operands (view_expr c.args.expr.now) ≡ operand name select ∷ [] = ap (λ (e : code.Expr). operands (view_expr e)) c.in-Part.is ∙ ap (λ (m : List ℕ). operand m select ∷ []) (sym c.as_str-in-Part.ensures) in
    one_found (sites_of c.args.scope.now) c.args.expr.now name select c.operand_width-in-Part.result is c.operand_width-in-Part.ensures.found

pub expr_width-returns-in-Part-clause-none : goal.expr_width-returns-in-Part-clause-none
expr_width-returns-in-Part-clause-none t c =
    let name = c.as_str-in-Part.result.now in
    let select : Option (ℕ × ℕ) = Some (c.in-Part.left, c.in-Part.right) in
    let is : operands (view_expr c.args.expr.now) ≡ operand name select ∷ [] = ap (λ (e : code.Expr). operands (view_expr e)) c.in-Part.is ∙ ap (λ (m : List ℕ). operand m select ∷ []) (sym c.as_str-in-Part.ensures) in
    one_none (sites_of c.args.scope.now) c.args.expr.now name select c.operand_width-in-Part.result is c.operand_width-in-Part.ensures.none

pub expr_width-returns-in-Join-clause-found : goal.expr_width-returns-in-Join-clause-found
expr_width-returns-in-Join-clause-found t c =
    let is = join_is c.args.expr.now c.in-Join.parts c.as_slice.result.now c.in-Join.is c.as_slice.ensures.value in
    join_found (sites_of c.args.scope.now) c.args.expr.now c.as_slice.result.now c.joined_width.result is c.joined_width.ensures.found

pub expr_width-returns-in-Join-clause-small : goal.expr_width-returns-in-Join-clause-small
expr_width-returns-in-Join-clause-small t c =
    let is = join_is c.args.expr.now c.in-Join.parts c.as_slice.result.now c.in-Join.is c.as_slice.ensures.value in
    join_small c.args.expr.now c.as_slice.result.now c.joined_width.result is c.joined_width.ensures.small

pub expr_width-returns-in-Join-clause-none : goal.expr_width-returns-in-Join-clause-none
expr_width-returns-in-Join-clause-none t c =
    let is = join_is c.args.expr.now c.in-Join.parts c.as_slice.result.now c.in-Join.is c.as_slice.ensures.value in
    join_none (sites_of c.args.scope.now) c.args.expr.now c.as_slice.result.now c.joined_width.result is c.joined_width.ensures.none
