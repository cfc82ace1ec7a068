use Rattle.std.proofs.Common.{◌≡◌, ◌-◌, ℕ, List, drop, take, length, arith, length-drop}
use Rattle.std.proofs.lemmas.List.{take_all}
use Rattle.verilog_print.proofs.Braces.{on_ok, join_none, join_some}
use Rattle.verilog_print.proofs.printer.Printer.+print_exprs.Goals as goal

rest_is : {A : Type 0} (n : ℕ) (xs : List A) → take (length xs - n) (drop n xs) ≡ drop n xs
rest_is n xs = take_all (length xs - n) (drop n xs) (omega (arith, length-drop n xs))

pub expr-returns-in_ok-mark-in-empty : goal.expr-returns-in_ok-mark-in-empty
expr-returns-in_ok-mark-in-empty t c =
    on_ok c.mark-in-empty-2.result _ _
    (λ last. join_none c.args.expr.now c.in-Join.parts c.as_slice.result.now c.args.self.now c.mark-in-empty.new.self c.mark-in-empty-2.new.self c.in-Join.is c.as_slice.ensures.value c.in-empty.len_below c.in_ok-mark-in-empty.ensures last)
    c.mark-in-empty-2.ensures

pub expr-returns-in_ok-more_parts-in-len1-up : goal.expr-returns-in_ok-more_parts-in-len1-up
expr-returns-in_ok-more_parts-in-len1-up t c =
    on_ok c.mark-in-len1-up-2.result _ _
    (λ last. join_some c.args.expr.now c.in-Join.parts c.as_slice.result.now (take (length c.as_slice.result.now - 1) (drop 1 c.as_slice.result.now)) c.first-item.result c.args.self.now c.mark-in-len1-up.new.self c.expr.new.self c.more_parts.new.self c.mark-in-len1-up-2.new.self
    c.in-Join.is c.as_slice.ensures.value c.in-len1-up.len_at_least c.first-item.is (rest_is 1 c.as_slice.result.now) c.in_ok-mark-in-len1-up.ensures c.in_ok-expr-in-len1-up.ensures c.in_ok-more_parts-in-len1-up.ensures last)
    c.mark-in-len1-up-2.ensures
