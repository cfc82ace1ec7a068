use Rattle.std.proofs.Common.{◌≡◌, ◌++◌, ◌∷◌, [], List, Ok, map, sym, subst, ap, ◌∙◌, length, ◌<◌}
use Rattle.std.proofs.lemmas.List.{map_push}
use Rattle.verilog_tree.specs.Reading.{with_front}
use Rattle.verilog_tree.specs.Parsing.{expr, braces, behind_comma, more_commas}
use Rattle.verilog_tree.specs.Words.{is_mark}
use Rattle.verilog_tree.specs.Trees.{Expr}
use Rattle.verilog_tree.specs.Views.{view_expr}
use Rattle.verilog_tree.proofs.Loop.{so_far_step}
use Rattle.verilog_tree.proofs.Shorter.{expr_shorter}
use Rattle.verilog_tree.proofs.Views.{view_join, braces_read}
use Rattle.verilog_tree.proofs.reader.Reader.+exprs.Goals as goal

pub braces-returns : goal.braces-returns
braces-returns t c =
    let e : c.push.new.self.items ≡ c.in_ok-first.first ∷ [] = c.in_ok-push.ensures.items ∙ ap (λ (l : List _). l ++ c.in_ok-first.first ∷ []) c.new-parts.ensures.items in
    let one : with_front (view_expr c.in_ok-first.first ∷ []) (more_commas (λ ts. expr c.args.depth ts) c.expr.new.self) ≡ Ok (map view_expr c.in_ok-parts.parts.items, c.more_exprs.new.self) = rw e at c.in_ok-parts.ensures in
    subst (λ (v : Expr). braces (λ ts. expr c.args.depth ts) c.args.self.now ≡ Ok (v, c.mark-2.new.self)) (sym (view_join c.in_ok-parts.parts))
    (braces_read (λ ts. expr c.args.depth ts) c.args.self.now c.mark.new.self c.expr.new.self c.more_exprs.new.self c.mark-2.new.self (view_expr c.in_ok-first.first) (map view_expr c.in_ok-parts.parts.items) c.in_ok-mark.ensures c.in_ok-first.ensures one c.in_ok-mark-2.ensures)

pub more_exprs-more-smaller : goal.more_exprs-more-smaller
more_exprs-more-smaller t c = expr_shorter c.args.depth c.more.self (view_expr c.in_ok-part.part) c.next_expr.new.self c.in_ok-part.ensures

pub more_exprs-more-preserved : goal.more_exprs-more-preserved
more_exprs-more-preserved t c =
    let lt : length c.next_expr.new.self < length c.more.self = expr_shorter c.args.depth c.more.self (view_expr c.in_ok-part.part) c.next_expr.new.self c.in_ok-part.ensures in
    let e : map view_expr c.push.new.self.items ≡ map view_expr c.more.parts.items ++ view_expr c.in_ok-part.part ∷ [] = rw c.in_ok-push.ensures.items (map_push view_expr c.more.parts.items c.in_ok-part.part) in
    rw e (so_far_step (is_mark 44) (behind_comma (λ ts. expr c.args.depth ts)) (map view_expr c.more.parts.items) c.more.self (with_front (map view_expr c.args.front.items) (more_commas (λ ts. expr c.args.depth ts) c.args.self.now)) (view_expr c.in_ok-part.part) c.next_expr.new.self (sym c.is_mark.ensures ∙ c.more-test.true) c.in_ok-part.ensures lt c.more.invariant)
