-- The operands of an expression of the code.
use Rattle.std.proofs.Common.{◌≡◌, ℕ, ◌≤◌, ◌*◌, ◌^◌, List, [], ◌∷◌, ◌++◌, length, Option, Some, None, IfSome, IfNone, refl, sym, ap, ◌∙◌, subst}
use mathlib.Core.Former.{Count}
use Rattle.std.specs.declared.alloc.Global.{Global}
use Rattle.std.specs.declared.vec.Vec.{Vec}
use Rattle.verilog_tree.specs.declared.tree.Expr as code
use Rattle.verilog_tree.specs.Views.{view_expr, view_row}
use Rattle.bind_sites.specs.Sites.{Operand, operands, operands_in, Site}
use Rattle.bind_sites.specs.Scope.{SelectWidth, ExprWidth}
use Rattle.bind_faults.specs.Widths.{HaveWidth, all_operands}
use Rattle.bind_faults.proofs.Sums.{have_one, one_has, expr_has, has_expr}

abbrev row_of : code.Expr → (n : Count) × code.Row_of-Expr n
row_of (code.Join' _ row) = (_, row)
row_of _ = (_, code.end_of-Expr)

of_row : (n : _) (row : code.Row_of-Expr n) → operands_in (view_row row) ≡ all_operands (code.items-the_row-Expr n row)
of_row n code.end_of-Expr = refl
of_row n (code.more_of-Expr e rest) = ap (λ (l : List Operand). operands (view_expr e) ++ l) (of_row _ rest)

joined : (parts : Vec code.Expr Global) → operands (view_expr (code.Join parts)) ≡ all_operands parts.items
joined parts =
    let row = row_of (code.Join parts) in
    of_row row.0 row.1 ∙ ap all_operands (code.items_hidden-the_row-Expr-0 parts)

pub join_is : (e : code.Expr) (parts : Vec code.Expr Global) (xs : List code.Expr) → e ≡ code.Join parts → xs ≡ parts.items → operands (view_expr e) ≡ all_operands xs
join_is e parts xs is items = ap (λ (v : code.Expr). operands (view_expr v)) is ∙ joined parts ∙ ap all_operands (sym items)

-- ---- one operand

abbrev pub operand : List ℕ → Option (ℕ × ℕ) → Operand
operand n s = record { name = n; select = s }

pub one_found : (all : List Site) (e : code.Expr) (n : List ℕ) (s : Option (ℕ × ℕ)) (r : Option ℕ) → operands (view_expr e) ≡ operand n s ∷ [] → IfSome r (SelectWidth all n s) → IfSome r (ExprWidth all (view_expr e))
one_found all e n s None is h = tt
one_found all e n s (Some w) is h = expr_has all (view_expr e) w (subst (λ (l : List Operand). HaveWidth all l w) (sym is) (have_one all (operand n s) w h))

pub one_none : (all : List Site) (e : code.Expr) (n : List ℕ) (s : Option (ℕ × ℕ)) (r : Option ℕ) → operands (view_expr e) ≡ operand n s ∷ [] → IfNone r ((w : ℕ) → ¬ SelectWidth all n s w)
    → IfNone r ((w : ℕ) → ¬ ExprWidth all (view_expr e) w)
one_none all e n s (Some w) is h = tt
one_none all e n s None is h = λ w has. h w (one_has all (operand n s) w (subst (λ (l : List Operand). HaveWidth all l w) is (has_expr all (view_expr e) w has)))

-- ---- several

pub join_found : (all : List Site) (e : code.Expr) (xs : List code.Expr) (r : Option ℕ) → operands (view_expr e) ≡ all_operands xs → IfSome r (HaveWidth all (all_operands xs)) → IfSome r (ExprWidth all (view_expr e))
join_found all e xs None is h = tt
join_found all e xs (Some w) is h = expr_has all (view_expr e) w (subst (λ (l : List Operand). HaveWidth all l w) (sym is) h)

pub join_small : (e : code.Expr) (xs : List code.Expr) (r : Option ℕ) → operands (view_expr e) ≡ all_operands xs → IfSome r (λ w. w ≤ 2 ^ 32 * length (all_operands xs)) → IfSome r (λ w. w ≤ 2 ^ 32 * length (operands (view_expr e)))
join_small e xs r is h = subst (λ (l : List Operand). IfSome r (λ w. w ≤ 2 ^ 32 * length l)) (sym is) h

pub join_none : (all : List Site) (e : code.Expr) (xs : List code.Expr) (r : Option ℕ) → operands (view_expr e) ≡ all_operands xs → IfNone r ((w : ℕ) → ¬ HaveWidth all (all_operands xs) w)
    → IfNone r ((w : ℕ) → ¬ ExprWidth all (view_expr e) w)
join_none all e xs (Some w) is h = tt
join_none all e xs None is h = λ w has. h w (subst (λ (l : List Operand). HaveWidth all l w) is (has_expr all (view_expr e) w has))
