-- How many expressions an expression holds, by which the walk over it ends.
use Rattle.std.proofs.Common.{◌≡◌, ℕ, ◌+◌, ◌<◌, List, get_or, length, refl, sym, ap, ◌∙◌, arith}
use mathlib.Core.Former.{Count}
use Rattle.std.specs.List.{sum_by}
use Rattle.std.specs.declared.alloc.Global.{Global}
use Rattle.std.specs.declared.vec.Vec.{Vec}
use Rattle.std.proofs.lemmas.List.Sums.{sum_by-cons, get_or-le-sum_by}
use Rattle.verilog_tree.specs.declared.tree.Expr as code
use Rattle.verilog_tree.specs.Trees.{Expr, Exprs, end, more, Name, Bit, Part, Join}
use Rattle.verilog_tree.specs.Views.{view_expr, view_row}

abbrev mutual
  pub held : Expr → ℕ
  held (Name n) = 0
  held (Bit n at) = 0
  held (Part n left right) = 0
  held (Join all) = held_in all + 2

  pub held_in : Exprs → ℕ
  held_in end = 0
  held_in (more one rest) = held one + 1 + held_in rest

abbrev pub all_held : List code.Expr → ℕ
all_held parts = sum_by (λ part. held (view_expr part) + 1) parts

abbrev row_of : code.Expr → (n : Count) × code.Row_of-Expr n
row_of (code.Join' _ row) = (_, row)
row_of _ = (_, code.end_of-Expr)

of_row : (n : _) (row : code.Row_of-Expr n) → held_in (view_row row) ≡ all_held (code.items-the_row-Expr n row)
of_row n code.end_of-Expr = refl
of_row n (code.more_of-Expr e rest) =
    ap (λ (m : ℕ). held (view_expr e) + 1 + m) (of_row _ rest) ∙ sym (sum_by-cons (λ (part : code.Expr). held (view_expr part) + 1) e (code.items-the_row-Expr _ rest))

joined : (parts : Vec code.Expr Global) → held (view_expr (code.Join parts)) ≡ all_held parts.items + 2
joined parts =
    let row = row_of (code.Join parts) in
    ap (λ (m : ℕ). m + 2) (of_row row.0 row.1 ∙ ap all_held (code.items_hidden-the_row-Expr-0 parts))

pub join_holds : (e : code.Expr) (parts : Vec code.Expr Global) (xs : List code.Expr) → e ≡ code.Join parts → xs ≡ parts.items → held (view_expr e) ≡ all_held xs + 2
join_holds e parts xs is items = ap (λ (v : code.Expr). held (view_expr v)) is ∙ joined parts ∙ ap (λ (l : List code.Expr). all_held l + 2) (sym items)

pub part_held : (parts : List code.Expr) (at : ℕ) (part : code.Expr) → at < length parts → part ≡ get_or parts at part → held (view_expr part) < all_held parts
part_held parts at part near is =
    let one = get_or-le-sum_by (λ (p : code.Expr). held (view_expr p) + 1) parts at part near in
    let same : held (view_expr part) ≡ held (view_expr (get_or parts at part)) = ap (λ (p : code.Expr). held (view_expr p)) is in
    omega (arith, one, same)
