-- The operands of an expression in braces.
use Rattle.std.proofs.Common.{◌≡◌, List, ◌++◌, refl, ap, ◌∙◌}
use mathlib.Core.Former.{Count}
use Rattle.std.specs.List.{flat_map}
use Rattle.std.specs.declared.alloc.Global.{Global}
use Rattle.std.specs.declared.vec.Vec.{Vec}
use Rattle.verilog_tree.specs.declared.tree.Expr as code
use Rattle.verilog_tree.specs.Views.{view_expr, view_row}
use Rattle.bind_sites.specs.Sites.{Operand, operands, operands_in}

abbrev row_of : code.Expr → (n : Count) × code.Row_of-Expr n
row_of (code.Join' _ row) = (_, row)
row_of _ = (_, code.end_of-Expr)

of_row : (n : _) (row : code.Row_of-Expr n) → operands_in (view_row row) ≡ flat_map (λ (part : code.Expr). operands (view_expr part)) (code.items-the_row-Expr n row)
of_row n code.end_of-Expr = refl
of_row n (code.more_of-Expr e rest) = ap (λ (l : List Operand). operands (view_expr e) ++ l) (of_row _ rest)

pub operands-join : (parts : Vec code.Expr Global) → operands (view_expr (code.Join parts)) ≡ flat_map (λ (part : code.Expr). operands (view_expr part)) parts.items
operands-join parts =
    let row = row_of (code.Join parts) in
    of_row row.0 row.1 ∙ ap (flat_map (λ (part : code.Expr). operands (view_expr part))) (code.items_hidden-the_row-Expr-0 parts)

pub operands-is : (e : code.Expr) (parts : Vec code.Expr Global) (xs : List code.Expr) → e ≡ code.Join parts → xs ≡ parts.items → operands (view_expr e) ≡ flat_map (λ (part : code.Expr). operands (view_expr part)) xs
operands-is e parts xs is items =
    ap (λ (v : code.Expr). operands (view_expr v)) is ∙ operands-join parts ∙ ap (flat_map (λ (part : code.Expr). operands (view_expr part))) (sym items) where
      sym : {A : Type 0} {a b : A} → a ≡ b → b ≡ a
      sym h = cc
