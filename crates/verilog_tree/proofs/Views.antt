-- The view of an expression in braces.
use Rattle.std.proofs.Common.{◌≡◌, ℕ, List, [], ◌∷◌, map, Result, Ok, Err, refl, ap, ◌∙◌}
use mathlib.Core.Former.{Count}
use Rattle.std.specs.declared.alloc.Global.{Global}
use Rattle.std.specs.declared.vec.Vec.{Vec}
use Rattle.verilog_tree.specs.declared.tree.Expr as code
use Rattle.verilog_tree.specs.Reading.{one, with_front}
use Rattle.verilog_tree.specs.Words.{Word, mark_of}
use Rattle.verilog_tree.specs.Trees.{Expr, more, Join, gathered}
use Rattle.verilog_tree.specs.Parsing.{more_commas, braces, commas}
use Rattle.verilog_tree.specs.Views.{view_expr, view_row}

abbrev row_of : code.Expr → (n : Count) × code.Row_of-Expr n
row_of (code.Join' _ row) = (_, row)
row_of _ = (_, code.end_of-Expr)

of_row : (n : _) (row : code.Row_of-Expr n) → view_row row ≡ gathered (map view_expr (code.items-the_row-Expr n row))
of_row n code.end_of-Expr = refl
of_row n (code.more_of-Expr e rest) = ap (more (view_expr e)) (of_row _ rest)

pub view_join : (parts : Vec code.Expr Global) → view_expr (code.Join parts) ≡ Join (gathered (map view_expr parts.items))
view_join parts =
    let row = row_of (code.Join parts) in
    ap Join (of_row row.0 row.1 ∙ ap (λ (l : List code.Expr). gathered (map view_expr l)) (code.items_hidden-the_row-Expr-0 parts))

front_ok : {A : Type 0} (x : A) (r : Result (List A × List Word) ℕ) (xs : List A) (rest : List Word) → with_front (x ∷ []) r ≡ Ok (xs, rest) → (ys : List A) × (r ≡ Ok (ys, rest)) × (x ∷ ys ≡ xs)
front_ok {A} x (Ok r) xs rest e =
    let same : (x ∷ r.0, r.1) ≡ (xs, rest) = pairs (x ∷ r.0, r.1) (xs, rest) e in
    (r.0, ap (λ (l : List Word). Ok (r.0, l)) (ap (λ (p : List A × List Word). p.1) same), ap (λ (p : List A × List Word). p.0) same) where
      pairs : (a b : List A × List Word) → (let y : Result (List A × List Word) ℕ = Ok a in y) ≡ Ok b → a ≡ b
      pairs a b e = cc
front_ok x (Err k) xs rest e = absurd cc

pub commas_read : {A : Type 0} (p : List Word → Result (A × List Word) ℕ) (ts a b : List Word) (x : A) (xs : List A) → p ts ≡ Ok (x, a) → with_front (x ∷ []) (more_commas p a) ≡ Ok (xs, b) → commas p ts ≡ Ok (xs, b)
unfolding commas
commas_read p ts a b x xs e f = let g = front_ok x (more_commas p a) xs b f in rw (e, g.1) (ap (λ (l : List _). Ok (l, b)) g.2)

pub braces_read : (p : List Word → Result (Expr × List Word) ℕ) (ts a b c d : List Word) (x : Expr) (xs : List Expr) → one (mark_of 123) ts ≡ Ok (tt, a) → p a ≡ Ok (x, b) → with_front (x ∷ []) (more_commas p b) ≡ Ok (xs, c) → one (mark_of 125) c ≡ Ok (tt, d) → braces p ts ≡ Ok (Join (gathered xs), d)
unfolding braces
braces_read p ts a b c d x xs e f g h = rw (e, commas_read p a b c x xs f g, h) refl
