-- An expression in braces, as it is written.
use Rattle.std.proofs.Common.{◌≡◌, ◌<◌, ◌≤◌, ℕ, List, [], ◌∷◌, map, length, drop, get_or, Result, Ok, Err, OnOk, sym, ap, ◌∙◌, arith}
use Rattle.std.specs.declared.alloc.Global.{Global}
use Rattle.std.specs.declared.vec.Vec.{Vec}
use Rattle.verilog_tree.specs.declared.tree.Expr as code
use Rattle.verilog_print.specs.Onto.{onto, onto_expr, onto_each, onto_behind, onto_commas}
use Rattle.verilog_tree.specs.Spelling.{open_brace, close_brace}
use Rattle.verilog_tree.specs.Trees.{Expr}
use Rattle.verilog_tree.specs.Views.{view_expr}
use Rattle.verilog_print.proofs.Adds.{exprs_onto}
use Rattle.verilog_tree.proofs.Views.{view_join}

pub on_ok : {A E : Type 0} (r : Result A E) (P Q : Type 0) → (P → Q) → OnOk r P → OnOk r Q
on_ok (Ok a) P Q h p = h p
on_ok (Err e) P Q h p = tt

-- what is written of the expression in braces
join_is : (e : code.Expr) (parts : Vec code.Expr Global) (s : List ℕ) → e ≡ code.Join parts → onto_expr (view_expr e) s ≡ onto close_brace (onto_commas onto_expr (map view_expr parts.items) (onto open_brace s))
join_is e parts s is =
    ap (λ (v : code.Expr). onto_expr (view_expr v) s) is ∙ ap (λ (v : Expr). onto_expr v s) (view_join parts)
    ∙ ap (λ (t : List ℕ). onto close_brace t) (exprs_onto (map view_expr parts.items) (onto open_brace s))

pub join_none : (e : code.Expr) (parts : Vec code.Expr Global) (xs : List code.Expr) (s0 s1 s2 : List ℕ) → e ≡ code.Join parts → xs ≡ parts.items → length xs < 1
    → s1 ≡ onto open_brace s0 → s2 ≡ onto close_brace s1 → s2 ≡ onto_expr (view_expr e) s0
join_none e parts [] s0 s1 s2 is items lt e1 e2 =
    e2 ∙ ap (λ (t : List ℕ). onto close_brace t) e1 ∙ ap (λ (l : List code.Expr). onto close_brace (onto_commas onto_expr (map view_expr l) (onto open_brace s0))) items ∙ sym (join_is e parts s0 is)
join_none e parts (x ∷ xs) s0 s1 s2 is items lt e1 e2 = absurd (omega arith)

pub join_some : (e : code.Expr) (parts : Vec code.Expr Global) (xs rest : List code.Expr) (first : code.Expr) (s0 s1 s2 s3 s4 : List ℕ) → e ≡ code.Join parts → xs ≡ parts.items → 1 ≤ length xs
    → first ≡ get_or xs 0 first → rest ≡ drop 1 xs → s1 ≡ onto open_brace s0 → s2 ≡ onto_expr (view_expr first) s1 → s3 ≡ onto_each (onto_behind onto_expr) (map view_expr rest) s2 → s4 ≡ onto close_brace s3
    → s4 ≡ onto_expr (view_expr e) s0
join_some e parts [] rest first s0 s1 s2 s3 s4 is items le f r e1 e2 e3 e4 = absurd (omega arith)
join_some e parts (x ∷ xs) rest first s0 s1 s2 s3 s4 is items le f r e1 e2 e3 e4 =
    let two : s2 ≡ onto_expr (view_expr x) (onto open_brace s0) = e2 ∙ ap (λ (v : code.Expr). onto_expr (view_expr v) s1) f ∙ ap (λ (t : List ℕ). onto_expr (view_expr x) t) e1 in
    let three : s3 ≡ onto_each (onto_behind onto_expr) (map view_expr xs) (onto_expr (view_expr x) (onto open_brace s0)) = e3 ∙ ap (λ (l : List code.Expr). onto_each (onto_behind onto_expr) (map view_expr l) s2) r ∙ ap (λ (t : List ℕ). onto_each (onto_behind onto_expr) (map view_expr xs) t) two in
    e4 ∙ ap (λ (t : List ℕ). onto close_brace t) three ∙ ap (λ (l : List code.Expr). onto close_brace (onto_commas onto_expr (map view_expr l) (onto open_brace s0))) items ∙ sym (join_is e parts s0 is)
