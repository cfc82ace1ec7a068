-- Writing a tree word by word behind a text: what the methods of the printer compute. It serves the proofs.
-- The printed form is specs/Printing and specs/Text; proofs/Adds shows that each writing here adds just that.
use Rattle.std.specs.Prelude.{ℕ, Bool, cond, List, [], ◌∷◌, ◌++◌, Option, Some, None, length, nat_eq}
use Rattle.verilog_lex.specs.Written.{Written, spelling}
use Rattle.verilog_tree.specs.declared.lexeme.Keyword.TheVariants as key
use Rattle.verilog_tree.specs.Words.{Word, name, keyword, number}
use Rattle.verilog_tree.specs.Spelling.{dir_key, open_paren, close_paren, open_bracket, close_bracket, open_brace, close_brace, comma, semicolon, colon, dot, equals}
use Rattle.verilog_print.specs.Text.{written}
use Rattle.verilog_tree.specs.Trees.{Expr, Exprs, end, more, Name, Bit, Part, Join, NamedLink, Links, Named, Ordered, Instance, HeadPort, Full, Bare, Head, Plain, Ports, Item, PortItem, Wires, Assigns, Instances, Module}

abbrev pub Onto : Type 0
Onto = List ℕ → List ℕ

-- the bytes of a word as it is written, with the blank behind it
abbrev pub written_bytes : Written → List ℕ
written_bytes w = spelling w.word.kind w.word.bytes ++ w.blank ∷ []

abbrev pub onto : Word → Onto
onto w out = out ++ written_bytes (written w)

abbrev pub onto_name : List ℕ → Onto
onto_name n = onto (name n)

abbrev pub onto_each : {A : Type 0} → (A → Onto) → List A → Onto
onto_each f [] out = out
onto_each f (x ∷ xs) out = onto_each f xs (f x out)

abbrev pub onto_behind : {A : Type 0} → (A → Onto) → A → Onto
onto_behind f x out = f x (onto comma out)

abbrev pub onto_commas : {A : Type 0} → (A → Onto) → List A → Onto
onto_commas f [] out = out
onto_commas f (x ∷ xs) out = onto_each (onto_behind f) xs (f x out)

abbrev pub onto_perhaps : {A : Type 0} → (A → Onto) → Option A → Onto
onto_perhaps f None out = out
onto_perhaps f (Some x) out = f x out

abbrev pub onto_bounds : ℕ × ℕ → Onto
onto_bounds r out = onto close_bracket (onto (number r.1) (onto colon (onto (number r.0) (onto open_bracket out))))

abbrev pub onto_wire : Bool → Onto
onto_wire b out = cond b (onto (keyword key.Wire) out) out

abbrev mutual
  pub onto_expr : Expr → Onto
  onto_expr (Name n) out = onto (name n) out
  onto_expr (Bit n i) out = onto close_bracket (onto (number i) (onto open_bracket (onto (name n) out)))
  onto_expr (Part n i j) out = onto close_bracket (onto (number j) (onto colon (onto (number i) (onto open_bracket (onto (name n) out)))))
  onto_expr (Join es) out = onto close_brace (onto_exprs es (onto open_brace out))

  pub onto_exprs : Exprs → Onto
  onto_exprs end out = out
  onto_exprs (more e es) out = onto_others es (onto_expr e out)

  pub onto_others : Exprs → Onto
  onto_others end out = out
  onto_others (more e es) out = onto_others es (onto_expr e (onto comma out))

abbrev pub onto_optional : Option Expr → Onto
onto_optional = onto_perhaps onto_expr

unfoldable pub onto_named : NamedLink → Onto
onto_named l out = onto close_paren (onto_optional l.expr (onto open_paren (onto (name l.name) (onto dot out))))

abbrev pub onto_links : Links → Onto
onto_links (Named ls) out = onto_commas onto_named ls out
onto_links (Ordered ls) out = onto_commas onto_optional ls out

unfoldable pub onto_instance : Instance → Onto
onto_instance i out = onto close_paren (onto_links i.links (onto open_paren (onto (name i.name) out)))

abbrev pub onto_port : HeadPort → Onto
onto_port (Full d b r n) out = onto (name n) (onto_perhaps onto_bounds r (onto_wire b (onto (keyword (dir_key d)) out)))
onto_port (Bare n) out = onto (name n) out

abbrev pub onto_head : Head → Onto
onto_head (Plain ns) out = cond (nat_eq (length ns) 0) out (onto close_paren (onto_commas onto_name ns (onto open_paren out)))
onto_head (Ports ps) out = onto close_paren (onto_commas onto_port ps (onto open_paren out))

unfoldable pub onto_assign : Expr × Expr → Onto
onto_assign a out = onto_expr a.1 (onto equals (onto_expr a.0 out))

abbrev pub onto_item : Item → Onto
onto_item (PortItem d b r ns) out = onto semicolon (onto_commas onto_name ns (onto_perhaps onto_bounds r (onto_wire b (onto (keyword (dir_key d)) out))))
onto_item (Wires r ns) out = onto semicolon (onto_commas onto_name ns (onto_perhaps onto_bounds r (onto (keyword key.Wire) out)))
onto_item (Assigns pairs) out = onto semicolon (onto_commas onto_assign pairs (onto (keyword key.Assign) out))
onto_item (Instances kind is) out = onto semicolon (onto_commas onto_instance is (onto (name kind) out))

unfoldable pub onto_module : Module → Onto
onto_module m out = onto (keyword key.Endmodule) (onto_each onto_item m.items (onto semicolon (onto_head m.head (onto (name m.name) (onto (keyword key.Module) out)))))

abbrev pub onto_modules : List Module → Onto
onto_modules = onto_each onto_module
