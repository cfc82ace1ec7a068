-- What each step of the printer adds to a text is the words that it prints.
use Rattle.std.proofs.Common.{◌≡◌, ℕ, Bool, true, false, List, [], ◌∷◌, ◌++◌, Option, Some, None, map, refl, sym, ap, ◌∙◌, append_assoc, arith, length, cond, inl, inr}
use Rattle.std.specs.Prelude.{nat_eq}
use Rattle.std.proofs.lemmas.Bool.Decides.{eqb_tells}
use Rattle.std.proofs.lemmas.List.{append-nil}
use Rattle.verilog_lex.specs.Written.{spelling, text_of}
use Rattle.verilog_tree.specs.declared.lexeme.Keyword.TheVariants as key
use Rattle.verilog_tree.specs.Words.{Word, name, keyword, number}
use Rattle.verilog_tree.specs.Trees.{Expr, Exprs, end, more, gathered, Name, Bit, Part, Join, NamedLink, Links, Named, Ordered, Instance, HeadPort, Full, Bare, Head, Plain, Ports, Item, PortItem, Wires, Assigns, Instances, Module}
use Rattle.verilog_tree.specs.Spelling.{dir_key, open_paren, close_paren, open_bracket, close_bracket, open_brace, close_brace, comma, semicolon, colon, dot, equals}
use Rattle.verilog_print.specs.Text.{written, printed_text}
use Rattle.verilog_print.specs.Onto.{Onto, onto, onto_name, onto_each, onto_behind, onto_commas, onto_perhaps, onto_bounds, onto_wire, onto_expr, onto_exprs, onto_others, onto_optional, onto_named, onto_links, onto_instance, onto_port, onto_head, onto_assign, onto_item, onto_module, onto_modules}
use Rattle.verilog_print.specs.Printing

abbrev text : List Word → List ℕ
text ws = text_of (map written ws)

text_append : (a b : List Word) → text (a ++ b) ≡ text a ++ text b
text_append [] b = refl
text_append (w ∷ a) b =
    let s = spelling (written w).word.kind (written w).word.bytes in
    ap (λ (l : List ℕ). s ++ (written w).blank ∷ l) (text_append a b) ∙ sym (append_assoc s ((written w).blank ∷ text a) (text b))

pub record Adds (f : Onto) (ws : List Word) : Type 0 where
  pub is : (out : List ℕ) → f out ≡ out ++ text ws

word : (w : Word) → Adds (onto w) (w ∷ [])
word w = record { is = λ out. refl }

nothing : Adds (λ out. out) []
nothing = record { is = λ out. sym (append-nil out) }

next : {f g : Onto} {a b : List Word} → Adds f a → Adds g b → Adds (λ out. g (f out)) (a ++ b)
next {f} {g} {a} {b} p q = record { is = λ out. q.is (f out) ∙ ap (λ (l : List ℕ). l ++ text b) (p.is out) ∙ append_assoc out (text a) (text b) ∙ ap (λ (l : List ℕ). out ++ l) (sym (text_append a b)) }

each : {A : Type 0} (f : A → Onto) (p : A → List Word) → ((x : A) → Adds (f x) (p x)) → (xs : List A) → Adds (onto_each f xs) (Printing.printed_each p xs)
each f p h [] = nothing
each f p h (x ∷ xs) = next (h x) (each f p h xs)

behind : {A : Type 0} (f : A → Onto) (p : A → List Word) → ((x : A) → Adds (f x) (p x)) → (x : A) → Adds (onto_behind f x) (Printing.behind p x)
behind f p h x = next (word comma) (h x)

commas : {A : Type 0} (f : A → Onto) (p : A → List Word) → ((x : A) → Adds (f x) (p x)) → (xs : List A) → Adds (onto_commas f xs) (Printing.printed_commas p xs)
commas f p h [] = nothing
commas f p h (x ∷ xs) = next (h x) (each (onto_behind f) (Printing.behind p) (behind f p h) xs)

perhaps : {A : Type 0} (f : A → Onto) (p : A → List Word) → ((x : A) → Adds (f x) (p x)) → (o : Option A) → Adds (onto_perhaps f o) (Printing.printed_perhaps p o)
perhaps f p h None = nothing
perhaps f p h (Some x) = h x

bounds : (r : ℕ × ℕ) → Adds (onto_bounds r) (Printing.printed_bounds r)
bounds r = next (word open_bracket) (next (word (number r.0)) (next (word colon) (next (word (number r.1)) (word close_bracket))))

range : (r : Option (ℕ × ℕ)) → Adds (onto_perhaps onto_bounds r) (Printing.printed_perhaps Printing.printed_bounds r)
range r = perhaps onto_bounds Printing.printed_bounds bounds r

wire : (b : Bool) → Adds (onto_wire b) (Printing.printed_wire b)
wire true = word (keyword key.Wire)
wire false = nothing

names : (ns : List (List ℕ)) → Adds (onto_commas onto_name ns) (Printing.printed_commas Printing.printed_name ns)
names ns = commas onto_name Printing.printed_name (λ n. word (name n)) ns

mutual
  expr : (e : Expr) → Adds (onto_expr e) (Printing.printed_expr e)
  expr (Name n) = word (name n)
  expr (Bit n i) = next (word (name n)) (next (word open_bracket) (next (word (number i)) (word close_bracket)))
  expr (Part n i j) = next (word (name n)) (next (word open_bracket) (next (word (number i)) (next (word colon) (next (word (number j)) (word close_bracket)))))
  expr (Join es) = next (word open_brace) (next (exprs es) (word close_brace))

  exprs : (es : Exprs) → Adds (onto_exprs es) (Printing.printed_exprs es)
  exprs end = nothing
  exprs (more e es) = next (expr e) (others es)

  others : (es : Exprs) → Adds (onto_others es) (Printing.printed_others es)
  others end = nothing
  others (more e es) = next (next (word comma) (expr e)) (others es)

optional : (o : Option Expr) → Adds (onto_optional o) (Printing.printed_perhaps Printing.printed_expr o)
optional o = perhaps onto_expr Printing.printed_expr expr o

named : (l : NamedLink) → Adds (onto_named l) (Printing.printed_named l)
unfolding onto_named
named l = next (word dot) (next (word (name l.name)) (next (word open_paren) (next (optional l.expr) (word close_paren))))

links : (l : Links) → Adds (onto_links l) (Printing.printed_links l)
links (Named ls) = commas onto_named Printing.printed_named named ls
links (Ordered ls) = commas onto_optional (Printing.printed_perhaps Printing.printed_expr) optional ls

instance : (i : Instance) → Adds (onto_instance i) (Printing.printed_instance i)
unfolding onto_instance
instance i = next (word (name i.name)) (next (word open_paren) (next (links i.links) (word close_paren)))

port : (p : HeadPort) → Adds (onto_port p) (Printing.printed_port p)
port (Full d b r n) = next (word (keyword (dir_key d))) (next (wire b) (next (range r) (word (name n))))
port (Bare n) = word (name n)

not_same : (a b : ℕ) → (a ≡ b → ⊥) → nat_eq a b ≡ false
not_same a b n = elim (eqb_tells a b) [ inl t ↦ absurd (n t.1) | inr t ↦ t.0 ]

head : (h : Head) → Adds (onto_head h) (Printing.printed_head h)
head (Plain []) = nothing
head (Plain (n ∷ ns)) =
    let some : nat_eq (length (n ∷ ns)) 0 ≡ false = not_same (length (n ∷ ns)) 0 (λ e. omega arith) in
    record { is = λ out. ap (λ (b : Bool). cond b out (onto close_paren (onto_commas onto_name (n ∷ ns) (onto open_paren out)))) some ∙ (next (word open_paren) (next (names (n ∷ ns)) (word close_paren))).is out }
head (Ports ps) = next (word open_paren) (next (commas onto_port Printing.printed_port port ps) (word close_paren))

assign : (a : Expr × Expr) → Adds (onto_assign a) (Printing.printed_assign a)
unfolding onto_assign
assign a = next (expr a.0) (next (word equals) (expr a.1))

item : (i : Item) → Adds (onto_item i) (Printing.printed_item i)
item (PortItem d b r ns) = next (word (keyword (dir_key d))) (next (wire b) (next (range r) (next (names ns) (word semicolon))))
item (Wires r ns) = next (word (keyword key.Wire)) (next (range r) (next (names ns) (word semicolon)))
item (Assigns pairs) = next (word (keyword key.Assign)) (next (commas onto_assign Printing.printed_assign assign pairs) (word semicolon))
item (Instances kind is) = next (word (name kind)) (next (commas onto_instance Printing.printed_instance instance is) (word semicolon))

module_adds : (m : Module) → Adds (onto_module m) (Printing.printed_module m)
unfolding onto_module
module_adds m = next (word (keyword key.Module)) (next (word (name m.name)) (next (head m.head) (next (word semicolon) (next (each onto_item Printing.printed_item item m.items) (word (keyword key.Endmodule))))))

-- the whole
pub modules_add : (ms : List Module) (out : List ℕ) → onto_modules ms out ≡ out ++ printed_text ms
modules_add ms out = (each onto_module Printing.printed_module module_adds ms).is out

-- ---- expressions in braces, as the code has them

others_onto : (l : List Expr) (out : List ℕ) → onto_others (gathered l) out ≡ onto_each (onto_behind onto_expr) l out
others_onto [] out = refl
others_onto (e ∷ l) out = others_onto l (onto_expr e (onto comma out))

pub exprs_onto : (l : List Expr) (out : List ℕ) → onto_exprs (gathered l) out ≡ onto_commas onto_expr l out
exprs_onto [] out = refl
exprs_onto (e ∷ l) out = others_onto l (onto_expr e out)
