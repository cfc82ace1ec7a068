-- What is printed spells the tree, where some tokens do.
use Rattle.std.proofs.Common.{◌≡◌, ℕ, zero, suc, Bool, true, false, List, [], ◌∷◌, ◌++◌, Option, Some, None, refl, ap, subst, ◌∙◌, inl}
use Rattle.verilog_tree.specs.declared.lexeme.Keyword.TheVariants as key
use Rattle.verilog_tree.specs.Reading.{Both, Each, Perhaps}
use Rattle.verilog_tree.specs.Words.{Word, name, keyword, number, mark}
use Rattle.verilog_tree.specs.Trees.{Expr, Exprs, end, more, Name, Bit, Part, Join, listed, NamedLink, Links, Named, Ordered, Instance, HeadPort, Full, Bare, Head, Plain, Ports, Item, PortItem, Wires, Assigns, Instances, Module}
use Rattle.verilog_tree.specs.Spelling.{◌⨾◌, Is, OneName, BehindComma, Commas, Names, SpellsBounds, SpellsRange, SpellsWire, dir_key, SpellsExpr, SpellsValue, SpellsOptional, SpellsNamed, SpellsLinks, SpellsInstance, SpellsFull, SpellsPort, SpellsHead, SpellsAssign, SpellsItem, SpellsModule, SpellsSource}
use Rattle.verilog_print.specs.Printing
use Rattle.verilog_tree.proofs.Good.{AllGood, good_both}
use Rattle.verilog_print.proofs.Written.{good_front, good_back}

-- a text that is determined
pub record Only (P : List Word → Type 0) (text : List Word) : Type 0 where
  pub is : (w : List Word) → P w → w ≡ text

is_only : (t : Word) → Only (Is t) (t ∷ [])
is_only t = record { is = λ w e. e }

both_only : {P Q : List Word → Type 0} {x y : List Word} → Only P x → Only Q y → Only (Both P Q) (x ++ y)
both_only {P} {Q} {x} {y} p q = record { is = λ w s. s.parts ∙ ap (λ (f : List Word). f ++ s.back) (p.is s.front s.first_is) ∙ ap (λ (b : List Word). x ++ b) (q.is s.back s.then_is) }

each_only : {A : Type 0} (S : A → List Word → Type 0) (f : A → List Word) → ((x : A) → Only (S x) (f x)) → (xs : List A) → Only (Each S xs) (Printing.printed_each f xs)
each_only S f h [] = record { is = λ w e. e }
each_only S f h (x ∷ xs) = both_only (h x) (each_only S f h xs)

behind_only : {A : Type 0} (S : A → List Word → Type 0) (f : A → List Word) → ((x : A) → Only (S x) (f x)) → (x : A) → Only (BehindComma S x) (Printing.behind f x)
behind_only S f h x = both_only (is_only (mark 44)) (h x)

commas_only : {A : Type 0} (S : A → List Word → Type 0) (f : A → List Word) → ((x : A) → Only (S x) (f x)) → (xs : List A) → Only (Commas S xs) (Printing.printed_commas f xs)
commas_only S f h [] = record { is = λ w e. absurd e }
commas_only S f h (x ∷ xs) = both_only (h x) (each_only (BehindComma S) (Printing.behind f) (behind_only S f h) xs)

perhaps_only : {A : Type 0} (S : A → List Word → Type 0) (f : A → List Word) → ((x : A) → Only (S x) (f x)) → (o : Option A) → Only (Perhaps S o) (Printing.printed_perhaps f o)
perhaps_only S f h None = record { is = λ w e. e }
perhaps_only S f h (Some x) = h x

name_only : (n : List ℕ) → Only (OneName n) (Printing.printed_name n)
name_only n = is_only (name n)

bounds_only : (r : ℕ × ℕ) → Only (SpellsBounds r) (Printing.printed_bounds r)
bounds_only r = both_only (is_only (mark 91)) (both_only (is_only (number r.0)) (both_only (is_only (mark 58)) (both_only (is_only (number r.1)) (is_only (mark 93)))))

wire_only : (b : Bool) → Only (SpellsWire b) (Printing.printed_wire b)
wire_only false = record { is = λ w e. e }
wire_only true = is_only (keyword key.Wire)

others_are : (es : Exprs) → Printing.printed_each (Printing.behind Printing.printed_expr) (listed es) ≡ Printing.printed_others es
others_are end = refl
others_are (more e es) = ap (λ (l : List Word). Printing.behind Printing.printed_expr e ++ l) (others_are es)

exprs_are : (es : Exprs) → Printing.printed_commas Printing.printed_expr (listed es) ≡ Printing.printed_exprs es
exprs_are end = refl
exprs_are (more e es) = ap (λ (l : List Word). Printing.printed_expr e ++ l) (others_are es)

expr_only : (d : ℕ) (e : Expr) → Only (λ w. SpellsExpr d e w) (Printing.printed_expr e)
expr_only d (Name n) = is_only (name n)
expr_only d (Bit n i) = both_only (is_only (name n)) (both_only (is_only (mark 91)) (both_only (is_only (number i)) (is_only (mark 93))))
expr_only d (Part n i j) = both_only (is_only (name n)) (both_only (is_only (mark 91)) (both_only (is_only (number i)) (both_only (is_only (mark 58)) (both_only (is_only (number j)) (is_only (mark 93))))))
expr_only zero (Join es) = record { is = λ w e. absurd e }
expr_only (suc d) (Join es) =
    subst (λ (l : List Word). Only (λ w. SpellsExpr (suc d) (Join es) w) (mark 123 ∷ (l ++ mark 125 ∷ []))) (exprs_are es)
    (both_only (is_only (mark 123)) (both_only (commas_only (λ e v. SpellsExpr d e v) Printing.printed_expr (λ e. expr_only d e) (listed es)) (is_only (mark 125))))

value_only : (e : Expr) → Only (SpellsValue e) (Printing.printed_expr e)
value_only e = expr_only 64 e

optional_only : (o : Option Expr) → Only (SpellsOptional o) (Printing.printed_perhaps Printing.printed_expr o)
optional_only o = perhaps_only SpellsValue Printing.printed_expr value_only o

named_only : (l : NamedLink) → Only (SpellsNamed l) (Printing.printed_named l)
named_only l = both_only (is_only (mark 46)) (both_only (is_only (name l.name)) (both_only (is_only (mark 40)) (both_only (optional_only l.expr) (is_only (mark 41)))))

links_only : (l : Links) → Only (SpellsLinks l) (Printing.printed_links l)
links_only (Named ls) = commas_only SpellsNamed Printing.printed_named named_only ls
links_only (Ordered []) = record { is = λ w e. e }
links_only (Ordered (None ∷ [])) = record { is = λ w e. absurd e }
links_only (Ordered (Some e ∷ [])) = commas_only SpellsOptional (Printing.printed_perhaps Printing.printed_expr) optional_only (Some e ∷ [])
links_only (Ordered (l ∷ m ∷ ls)) = commas_only SpellsOptional (Printing.printed_perhaps Printing.printed_expr) optional_only (l ∷ m ∷ ls)

instance_only : (i : Instance) → Only (SpellsInstance i) (Printing.printed_instance i)
instance_only i = both_only (is_only (name i.name)) (both_only (is_only (mark 40)) (both_only (links_only i.links) (is_only (mark 41))))

full_only : (p : HeadPort) → Only (SpellsFull p) (Printing.printed_port p)
full_only (Full d b r n) = both_only (is_only (keyword (dir_key d))) (both_only (wire_only b) (both_only (perhaps_only SpellsBounds Printing.printed_bounds bounds_only r) (is_only (name n))))
full_only (Bare n) = record { is = λ w e. absurd e }

port_only : (p : HeadPort) → Only (SpellsPort p) (Printing.printed_port p)
port_only (Full d b r n) = full_only (Full d b r n)
port_only (Bare n) = is_only (name n)

assign_only : (a : Expr × Expr) → Only (SpellsAssign a) (Printing.printed_assign a)
assign_only a = both_only (value_only a.0) (both_only (is_only (mark 61)) (value_only a.1))

range_only : (r : Option (ℕ × ℕ)) → Only (SpellsRange r) (Printing.printed_perhaps Printing.printed_bounds r)
range_only r = perhaps_only SpellsBounds Printing.printed_bounds bounds_only r

names_only : (ns : List (List ℕ)) → Only (Names ns) (Printing.printed_commas Printing.printed_name ns)
names_only ns = commas_only OneName Printing.printed_name name_only ns

item_only : (i : Item) → Only (SpellsItem i) (Printing.printed_item i)
item_only (PortItem d b r ns) = both_only (is_only (keyword (dir_key d))) (both_only (wire_only b) (both_only (range_only r) (both_only (names_only ns) (is_only (mark 59)))))
item_only (Wires r ns) = both_only (is_only (keyword key.Wire)) (both_only (range_only r) (both_only (names_only ns) (is_only (mark 59))))
item_only (Assigns pairs) = both_only (is_only (keyword key.Assign)) (both_only (commas_only SpellsAssign Printing.printed_assign assign_only pairs) (is_only (mark 59)))
item_only (Instances kind is) = both_only (is_only (name kind)) (both_only (commas_only SpellsInstance Printing.printed_instance instance_only is) (is_only (mark 59)))

-- a head's text is not determined, but what is printed is one
head_again : (h : Head) (w : List Word) → SpellsHead h w → SpellsHead h (Printing.printed_head h)
head_again (Plain []) w s = inl refl
head_again (Plain (n ∷ ns)) w s = subst (λ (l : List Word). SpellsHead (Plain (n ∷ ns)) l) ((both_only (is_only (mark 40)) (both_only (names_only (n ∷ ns)) (is_only (mark 41)))).is w s) s
head_again (Ports []) w s = absurd s
head_again (Ports (p ∷ ps)) w s = subst (λ (l : List Word). SpellsHead (Ports (p ∷ ps)) l)
    ((both_only (is_only (mark 40)) (both_only (both_only (full_only p) (each_only (BehindComma SpellsPort) (Printing.behind Printing.printed_port) (behind_only SpellsPort Printing.printed_port port_only) ps)) (is_only (mark 41)))).is w s) s

module_again : (m : Module) (w : List Word) → SpellsModule m w → SpellsModule m (Printing.printed_module m)
module_again m w s =
    let after = s.then_is.then_is in
    let tail : (Is (mark 59) ⨾ Each SpellsItem m.items ⨾ Is (keyword key.Endmodule)) (mark 59 ∷ (Printing.printed_each Printing.printed_item m.items ++ keyword key.Endmodule ∷ [])) =
    subst (λ (l : List Word). (Is (mark 59) ⨾ Each SpellsItem m.items ⨾ Is (keyword key.Endmodule)) l) ((both_only (is_only (mark 59)) (both_only (each_only SpellsItem Printing.printed_item item_only m.items) (is_only (keyword key.Endmodule)))).is after.back after.then_is) after.then_is in
    record {
      front = keyword key.Module ∷ [];
      back = _;
      first_is = refl;
      parts = refl;
      then_is =
          record {
            front = name m.name ∷ [];
            back = _;
            first_is = refl;
            parts = refl;
            then_is =
                record { front = Printing.printed_head m.head; back = _; first_is = head_again m.head after.front after.first_is; parts = refl; then_is = tail };
          };
    }

pub printed_again : (ms : List Module) (w : List Word) → SpellsSource ms w → SpellsSource ms (Printing.printed ms)
printed_again [] w s = refl
printed_again (m ∷ ms) w s = record { front = Printing.printed_module m; back = Printing.printed ms; first_is = module_again m s.front s.first_is; then_is = printed_again ms s.back s.then_is; parts = refl }

-- ---- what is printed has no word that the tree's tokens lack

good_parts : (w a b : List Word) → w ≡ a ++ b → AllGood w → AllGood a × AllGood b
good_parts w a b e g = let h = subst (λ (l : List Word). AllGood l) e g in (good_front a b h, good_back a b h)

head_good : (h : Head) (w : List Word) → SpellsHead h w → AllGood w → AllGood (Printing.printed_head h)
head_good (Plain []) w s g = tt
head_good (Plain (n ∷ ns)) w s g = subst (λ (l : List Word). AllGood l) ((both_only (is_only (mark 40)) (both_only (names_only (n ∷ ns)) (is_only (mark 41)))).is w s) g
head_good (Ports []) w s g = absurd s
head_good (Ports (p ∷ ps)) w s g = subst (λ (l : List Word). AllGood l)
    ((both_only (is_only (mark 40)) (both_only (both_only (full_only p) (each_only (BehindComma SpellsPort) (Printing.behind Printing.printed_port) (behind_only SpellsPort Printing.printed_port port_only) ps)) (is_only (mark 41)))).is w s) g

module_good : (m : Module) (w : List Word) → SpellsModule m w → AllGood w → AllGood (Printing.printed_module m)
module_good m w s g =
    let n = s.then_is in
    let h = n.then_is in
    let behind_word = good_parts w s.front s.back s.parts g in
    let behind_name = good_parts s.back n.front n.back n.parts behind_word.1 in
    let behind_head = good_parts n.back h.front h.back h.parts behind_name.1 in
    let is_name : AllGood (name m.name ∷ []) = subst (λ (l : List Word). AllGood l) n.first_is behind_name.0 in
    let is_tail : AllGood (mark 59 ∷ (Printing.printed_each Printing.printed_item m.items ++ keyword key.Endmodule ∷ [])) =
    subst (λ (l : List Word). AllGood l) ((both_only (is_only (mark 59)) (both_only (each_only SpellsItem Printing.printed_item item_only m.items) (is_only (keyword key.Endmodule)))).is h.back h.then_is) behind_head.1 in
    (tt, (is_name.0, good_both (Printing.printed_head m.head) (mark 59 ∷ (Printing.printed_each Printing.printed_item m.items ++ keyword key.Endmodule ∷ [])) (head_good m.head h.front h.first_is behind_head.0) is_tail))

pub printed_good : (ms : List Module) (w : List Word) → SpellsSource ms w → AllGood w → AllGood (Printing.printed ms)
printed_good [] w s g = tt
printed_good (m ∷ ms) w s g =
    let p = good_parts w s.front s.back s.parts g in
    good_both (Printing.printed_module m) (Printing.printed ms) (module_good m s.front s.first_is p.0) (printed_good ms s.back s.then_is p.1)
