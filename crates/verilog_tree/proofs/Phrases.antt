-- Each reader of the grammar is exact.
use Rattle.std.proofs.Common.{◌≡◌, ℕ, zero, suc, Bool, true, false, cond, not, ◌&&◌, List, [], ◌∷◌, ◌++◌, length, Option, Some, None, Result, refl, sym, ap, subst, ◌∙◌, inl, inr, eq-eqb, codes, arith}
use Rattle.verilog_lex.specs.Bytes.{is_mark as is_mark_byte}
use Rattle.std.proofs.lemmas.Bool.{eqb-true}
use Rattle.std.proofs.lemmas.List.{append-nil}
use Rattle.std.specs.Prelude.{nat_eq}
use Rattle.verilog_tree.specs.declared.lexeme.Keyword.{Keyword}
use Rattle.verilog_tree.specs.declared.lexeme.Keyword.TheVariants as key
use Rattle.verilog_tree.specs.declared.tree.Dir.{Dir}
use Rattle.verilog_tree.specs.declared.tree.Dir.TheVariants as dir
use Rattle.verilog_tree.specs.Reading.{first, one, many, Both, Each}
use Rattle.verilog_tree.specs.Words.{Word, name, keyword, number, mark, rank, mark_of, key_of, name_of, number_of, dir_of, dir_of_key, is_some, next_is, is_mark, isnt_mark, begins_item, begins_expr}
use Rattle.verilog_tree.specs.Trees.{Expr, Exprs, end, more, Name, Bit, Part, Join, listed, gathered, NamedLink, Links, Named, Ordered, Instance, HeadPort, Full, Bare, Head, Plain, Ports, Item, PortItem, Wires, Assigns, Instances}
use Rattle.verilog_tree.specs.Spelling.{◌⨾◌, Is, OneName, BehindComma, Commas, Names, SpellsBounds, SpellsRange, SpellsWire, dir_key, SpellsDir, SpellsExpr, SpellsValue, SpellsOptional, SpellsNamed, SpellsLinks, SpellsInstance, SpellsFull, SpellsPort, SpellsHead, SpellsAssign, SpellsItem, SpellsModule, SpellsSource}
use Rattle.verilog_tree.specs.Parsing
use Rattle.verilog_tree.proofs.Exact.{Then, exact_then, exact_perhaps, meets_lead, lead_token, lead_front, leads_begins, done_begins, Exact, any, done, Done, One, exact_one, exact_as, exact_either, exact_many, Or, Begins, Leads, Of, Meets, field, field_any, last, said, narrow, meets_both, meets_token, meets_one}
use Rattle.verilog_tree.proofs.Good.{and_left, and_right, not_true}

-- ---- tokens

is_mark_word : (c : ℕ) (t : Word) (u : Unit {0}) → mark_of c t ≡ Some u → t ≡ mark c
is_mark_word c (mark d) u e = test (nat_eq d c) refl e where
  test : (b : Bool) → nat_eq d c ≡ b → cond b (Some tt) None ≡ Some u → mark d ≡ mark c
  test true is e = ap mark (eqb-true d c is)
  test false is e = absurd cc
is_mark_word c (name n) u e = absurd cc
is_mark_word c (keyword k) u e = absurd cc
is_mark_word c (number n) u e = absurd cc

nat_eq_same : (n : ℕ) → nat_eq n n ≡ true
nat_eq_same n = eq-eqb n n refl

mark_is : (c : ℕ) → mark_of c (mark c) ≡ Some tt
mark_is c = rw (nat_eq_same c) refl

pub exact_mark : (c : ℕ) → is_mark_byte c ≡ true → Exact (λ (u : Unit {0}) w. Is (mark c) w) (one (mark_of c)) any
exact_mark c is = exact_as (One (mark_of c)) (λ u w. Is (mark c) w) (one (mark_of c)) any any
    (λ u w o. o.2 ∙ ap (λ (t : Word). t ∷ []) (is_mark_word c o.0 u o.1)) (λ u w e. (mark c, mark_is c, e)) (λ o ok. ok) (exact_one (mark_of c) tt (mark c) (mark_is c) is)

name_word : (t : Word) (n : List ℕ) → name_of t ≡ Some n → t ≡ name n
name_word (name m) n e = let h : m ≡ n = cc in ap name h
name_word (keyword k) n e = absurd cc
name_word (number i) n e = absurd cc
name_word (mark c) n e = absurd cc

pub exact_name : Exact OneName (one name_of) any
exact_name = exact_as (One name_of) OneName (one name_of) any any
    (λ n w o. o.2 ∙ ap (λ (t : Word). t ∷ []) (name_word o.0 n o.1)) (λ n w e. (name n, refl, e)) (λ o ok. ok) (exact_one name_of (codes "a") (name (codes "a")) refl refl)

number_word : (t : Word) (n : ℕ) → number_of t ≡ Some n → t ≡ number n
number_word (number i) n e = let h : i ≡ n = cc in ap number h
number_word (name m) n e = absurd cc
number_word (keyword k) n e = absurd cc
number_word (mark c) n e = absurd cc

pub exact_number : Exact (λ n. Is (number n)) (one number_of) any
exact_number = exact_as (One number_of) (λ n. Is (number n)) (one number_of) any any
    (λ n w o. o.2 ∙ ap (λ (t : Word). t ∷ []) (number_word o.0 n o.1)) (λ n w e. (number n, refl, e)) (λ o ok. ok) (exact_one number_of 0 (number 0) refl (omega arith))

key_at : ℕ → Keyword
key_at zero = key.Module
key_at (suc zero) = key.Endmodule
key_at (suc (suc zero)) = key.Input
key_at (suc (suc (suc zero))) = key.Output
key_at (suc (suc (suc (suc zero)))) = key.Wire
key_at (suc (suc (suc (suc (suc zero))))) = key.Assign
key_at (suc (suc (suc (suc (suc (suc n)))))) = key.Other

key_back : (k : Keyword) → key_at (rank k) ≡ k
unfolding key_at
key_back key.Module = refl
key_back key.Endmodule = refl
key_back key.Input = refl
key_back key.Output = refl
key_back key.Wire = refl
key_back key.Assign = refl
key_back key.Other = refl

key_word : (k : Keyword) (t : Word) (u : Unit {0}) → key_of k t ≡ Some u → t ≡ keyword k
key_word k (keyword j) u e = test (nat_eq (rank j) (rank k)) refl e where
  test : (b : Bool) → nat_eq (rank j) (rank k) ≡ b → cond b (Some tt) None ≡ Some u → keyword j ≡ keyword k
  test true is e = ap keyword (sym (key_back j) ∙ ap key_at (eqb-true (rank j) (rank k) is) ∙ key_back k)
  test false is e = absurd cc
key_word k (name n) u e = absurd cc
key_word k (mark c) u e = absurd cc
key_word k (number n) u e = absurd cc

key_is : (k : Keyword) → key_of k (keyword k) ≡ Some tt
key_is k = rw (nat_eq_same (rank k)) refl

pub exact_key : (k : Keyword) → Exact (λ (u : Unit {0}) w. Is (keyword k) w) (one (key_of k)) any
exact_key k = exact_as (One (key_of k)) (λ u w. Is (keyword k) w) (one (key_of k)) any any
    (λ u w o. o.2 ∙ ap (λ (t : Word). t ∷ []) (key_word k o.0 u o.1)) (λ u w e. (keyword k, key_is k, e)) (λ o ok. ok) (exact_one (key_of k) tt (keyword k) (key_is k) tt)

dir_key_is : (k : Keyword) (d : Dir) → dir_of_key k ≡ Some d → k ≡ dir_key d
dir_key_is key.Input d e = let h : dir.Input ≡ d = cc in ap dir_key h
dir_key_is key.Output d e = let h : dir.Output ≡ d = cc in ap dir_key h
dir_key_is key.Module d e = absurd cc
dir_key_is key.Endmodule d e = absurd cc
dir_key_is key.Wire d e = absurd cc
dir_key_is key.Assign d e = absurd cc
dir_key_is key.Other d e = absurd cc

dir_word : (t : Word) (d : Dir) → dir_of t ≡ Some d → t ≡ keyword (dir_key d)
dir_word (keyword k) d e = ap keyword (dir_key_is k d e)
dir_word (name n) d e = absurd cc
dir_word (mark c) d e = absurd cc
dir_word (number n) d e = absurd cc

dir_back : (d : Dir) → dir_of (keyword (dir_key d)) ≡ Some d
dir_back dir.Input = refl
dir_back dir.Output = refl

pub exact_dir : Exact SpellsDir (one dir_of) any
exact_dir = exact_as (One dir_of) SpellsDir (one dir_of) any any
    (λ d w o. o.2 ∙ ap (λ (t : Word). t ∷ []) (dir_word o.0 d o.1)) (λ d w e. (keyword (dir_key d), dir_back d, e)) (λ o ok. ok) (exact_one dir_of dir.Input (keyword key.Input) refl tt)

-- ---- tests

some_is : {A : Type 0} (o : Option A) → is_some o ≡ true → (a : A) × (o ≡ Some a)
some_is None e = absurd cc
some_is (Some a) e = (a, refl)

-- the next token is that mark
next_mark : (c : ℕ) (o : Option Word) → is_mark c o ≡ true → o ≡ Some (mark c)
next_mark c None e = absurd cc
next_mark c (Some t) e = let h = some_is (mark_of c t) e in ap Some (is_mark_word c t h.0 h.1)

-- what is true at a mark
at_mark : (test : Option Word → Bool) (c : ℕ) (is : Bool) → test (Some (mark c)) ≡ is → (o : Option Word) → is_mark c o ≡ true → test o ≡ is
at_mark test c is h o e = rw (next_mark c o e) h

isnt : (c : ℕ) (o : Option Word) → isnt_mark c o ≡ true → is_mark c o ≡ false
isnt c o e = not_true (is_mark c o) e

-- ---- ranges

pub exact_bounds : Exact SpellsBounds Parsing.range_in any
unfolding Parsing.range_in
exact_bounds = said SpellsBounds
    (λ x w s. s)
    (λ r w s. ((tt, (r.0, (tt, (r.1, tt)))), refl, s))
    (field_any (exact_mark 91 refl) (λ _. field_any exact_number (λ i. field_any (exact_mark 58 refl) (λ _. field_any exact_number (λ j. last (λ _. (i, j)) (exact_mark 93 refl))))))

pub exact_range : Exact SpellsRange Parsing.range (isnt_mark 91)
unfolding Parsing.range
exact_range = exact_perhaps (is_mark 91) SpellsBounds Parsing.range_in any (isnt_mark 91) exact_bounds (λ r w s. lead_token (is_mark 91) true (mark 91) refl w s) (λ o ok. refl) (isnt 91)

meets_range : (after : Option Word → Bool) → after (Some (mark 91)) ≡ true → (r : Option (ℕ × ℕ)) → Meets after (SpellsRange r) after
meets_range after h None = record { at = λ w rest s ok. rw s ok }
meets_range after h (Some r) = meets_token (mark 91) h

-- ---- lists with commas

pub exact_behind_comma : {A : Type 0} (S : A → List Word → Type 0) (p : List Word → Result (A × List Word) ℕ) (after : Option Word → Bool) → Exact S p after → Exact (BehindComma S) (Parsing.behind_comma p) after
exact_behind_comma S p after e = exact_as (Then (λ (u : Unit {0}) w. Is (mark 44) w) (λ u. S)) (BehindComma S) (Parsing.behind_comma p) after after
    (λ a w t. record { front = t.front; back = t.back; first_is = t.first_is; then_is = t.then_is; parts = t.parts })
    (λ a w s. record { value = tt; front = s.front; back = s.back; first_is = s.first_is; then_is = s.then_is; parts = s.parts })
    (λ o ok. ok)
    (exact_then (λ (u : Unit {0}) w. Is (mark 44) w) (one (mark_of 44)) any (λ u. S) (λ u ts. p ts) after (exact_mark 44 refl) (λ u. e) (λ a b w rest s ok. refl))

-- what may stand behind a list: no comma, and what may stand behind one of it
pub record Closes (after ends : Option Word → Bool) : Type 0 where
  pub behind : (o : Option Word) → ends o ≡ true → after o ≡ true
  pub no_comma : (o : Option Word) → ends o ≡ true → is_mark 44 o ≡ false
  pub at_comma : after (Some (mark 44)) ≡ true

pub exact_more_commas : {A : Type 0} (S : A → List Word → Type 0) (p : List Word → Result (A × List Word) ℕ) (after ends : Option Word → Bool) → Exact S p after → Closes after ends → Exact (Each (BehindComma S)) (Parsing.more_commas p) ends
exact_more_commas S p after ends e c = exact_many (is_mark 44) (BehindComma S) (Parsing.behind_comma p) after ends (exact_behind_comma S p after e)
    (λ a w s. lead_token (is_mark 44) true (mark 44) refl w s) refl (at_mark after 44 true c.at_comma) c.behind c.no_comma

meets_more : {A : Type 0} (S : A → List Word → Type 0) (after ends : Option Word → Bool) → Closes after ends → (xs : List A) → Meets after (Each (BehindComma S) xs) ends
meets_more S after ends c [] = record { at = λ w rest s ok. rw s (c.behind (first rest) ok) }
meets_more S after ends c (x ∷ xs) = meets_lead (meets_token (mark 44) c.at_comma)

pub exact_commas : {A : Type 0} (S : A → List Word → Type 0) (p : List Word → Result (A × List Word) ℕ) (after ends : Option Word → Bool) → Exact S p after → Closes after ends → Exact (Commas S) (Parsing.commas p) ends
unfolding Parsing.commas
exact_commas S p after ends e c = said (Commas S) (λ y w s. s) from
    (field e (λ x. last (λ xs. x ∷ xs) (exact_more_commas S p after ends e c)) (λ xs. meets_more S after ends c xs)) where
      from : (xs : List _) (w : List Word) → Commas S xs w → Of (λ (y : _ × List _). y.0 ∷ y.1) (λ (y : _ × List _). Both (S y.0) (Each (BehindComma S) y.1)) xs w
      from [] w s = absurd s
      from (x ∷ xs) w s = ((x, xs), refl, s)

pub exact_names : Exact Names Parsing.names (isnt_mark 44)
unfolding Parsing.names
exact_names = exact_commas OneName (one name_of) any (isnt_mark 44) exact_name (record { behind = λ o ok. refl; no_comma = isnt 44; at_comma = refl })

meets_names : (after : Option Word → Bool) → ((n : List ℕ) → after (Some (name n)) ≡ true) → (ns : List (List ℕ)) (ends : Option Word → Bool) → Meets after (Names ns) ends
meets_names after h [] ends = record { at = λ w rest s ok. absurd s }
meets_names after h (n ∷ ns) ends = meets_token (name n) (h n)

-- ---- expressions

abbrev pub behind_expr : Option Word → Bool
behind_expr o = isnt_mark 91 o

abbrev behind_exprs : Option Word → Bool
behind_exprs o = isnt_mark 91 o && isnt_mark 44 o

closes_exprs : Closes behind_expr behind_exprs
closes_exprs = record { behind = λ o ok. and_left (isnt_mark 91 o) (isnt_mark 44 o) ok; no_comma = λ o ok. isnt 44 o (and_right (isnt_mark 91 o) (isnt_mark 44 o) ok); at_comma = refl }

abbrev PartEnd : List ℕ → ℕ → Expr → List Word → Type 0
PartEnd n i = Or (Of (λ (y : Unit {0} × (ℕ × Unit {0})). Part n i y.1.0) (λ y. Is (mark 58) ⨾ Is (number y.1.0) ⨾ Is (mark 93))) (Of (λ (y : Unit {0}). Bit n i) (λ y. Is (mark 93)))

exact_part_end : (n : List ℕ) (i : ℕ) → Exact (PartEnd n i) (Parsing.part_end n i) any
unfolding Parsing.part_end
exact_part_end n i = exact_either (is_mark 58) _ _ _ _ any
    (field_any (exact_mark 58 refl) (λ _. field_any exact_number (λ j. last (λ _. Part n i j) (exact_mark 93 refl))))
    (last (λ _. Bit n i) (exact_mark 93 refl))
    (λ a w rest o ok. let l = lead_token (is_mark 58) true (mark 58) refl w o.2 in rw l.2 l.3)
    (λ a w rest o ok. rw o.2 refl)

abbrev Select : List ℕ → Expr → List Word → Type 0
Select n = Or (Then (λ (u : Unit {0}) w. Is (mark 91) w) (λ u. Then (λ i. Is (number i)) (λ i. PartEnd n i))) (Done (Name n))

exact_select : (n : List ℕ) → Exact (Select n) (Parsing.select n) behind_expr
unfolding Parsing.select
exact_select n = exact_either (is_mark 91) _ _ _ _ behind_expr
    (narrow behind_expr (λ o ok. refl) (exact_then _ _ any _ _ any (exact_mark 91 refl) (λ u. exact_then _ _ any _ _ any exact_number (λ i. exact_part_end n i) (λ a b w rest s ok. refl)) (λ a b w rest s ok. refl)))
    (narrow behind_expr (λ o ok. refl) (done (Name n)))
    (λ a w rest t ok. rw (t.parts, t.first_is) refl)
    (done_begins (is_mark 91) false (Name n) behind_expr (isnt 91))

to_plain : (e : Expr) (w : List Word) → Then OneName Select e w → SpellsExpr 0 e w
to_plain e w t = elim t.then_is [
  | inl u ↦ elim u.then_is.then_is [
    | inl o ↦ subst (λ (v : Expr). SpellsExpr 0 v w) (sym o.1) (record { front = t.front; back = t.back; first_is = t.first_is; parts = t.parts; then_is = record { front = u.front; back = u.back; first_is = u.first_is; parts = u.parts; then_is = record { front = u.then_is.front; back = u.then_is.back; first_is = u.then_is.first_is; parts = u.then_is.parts; then_is = o.2 } } })
    | inr o ↦ subst (λ (v : Expr). SpellsExpr 0 v w) (sym o.1) (record { front = t.front; back = t.back; first_is = t.first_is; parts = t.parts; then_is = record { front = u.front; back = u.back; first_is = u.first_is; parts = u.parts; then_is = record { front = u.then_is.front; back = u.then_is.back; first_is = u.then_is.first_is; parts = u.then_is.parts; then_is = o.2 } } })
  ]
  | inr d ↦ subst (λ (v : Expr). SpellsExpr 0 v w) (sym d.0) (t.parts ∙ ap (λ (b : List Word). t.front ++ b) d.1 ∙ append-nil t.front ∙ t.first_is)
]

from_plain : (e : Expr) (w : List Word) → SpellsExpr 0 e w → Then OneName Select e w
from_plain (Name n) w s = record { value = n; front = w; back = []; first_is = s; then_is = inr (refl, refl); parts = sym (append-nil w) }
from_plain (Bit n i) w s = record {
  value = n;
  front = s.front;
  back = s.back;
  first_is = s.first_is;
  parts = s.parts;
  then_is = inl (record {
    value = tt;
    front = s.then_is.front;
    back = s.then_is.back;
    first_is = s.then_is.first_is;
    parts = s.then_is.parts;
    then_is =
        record { value = i; front = s.then_is.then_is.front; back = s.then_is.then_is.back; first_is = s.then_is.then_is.first_is; parts = s.then_is.then_is.parts; then_is = inr (tt, refl, s.then_is.then_is.then_is) };
  });
}
from_plain (Part n i j) w s = record {
  value = n;
  front = s.front;
  back = s.back;
  first_is = s.first_is;
  parts = s.parts;
  then_is = inl (record {
    value = tt;
    front = s.then_is.front;
    back = s.then_is.back;
    first_is = s.then_is.first_is;
    parts = s.then_is.parts;
    then_is =
        record { value = i; front = s.then_is.then_is.front; back = s.then_is.then_is.back; first_is = s.then_is.then_is.first_is; parts = s.then_is.then_is.parts; then_is = inl ((tt, (j, tt)), refl, s.then_is.then_is.then_is) };
  });
}
from_plain (Join es) w s = absurd s

exact_plain : Exact (SpellsExpr 0) Parsing.plain behind_expr
unfolding Parsing.plain
exact_plain = exact_as (Then OneName Select) (SpellsExpr 0) Parsing.plain behind_expr behind_expr to_plain from_plain (λ o ok. ok)
    (exact_then _ _ any _ _ behind_expr exact_name exact_select (λ a b w rest s ok. refl))

gathered_listed : (es : Exprs) → gathered (listed es) ≡ es
gathered_listed end = refl
gathered_listed (more e es) = ap (more e) (gathered_listed es)

listed_gathered : (es : List Expr) → listed (gathered es) ≡ es
listed_gathered [] = refl
listed_gathered (e ∷ es) = ap (λ (l : List Expr). e ∷ l) (listed_gathered es)

abbrev Braces : ℕ → Expr → List Word → Type 0
Braces d = Of (λ (y : Unit {0} × (List Expr × Unit {0})). Join (gathered y.1.0)) (λ y. Is (mark 123) ⨾ Commas (λ e v. SpellsExpr d e v) y.1.0 ⨾ Is (mark 125))

exact_braces : (d : ℕ) → Exact (λ e w. SpellsExpr d e w) (λ ts. Parsing.expr d ts) behind_expr → Exact (Braces d) (Parsing.braces (λ ts. Parsing.expr d ts)) any
unfolding Parsing.braces
exact_braces d e = field_any (exact_mark 123 refl) (λ _. field (exact_commas (λ e v. SpellsExpr d e v) (λ ts. Parsing.expr d ts) behind_expr behind_exprs e closes_exprs) (λ es. last (λ _. Join (gathered es)) (exact_mark 125 refl)) (λ x. meets_one (mark 125) refl))

plain_leads : (d : ℕ) (e : Expr) (w : List Word) → SpellsExpr 0 e w → (t : Word) × (v : List Word) × (w ≡ t ∷ v) × (is_mark 123 (Some t) ≡ false)
plain_leads d (Name n) w s = (name n, [], s, refl)
plain_leads d (Bit n i) w s = lead_token (is_mark 123) false (name n) refl w s
plain_leads d (Part n i j) w s = lead_token (is_mark 123) false (name n) refl w s
plain_leads d (Join es) w s = absurd s

pub exact_expr : (d : ℕ) → Exact (λ e w. SpellsExpr d e w) (λ ts. Parsing.expr d ts) behind_expr
exact_expr zero = exact_plain
exact_expr (suc d) = exact_as (Or (Braces d) (SpellsExpr 0)) (λ e w. SpellsExpr (suc d) e w) (λ ts. Parsing.expr (suc d) ts) behind_expr behind_expr to from (λ o ok. ok)
    (exact_either (is_mark 123) _ _ _ _ behind_expr (narrow behind_expr (λ o ok. refl) (exact_braces d (exact_expr d))) exact_plain
    (λ a w rest o ok. let l = lead_token (is_mark 123) true (mark 123) refl w o.2 in rw l.2 l.3) (leads_begins (is_mark 123) false (SpellsExpr 0) behind_expr (plain_leads d))) where
      same : (e : Expr) (w : List Word) → SpellsExpr 0 e w → SpellsExpr (suc d) e w
      same (Name n) w s = s
      same (Bit n i) w s = s
      same (Part n i j) w s = s
      same (Join es) w s = absurd s

      to : (e : Expr) (w : List Word) → Or (Braces d) (SpellsExpr 0) e w → SpellsExpr (suc d) e w
      to e w (inl o) = subst (λ (v : Expr). SpellsExpr (suc d) v w) (sym o.1) (subst (λ (l : List Expr). (Is (mark 123) ⨾ Commas (λ e v. SpellsExpr d e v) l ⨾ Is (mark 125)) w) (sym (listed_gathered o.0.1.0)) o.2)
      to e w (inr s) = same e w s

      from : (e : Expr) (w : List Word) → SpellsExpr (suc d) e w → Or (Braces d) (SpellsExpr 0) e w
      from (Name n) w s = inr s
      from (Bit n i) w s = inr s
      from (Part n i j) w s = inr s
      from (Join es) w s = inl ((tt, (listed es, tt)), ap Join (sym (gathered_listed es)), s)

pub exact_value : Exact SpellsValue Parsing.value behind_expr
unfolding Parsing.value
exact_value = exact_expr 64

value_leads : (test : Option Word → Bool) (is : Bool) → ((n : List ℕ) → test (Some (name n)) ≡ is) → test (Some (mark 123)) ≡ is → Leads test is SpellsValue
value_leads test is n b (Name m) w s = (name m, [], s, n m)
value_leads test is n b (Bit m i) w s = lead_token test is (name m) (n m) w s
value_leads test is n b (Part m i j) w s = lead_token test is (name m) (n m) w s
value_leads test is n b (Join es) w s = lead_token test is (mark 123) b w s

-- ---- links

abbrev pub behind_optional : Option Word → Bool
behind_optional o = not (begins_expr o) && isnt_mark 91 o

pub exact_optional : Exact SpellsOptional Parsing.optional behind_optional
unfolding Parsing.optional
exact_optional = exact_perhaps begins_expr SpellsValue Parsing.value behind_expr behind_optional exact_value
    (value_leads begins_expr true (λ n. refl) refl) (λ o ok. and_right (not (begins_expr o)) (isnt_mark 91 o) ok) (λ o ok. not_true (begins_expr o) (and_left (not (begins_expr o)) (isnt_mark 91 o) ok))

pub exact_named : Exact SpellsNamed Parsing.named any
unfolding Parsing.named
exact_named = said SpellsNamed (λ y w s. s) (λ l w s. ((tt, (l.name, (tt, (l.expr, tt)))), refl, s))
    (field_any (exact_mark 46 refl) (λ _. field_any exact_name (λ n. field_any (exact_mark 40 refl) (λ _. field exact_optional (λ e. last (λ _. record { name = n; expr = e }) (exact_mark 41 refl)) (λ x. meets_one (mark 41) refl)))))

named_leads : (test : Option Word → Bool) (is : Bool) → test (Some (mark 46)) ≡ is → (ls : List NamedLink) (w : List Word) → Commas SpellsNamed ls w → (t : Word) × (v : List Word) × (w ≡ t ∷ v) × (test (Some t) ≡ is)
named_leads test is h [] w s = absurd s
named_leads test is h (l ∷ ls) w s = lead_front test is (SpellsNamed l) (lead_token test is (mark 46) h) w s

-- behind the ordered links stands a closing parenthesis
abbrev closing : Option Word → Bool
closing o = is_mark 41 o

closes_optional : Closes behind_optional closing
closes_optional = record { behind = at_mark behind_optional 41 true refl; no_comma = at_mark (is_mark 44) 41 false refl; at_comma = refl }

abbrev FirstFull : List (Option Expr) → List Word → Type 0
FirstFull = Of (λ (y : Expr × List (Option Expr)). Some y.0 ∷ y.1) (λ y. SpellsValue y.0 ⨾ Each (BehindComma SpellsOptional) y.1)

abbrev FirstEmpty : List (Option Expr) → List Word → Type 0
FirstEmpty = Of (λ (y : Option Expr × List (Option Expr)). None ∷ y.0 ∷ y.1) (λ y. BehindComma SpellsOptional y.0 ⨾ Each (BehindComma SpellsOptional) y.1)

exact_ordered : Exact (Or FirstFull FirstEmpty) Parsing.ordered closing
unfolding Parsing.ordered
exact_ordered = exact_either begins_expr FirstFull _ FirstEmpty _ closing
    (field exact_value (λ e. last (λ ls. Some e ∷ ls) more_links) (λ ls. weaker (isnt_mark 91) refl refl ls))
    (field (exact_behind_comma SpellsOptional Parsing.optional behind_optional exact_optional) (λ e. last (λ ls. None ∷ e ∷ ls) more_links) (λ ls. weaker behind_optional refl refl ls))
    (λ a w rest o ok. let l = lead_front begins_expr true (SpellsValue o.0.0) (value_leads begins_expr true (λ n. refl) refl o.0.0) w o.2 in rw l.2 l.3)
    (λ a w rest o ok. let l = lead_front begins_expr false (BehindComma SpellsOptional o.0.0) (lead_token begins_expr false (mark 44) refl) w o.2 in rw l.2 l.3) where
      more_links : Exact (Each (BehindComma SpellsOptional)) (Parsing.more_commas Parsing.optional) closing
      more_links = exact_more_commas SpellsOptional Parsing.optional behind_optional closing exact_optional closes_optional

      weaker : (after : Option Word → Bool) → after (Some (mark 41)) ≡ true → after (Some (mark 44)) ≡ true → (ls : List (Option Expr)) → Meets after (Each (BehindComma SpellsOptional) ls) closing
      weaker after h c [] = record { at = λ w rest s ok. rw s (at_mark after 41 true h (first rest) ok) }
      weaker after h c (l ∷ ls) = meets_lead (meets_token (mark 44) c)

abbrev OrderedOf : Links → List Word → Type 0
OrderedOf = Of Ordered (λ ls. Or FirstFull FirstEmpty ls)

abbrev NamedOf : Links → List Word → Type 0
NamedOf = Of Named (Commas SpellsNamed)

to_ordered : (ls : List (Option Expr)) (w : List Word) → Or FirstFull FirstEmpty ls w → SpellsLinks (Ordered ls) w
to_ordered ls w (inl o) = subst (λ (l : List (Option Expr)). SpellsLinks (Ordered l) w) (sym o.1) (by_rest o.0.0 o.0.1 o.2) where
  by_rest : (e : Expr) (ls : List (Option Expr)) → (SpellsValue e ⨾ Each (BehindComma SpellsOptional) ls) w → SpellsLinks (Ordered (Some e ∷ ls)) w
  by_rest e [] s = s
  by_rest e (l ∷ ls) s = s
to_ordered ls w (inr o) = subst (λ (l : List (Option Expr)). SpellsLinks (Ordered l) w) (sym o.1) (record { front = []; back = w; first_is = refl; then_is = o.2; parts = refl })

to_links : (l : Links) (w : List Word) → Or NamedOf (Or (Done (Ordered [])) OrderedOf) l w → SpellsLinks l w
to_links l w (inl o) = subst (λ (v : Links). SpellsLinks v w) (sym o.1) o.2
to_links l w (inr (inl d)) = subst (λ (v : Links). SpellsLinks v w) (sym d.0) d.1
to_links l w (inr (inr o)) = subst (λ (v : Links). SpellsLinks v w) (sym o.1) (to_ordered o.0 w o.2)

-- a text with nothing in front
no_front : {P Q : List Word → Type 0} (w : List Word) → ((v : List Word) → P v → v ≡ []) → Both P Q w → Q w
no_front {P} {Q} w h s = subst Q (sym (s.parts ∙ ap (λ (f : List Word). f ++ s.back) (h s.front s.first_is))) s.then_is

from_links : (l : Links) (w : List Word) → SpellsLinks l w → Or NamedOf (Or (Done (Ordered [])) OrderedOf) l w
from_links (Named ls) w s = inl (ls, refl, s)
from_links (Ordered []) w s = inr (inl (refl, s))
from_links (Ordered (None ∷ [])) w s = absurd s
from_links (Ordered (Some e ∷ [])) w s = inr (inr (Some e ∷ [], refl, inl ((e, []), refl, s)))
from_links (Ordered (Some e ∷ l ∷ ls)) w s = inr (inr (Some e ∷ l ∷ ls, refl, inl ((e, l ∷ ls), refl, s)))
from_links (Ordered (None ∷ l ∷ ls)) w s = inr (inr (None ∷ l ∷ ls, refl, inr ((l, ls), refl, no_front w (λ v e. e) s)))

pub exact_links : Exact SpellsLinks Parsing.links closing
unfolding Parsing.links
exact_links = exact_as (Or NamedOf (Or (Done (Ordered [])) OrderedOf)) SpellsLinks Parsing.links closing closing to_links from_links (λ o ok. ok)
    (exact_either (is_mark 46) NamedOf _ (Or (Done (Ordered [])) OrderedOf) _ closing
    (narrow closing (at_mark (isnt_mark 44) 41 true refl) (last Named (exact_commas SpellsNamed Parsing.named any (isnt_mark 44) exact_named (record { behind = λ o ok. refl; no_comma = isnt 44; at_comma = refl }))))
    (exact_either (is_mark 41) (Done (Ordered [])) _ OrderedOf _ closing
    (narrow closing (λ o ok. refl) (done (Ordered []))) (last Ordered exact_ordered)
    (done_begins (is_mark 41) true (Ordered []) closing (λ o ok. ok))
    (λ a w rest o ok. let l = ordered_leads (is_mark 41) false (λ n. refl) refl refl o.0 w o.2 in rw l.2 l.3))
    (λ a w rest o ok. let l = named_leads (is_mark 46) true refl o.0 w o.2 in rw l.2 l.3)
    (λ a w rest o ok. other a w rest o ok)) where
      ordered_leads : (test : Option Word → Bool) (is : Bool) → ((n : List ℕ) → test (Some (name n)) ≡ is) → test (Some (mark 123)) ≡ is → test (Some (mark 44)) ≡ is → (ls : List (Option Expr)) (w : List Word) → Or FirstFull FirstEmpty ls w → (t : Word) × (v : List Word) × (w ≡ t ∷ v) × (test (Some t) ≡ is)
      ordered_leads test is n b c ls w (inl o) = lead_front test is (SpellsValue o.0.0) (value_leads test is n b o.0.0) w o.2
      ordered_leads test is n b c ls w (inr o) = lead_front test is (BehindComma SpellsOptional o.0.0) (lead_token test is (mark 44) c) w o.2

      other : (a : Links) (w rest : List Word) → Or (Done (Ordered [])) OrderedOf a w → closing (first rest) ≡ true → is_mark 46 (first (w ++ rest)) ≡ false
      other a w rest (inl d) ok = rw d.1 (at_mark (is_mark 46) 41 false refl (first rest) ok)
      other a w rest (inr o) ok = let l = ordered_leads (is_mark 46) false (λ n. refl) refl refl o.0 w o.2 in rw l.2 l.3

pub exact_instance : Exact SpellsInstance Parsing.instance any
unfolding Parsing.instance
exact_instance = said SpellsInstance (λ y w s. s) (λ i w s. ((i.name, (tt, (i.links, tt))), refl, s))
    (field_any exact_name (λ n. field_any (exact_mark 40 refl) (λ _. field exact_links (λ ls. last (λ _. record { name = n; links = ls }) (exact_mark 41 refl)) (λ x. meets_one (mark 41) refl))))

-- ---- the word `wire`

abbrev isnt_wire : Option Word → Bool
isnt_wire o = not (next_is (key_of key.Wire) o)

exact_wire : Exact SpellsWire Parsing.wire_word isnt_wire
unfolding Parsing.wire_word
exact_wire = exact_as (Or (Of (λ (u : Unit {0}). true) (λ u. Is (keyword key.Wire))) (Done false)) SpellsWire Parsing.wire_word isnt_wire isnt_wire to from (λ o ok. ok)
    (exact_either (next_is (key_of key.Wire)) _ _ _ _ isnt_wire (narrow isnt_wire (λ o ok. refl) (last (λ _. true) (exact_key key.Wire))) (narrow isnt_wire (λ o ok. refl) (done false))
    (λ a w rest o ok. rw o.2 refl) (done_begins (next_is (key_of key.Wire)) false false isnt_wire (λ o ok. not_true (next_is (key_of key.Wire) o) ok))) where
      to : (b : Bool) (w : List Word) → Or (Of (λ (u : Unit {0}). true) (λ u. Is (keyword key.Wire))) (Done false) b w → SpellsWire b w
      to b w (inl o) = subst (λ (v : Bool). SpellsWire v w) (sym o.1) o.2
      to b w (inr d) = subst (λ (v : Bool). SpellsWire v w) (sym d.0) d.1

      from : (b : Bool) (w : List Word) → SpellsWire b w → Or (Of (λ (u : Unit {0}). true) (λ u. Is (keyword key.Wire))) (Done false) b w
      from true w s = inl (tt, refl, s)
      from false w s = inr (refl, s)

-- ---- heads

abbrev FullOf : HeadPort → List Word → Type 0
FullOf = Of (λ (y : Dir × (Bool × (Option (ℕ × ℕ) × List ℕ))). Full y.0 y.1.0 y.1.1.0 y.1.1.1) (λ y. SpellsDir y.0 ⨾ SpellsWire y.1.0 ⨾ SpellsRange y.1.1.0 ⨾ Is (name y.1.1.1))

exact_full : Exact SpellsFull Parsing.full any
unfolding Parsing.full
exact_full = said SpellsFull (λ y w s. s) from
    (field_any exact_dir (λ d. field exact_wire (λ b. field exact_range (λ r. last (λ n. Full d b r n) exact_name) (λ n. meets_one (name n) refl)) (λ x. meets_both (meets_range isnt_wire refl x.0) (meets_one (name x.1) refl)))) where
      from : (p : HeadPort) (w : List Word) → SpellsFull p w → FullOf p w
      from (Full d b r n) w s = ((d, (b, (r, n))), refl, s)
      from (Bare n) w s = absurd s

dir_tests : (d : Dir) → (next_is name_of (Some (keyword (dir_key d))) ≡ false) × (next_is dir_of (Some (keyword (dir_key d))) ≡ true) × (is_mark 41 (Some (keyword (dir_key d))) ≡ false)
dir_tests dir.Input = (refl, refl, refl)
dir_tests dir.Output = (refl, refl, refl)

full_leads : (test : Option Word → Bool) (is : Bool) → ((d : Dir) → test (Some (keyword (dir_key d))) ≡ is) → Leads test is SpellsFull
full_leads test is h (Full d b r n) w s = lead_token test is (keyword (dir_key d)) (h d) w s
full_leads test is h (Bare n) w s = absurd s

pub exact_port : Exact SpellsPort Parsing.port any
unfolding Parsing.port
exact_port = exact_as (Or (Of Bare (λ n. Is (name n))) SpellsFull) SpellsPort Parsing.port any any to from (λ o ok. ok)
    (exact_either (next_is name_of) _ _ _ _ any (last Bare exact_name) exact_full (λ a w rest o ok. rw o.2 refl) (leads_begins (next_is name_of) false SpellsFull any (full_leads (next_is name_of) false (λ d. (dir_tests d).0)))) where
      to : (p : HeadPort) (w : List Word) → Or (Of Bare (λ n. Is (name n))) SpellsFull p w → SpellsPort p w
      to p w (inl o) = subst (λ (v : HeadPort). SpellsPort v w) (sym o.1) o.2
      to (Full d b r n) w (inr s) = s
      to (Bare n) w (inr s) = absurd s

      from : (p : HeadPort) (w : List Word) → SpellsPort p w → Or (Of Bare (λ n. Is (name n))) SpellsFull p w
      from (Full d b r n) w s = inr s
      from (Bare n) w s = inl (n, refl, s)

abbrev PortsOf : Head → List Word → Type 0
PortsOf = Of (λ (y : HeadPort × List HeadPort). Ports (y.0 ∷ y.1)) (λ y. SpellsFull y.0 ⨾ Each (BehindComma SpellsPort) y.1)

closes_ports : Closes any closing
closes_ports = record { behind = λ o ok. refl; no_comma = at_mark (is_mark 44) 41 false refl; at_comma = refl }

exact_ports : Exact PortsOf Parsing.ports closing
unfolding Parsing.ports
exact_ports = field_any exact_full (λ p. last (λ ps. Ports (p ∷ ps)) (exact_more_commas SpellsPort Parsing.port any closing exact_port closes_ports))

abbrev Inside : Head → List Word → Type 0
Inside = Or (Done (Plain [])) (Or (Of Plain Names) PortsOf)

exact_inside : Exact Inside Parsing.inside closing
unfolding Parsing.inside
exact_inside = exact_either (is_mark 41) (Done (Plain [])) _ (Or (Of Plain Names) PortsOf) _ closing
    (narrow closing (λ o ok. refl) (done (Plain [])))
    (exact_either (next_is name_of) (Of Plain Names) _ PortsOf _ closing (narrow closing (at_mark (isnt_mark 44) 41 true refl) (last Plain exact_names)) exact_ports
    (λ a w rest o ok. let l = names_lead (next_is name_of) true (λ n. refl) o.0 w o.2 in rw l.2 l.3)
    (λ a w rest o ok. let l = lead_front (next_is name_of) false (SpellsFull o.0.0) (full_leads (next_is name_of) false (λ d. (dir_tests d).0) o.0.0) w o.2 in rw l.2 l.3))
    (done_begins (is_mark 41) true (Plain []) closing (λ o ok. ok))
    other where
      names_lead : (test : Option Word → Bool) (is : Bool) → ((n : List ℕ) → test (Some (name n)) ≡ is) → Leads test is Names
      names_lead test is h [] w s = absurd s
      names_lead test is h (n ∷ ns) w s = lead_token test is (name n) (h n) w s

      other : (a : Head) (w rest : List Word) → Or (Of Plain Names) PortsOf a w → closing (first rest) ≡ true → is_mark 41 (first (w ++ rest)) ≡ false
      other a w rest (inl o) ok = let l = names_lead (is_mark 41) false (λ n. refl) o.0 w o.2 in rw l.2 l.3
      other a w rest (inr o) ok = let l = lead_front (is_mark 41) false (SpellsFull o.0.0) (full_leads (is_mark 41) false (λ d. (dir_tests d).2) o.0.0) w o.2 in rw l.2 l.3

abbrev HeadIn : Head → List Word → Type 0
HeadIn = Of (λ (y : Unit {0} × (Head × Unit {0})). y.1.0) (λ y. Is (mark 40) ⨾ Inside y.1.0 ⨾ Is (mark 41))

to_head : (h : Head) (w : List Word) → Or HeadIn (Done (Plain [])) h w → SpellsHead h w
to_head h w (inr d) = subst (λ (v : Head). SpellsHead v w) (sym d.0) (inl d.1)
to_head h w (inl o) = subst (λ (v : Head). SpellsHead v w) (sym o.1) (inside o.0.1.0 o.2) where
  put_back : (h : Head) (P : List Word → Type 0) (s : (Is (mark 40) ⨾ Inside h ⨾ Is (mark 41)) w) → P s.then_is.front → (Is (mark 40) ⨾ P ⨾ Is (mark 41)) w
  put_back h P s p = record { front = s.front; back = s.back; first_is = s.first_is; parts = s.parts; then_is = record { front = s.then_is.front; back = s.then_is.back; first_is = p; then_is = s.then_is.then_is; parts = s.then_is.parts } }

  by_names : (h : Head) (ns : List (List ℕ)) → h ≡ Plain ns → (u : List Word) → Names ns u → ((P : List Word → Type 0) → P u → (Is (mark 40) ⨾ P ⨾ Is (mark 41)) w) → SpellsHead h w
  by_names h [] e u s k = absurd s
  by_names h (n ∷ ns) e u s k = subst (λ (v : Head). SpellsHead v w) (sym e) (k (Names (n ∷ ns)) s)

  inside : (h : Head) → (Is (mark 40) ⨾ Inside h ⨾ Is (mark 41)) w → SpellsHead h w
  inside h s = elim s.then_is.first_is [
    | inl d ↦ subst (λ (v : Head). SpellsHead v w) (sym d.0) (inr (record { front = s.front; back = s.back; first_is = s.first_is; parts = s.parts; then_is = s.then_is.parts ∙ ap (λ (f : List Word). f ++ s.then_is.back) d.1 ∙ s.then_is.then_is }))
    | inr e ↦ elim e [
      | inl o ↦ by_names h o.0 o.1 s.then_is.front o.2 (λ P p. put_back h P s p)
      | inr o ↦ subst (λ (v : Head). SpellsHead v w) (sym o.1) (put_back h (SpellsFull o.0.0 ⨾ Each (BehindComma SpellsPort) o.0.1) s o.2)
    ]
  ]

from_head : (h : Head) (w : List Word) → SpellsHead h w → Or HeadIn (Done (Plain [])) h w
from_head (Plain []) w (inl s) = inr (refl, s)
from_head (Plain []) w (inr s) = inl ((tt, (Plain [], tt)), refl, record { front = s.front; back = s.back; first_is = s.first_is; parts = s.parts; then_is = record { front = []; back = s.back; first_is = inl (refl, refl); then_is = s.then_is; parts = refl } })
from_head (Plain (n ∷ ns)) w s = inl ((tt, (Plain (n ∷ ns), tt)), refl, record { front = s.front; back = s.back; first_is = s.first_is; parts = s.parts; then_is = record { front = s.then_is.front; back = s.then_is.back; first_is = inr (inl (n ∷ ns, refl, s.then_is.first_is)); then_is = s.then_is.then_is; parts = s.then_is.parts } })
from_head (Ports []) w s = absurd s
from_head (Ports (p ∷ ps)) w s = inl ((tt, (Ports (p ∷ ps), tt)), refl, record { front = s.front; back = s.back; first_is = s.first_is; parts = s.parts; then_is = record { front = s.then_is.front; back = s.then_is.back; first_is = inr (inr ((p, ps), refl, s.then_is.first_is)); then_is = s.then_is.then_is; parts = s.then_is.parts } })

pub exact_head : Exact SpellsHead Parsing.head (isnt_mark 40)
unfolding Parsing.head
exact_head = exact_as (Or HeadIn (Done (Plain []))) SpellsHead Parsing.head (isnt_mark 40) (isnt_mark 40) to_head from_head (λ o ok. ok)
    (exact_either (is_mark 40) HeadIn _ _ _ (isnt_mark 40)
    (narrow (isnt_mark 40) (λ o ok. refl) (field_any (exact_mark 40 refl) (λ _. field exact_inside (λ h. last (λ _. h) (exact_mark 41 refl)) (λ x. meets_one (mark 41) refl))))
    (narrow (isnt_mark 40) (λ o ok. refl) (done (Plain [])))
    (λ a w rest o ok. let l = lead_token (is_mark 40) true (mark 40) refl w o.2 in rw l.2 l.3)
    (done_begins (is_mark 40) false (Plain []) (isnt_mark 40) (isnt 40)))

-- ---- items

pub exact_assign : Exact SpellsAssign Parsing.assign behind_expr
unfolding Parsing.assign
exact_assign = said SpellsAssign (λ y w s. s) (λ a w s. ((a.0, (tt, a.1)), refl, s))
    (field exact_value (λ to. field_any (exact_mark 61 refl) (λ _. last (λ from. (to, from)) exact_value)) (λ x. meets_token (mark 61) refl))

abbrev PortItemOf : Item → List Word → Type 0
PortItemOf = Of (λ (y : Dir × (Bool × (Option (ℕ × ℕ) × (List (List ℕ) × Unit {0})))). PortItem y.0 y.1.0 y.1.1.0 y.1.1.1.0) (λ y. SpellsDir y.0 ⨾ SpellsWire y.1.0 ⨾ SpellsRange y.1.1.0 ⨾ Names y.1.1.1.0 ⨾ Is (mark 59))

exact_port_item : Exact PortItemOf Parsing.port_item any
unfolding Parsing.port_item
exact_port_item = field_any exact_dir (λ d. field exact_wire (λ b. field exact_range (λ r. field exact_names (λ ns. last (λ _. PortItem d b r ns) (exact_mark 59 refl)) (λ x. meets_one (mark 59) refl))
    (λ x. meets_lead (meets_names (isnt_mark 91) (λ n. refl) x.0 any))) (λ x. meets_both (meets_range isnt_wire refl x.0) (meets_lead (meets_names isnt_wire (λ n. refl) x.1.0 any))))

abbrev WiresOf : Item → List Word → Type 0
WiresOf = Of (λ (y : Unit {0} × (Option (ℕ × ℕ) × (List (List ℕ) × Unit {0}))). Wires y.1.0 y.1.1.0) (λ y. Is (keyword key.Wire) ⨾ SpellsRange y.1.0 ⨾ Names y.1.1.0 ⨾ Is (mark 59))

exact_wires : Exact WiresOf Parsing.wires any
unfolding Parsing.wires
exact_wires = field_any (exact_key key.Wire) (λ _. field exact_range (λ r. field exact_names (λ ns. last (λ _. Wires r ns) (exact_mark 59 refl)) (λ x. meets_one (mark 59) refl)) (λ x. meets_lead (meets_names (isnt_mark 91) (λ n. refl) x.0 any)))

abbrev AssignsOf : Item → List Word → Type 0
AssignsOf = Of (λ (y : Unit {0} × (List (Expr × Expr) × Unit {0})). Assigns y.1.0) (λ y. Is (keyword key.Assign) ⨾ Commas SpellsAssign y.1.0 ⨾ Is (mark 59))

exact_assigns : Exact AssignsOf Parsing.assigns any
unfolding Parsing.assigns
exact_assigns = field_any (exact_key key.Assign) (λ _. field (exact_commas SpellsAssign Parsing.assign behind_expr behind_exprs exact_assign closes_exprs) (λ pairs. last (λ _. Assigns pairs) (exact_mark 59 refl)) (λ x. meets_one (mark 59) refl))

abbrev InstancesOf : Item → List Word → Type 0
InstancesOf = Of (λ (y : List ℕ × (List Instance × Unit {0})). Instances y.0 y.1.0) (λ y. Is (name y.0) ⨾ Commas SpellsInstance y.1.0 ⨾ Is (mark 59))

exact_instances : Exact InstancesOf Parsing.instances any
unfolding Parsing.instances
exact_instances = field_any exact_name (λ kind. field (exact_commas SpellsInstance Parsing.instance any (isnt_mark 44) exact_instance (record { behind = λ o ok. refl; no_comma = isnt 44; at_comma = refl })) (λ is. last (λ _. Instances kind is) (exact_mark 59 refl)) (λ x. meets_one (mark 59) refl))

abbrev AnyItem : Item → List Word → Type 0
AnyItem = Or PortItemOf (Or WiresOf (Or AssignsOf InstancesOf))

to_item : (i : Item) (w : List Word) → AnyItem i w → SpellsItem i w
to_item i w (inl o) = subst (λ (v : Item). SpellsItem v w) (sym o.1) o.2
to_item i w (inr (inl o)) = subst (λ (v : Item). SpellsItem v w) (sym o.1) o.2
to_item i w (inr (inr (inl o))) = subst (λ (v : Item). SpellsItem v w) (sym o.1) o.2
to_item i w (inr (inr (inr o))) = subst (λ (v : Item). SpellsItem v w) (sym o.1) o.2

from_item : (i : Item) (w : List Word) → SpellsItem i w → AnyItem i w
from_item (PortItem d b r ns) w s = inl ((d, (b, (r, (ns, tt)))), refl, s)
from_item (Wires r ns) w s = inr (inl ((tt, (r, (ns, tt))), refl, s))
from_item (Assigns pairs) w s = inr (inr (inl ((tt, (pairs, tt)), refl, s)))
from_item (Instances kind is) w s = inr (inr (inr ((kind, (is, tt)), refl, s)))

pub exact_item : Exact SpellsItem Parsing.item any
unfolding Parsing.item
exact_item = exact_as AnyItem SpellsItem Parsing.item any any to_item from_item (λ o ok. ok)
    (exact_either (next_is dir_of) PortItemOf _ (Or WiresOf (Or AssignsOf InstancesOf)) _ any exact_port_item
    (exact_either (next_is (key_of key.Wire)) WiresOf _ (Or AssignsOf InstancesOf) _ any exact_wires
    (exact_either (next_is (key_of key.Assign)) AssignsOf _ InstancesOf _ any exact_assigns exact_instances
    (λ a w rest o ok. let l = lead_token (next_is (key_of key.Assign)) true (keyword key.Assign) refl w o.2 in rw l.2 l.3)
    (λ a w rest o ok. let l = lead_token (next_is (key_of key.Assign)) false (name o.0.0) refl w o.2 in rw l.2 l.3))
    (λ a w rest o ok. let l = lead_token (next_is (key_of key.Wire)) true (keyword key.Wire) refl w o.2 in rw l.2 l.3)
    not_wires)
    (λ a w rest o ok. let l = lead_token (next_is dir_of) true (keyword (dir_key o.0.0)) (dir_tests o.0.0).1 w o.2 in rw l.2 l.3)
    not_ports) where
      not_wires : Begins (next_is (key_of key.Wire)) false (Or AssignsOf InstancesOf) any
      not_wires a w rest (inl o) ok = let l = lead_token (next_is (key_of key.Wire)) false (keyword key.Assign) refl w o.2 in rw l.2 l.3
      not_wires a w rest (inr o) ok = let l = lead_token (next_is (key_of key.Wire)) false (name o.0.0) refl w o.2 in rw l.2 l.3

      not_ports : Begins (next_is dir_of) false (Or WiresOf (Or AssignsOf InstancesOf)) any
      not_ports a w rest (inl o) ok = let l = lead_token (next_is dir_of) false (keyword key.Wire) refl w o.2 in rw l.2 l.3
      not_ports a w rest (inr (inl o)) ok = let l = lead_token (next_is dir_of) false (keyword key.Assign) refl w o.2 in rw l.2 l.3
      not_ports a w rest (inr (inr o)) ok = let l = lead_token (next_is dir_of) false (name o.0.0) refl w o.2 in rw l.2 l.3

begins_dir : (d : Dir) → begins_item (Some (keyword (dir_key d))) ≡ true
begins_dir dir.Input = refl
begins_dir dir.Output = refl

pub item_leads : Leads begins_item true SpellsItem
item_leads (PortItem d b r ns) w s = lead_token begins_item true (keyword (dir_key d)) (begins_dir d) w s
item_leads (Wires r ns) w s = lead_token begins_item true (keyword key.Wire) refl w s
item_leads (Assigns pairs) w s = lead_token begins_item true (keyword key.Assign) refl w s
item_leads (Instances kind is) w s = lead_token begins_item true (name kind) refl w s

-- ---- modules

abbrev no_item : Option Word → Bool
no_item o = not (begins_item o)

exact_items : Exact (Each SpellsItem) (λ ts. many begins_item Parsing.item (length ts) ts) no_item
exact_items = exact_many begins_item SpellsItem Parsing.item any no_item exact_item item_leads refl (λ o ok. refl) (λ o ok. refl) (λ o ok. not_true (begins_item o) ok)

pub exact_module : Exact SpellsModule Parsing.module_of any
unfolding Parsing.module_of
exact_module = said SpellsModule (λ y w s. s) (λ m w s. ((tt, (m.name, (m.head, (tt, (m.items, tt))))), refl, s))
    (field_any (exact_key key.Module) (λ _. field_any exact_name (λ n. field exact_head (λ h. field_any (exact_mark 59 refl) (λ _. field exact_items (λ is. last (λ _. record { name = n; head = h; items = is }) (exact_key key.Endmodule)) (λ x. meets_one (keyword key.Endmodule) refl))) (λ x. meets_token (mark 59) refl))))

pub module_leads : Leads (next_is (key_of key.Module)) true SpellsModule
module_leads m w s = lead_token (next_is (key_of key.Module)) true (keyword key.Module) refl w s

abbrev no_module : Option Word → Bool
no_module o = not (next_is (key_of key.Module) o)

pub exact_modules : Exact SpellsSource Parsing.modules no_module
unfolding Parsing.modules
exact_modules = exact_many (next_is (key_of key.Module)) SpellsModule Parsing.module_of any no_module exact_module (λ m w s. lead_token (next_is (key_of key.Module)) true (keyword key.Module) refl w s) refl (λ o ok. refl) (λ o ok. refl) (λ o ok. not_true (next_is (key_of key.Module) o) ok)
