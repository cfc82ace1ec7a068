-- A walk over the words that spell a tree.
use Rattle.std.proofs.Common.{◌≤◌, ◌+◌, ℕ, zero, suc, Bool, List, [], ◌∷◌, ◌++◌, map, Option, Some, None, subst}
use Rattle.std.specs.Prelude.{⊤}
use Rattle.std.specs.List.{All, flat_map, enumerate_from}
use Rattle.std.proofs.lemmas.List.Elements.{All-nil, All-cons}
use Rattle.verilog_lex.specs.declared.token.TokenKind.{TokenKind}
use Rattle.verilog_lex.specs.declared.token.TokenKind.TheVariants as kind
use Rattle.verilog_lex.specs.Words as lex
use Rattle.verilog_tree.specs.Reading.{Both, Each}
use Rattle.verilog_tree.specs.Words.{Word, name, keyword, number, mark, word_of, meaning}
use Rattle.verilog_tree.specs.Spelling as spell
use Rattle.verilog_tree.specs.Trees as tree
use Rattle.bind_sites.specs.Sites.{Operand, Site, Listed, Port, Wire, Assigned, Linked, operands, operands_in, is_output, port_sites, full_sites, head_sites, assign_sites, linked_sites, named_sites, ordered_sites, link_sites, instance_sites, item_sites, sites}
use Rattle.bind_sites.specs.Small.{AreSmall, HasSmall, NumbersAreSmall}

-- ---- words

abbrev Small : Word → Type 0
Small (name n) = ⊤
Small (keyword k) = ⊤
Small (number n) = n ≤ 999999999
Small (mark c) = ⊤

-- a fact of each element
abbrev Every : {A : Type 0} → (A → Type 0) → List A → Type 0
Every P [] = ⊤
Every P (a ∷ items) = P a × Every P items

every_front : {A : Type 0} (P : A → Type 0) (a b : List A) → Every P (a ++ b) → Every P a
every_front P [] b h = tt
every_front P (x ∷ a) b h = (h.0, every_front P a b h.1)

every_back : {A : Type 0} (P : A → Type 0) (a b : List A) → Every P (a ++ b) → Every P b
every_back P [] b h = h
every_back P (x ∷ a) b h = every_back P a b h.1

every_both : {A : Type 0} (P : A → Type 0) (a b : List A) → Every P a → Every P b → Every P (a ++ b)
every_both P [] b g h = h
every_both P (x ∷ a) b g h = (g.0, every_both P a b g.1 h)

every_all : {A : Type 0} (P : A → Type 0) (items : List A) → Every P items → All P items
every_all P [] h = All-nil P
every_all P (a ∷ items) h = All-cons P a items h.0 (every_all P items h.1)

meaning_small : (k : TokenKind) (w : List ℕ) → lex.IsSpelled k w → Small (word_of k w)
meaning_small kind.Name w s = tt
meaning_small kind.Escaped w s = tt
meaning_small kind.Reserved w s = tt
meaning_small kind.Number w s = s.1
meaning_small kind.Mark w s = tt

meanings_small : (ws : List lex.Word) → lex.AreSpelled ws → Every Small (map meaning ws)
meanings_small [] s = tt
meanings_small (w ∷ ws) s = (meaning_small w.kind w.bytes s.0, meanings_small ws s.1)

-- ---- phrases

front_of : (S Q : List Word → Type 0) (w : List Word) (b : Both S Q w) → Every Small w → Every Small b.front
front_of S Q w b s = every_front Small b.front b.back (subst (λ (v : List Word). Every Small v) b.parts s)

back_of : (S Q : List Word → Type 0) (w : List Word) (b : Both S Q w) → Every Small w → Every Small b.back
back_of S Q w b s = every_back Small b.front b.back (subst (λ (v : List Word). Every Small v) b.parts s)

number_small : (n : ℕ) (w : List Word) → spell.Is (number n) w → Every Small w → n ≤ 999999999
number_small n w is s =
    let one : Every Small (number n ∷ []) = subst (λ (v : List Word). Every Small v) is s in
    one.0

-- small words of a phrase make the fact
abbrev Tells : {A : Type 0} → (A → List Word → Type 0) → (A → Type 0) → Type 0
Tells {A} S P = (a : A) (w : List Word) → S a w → Every Small w → P a

tells_each : {A : Type 0} (S : A → List Word → Type 0) (P : A → Type 0) → Tells S P → (items : List A) (w : List Word) → Each S items w → Every Small w → Every P items
tells_each S P f [] w e s = tt
tells_each S P f (a ∷ items) w e s = (f a e.front e.first_is (front_of (S a) (Each S items) w e s), tells_each S P f items e.back e.then_is (back_of (S a) (Each S items) w e s))

tells_behind : {A : Type 0} (S : A → List Word → Type 0) (P : A → Type 0) → Tells S P → Tells (spell.BehindComma S) P
tells_behind S P f a w b s = f a b.back b.then_is (back_of (spell.Is spell.comma) (S a) w b s)

tells_commas : {A : Type 0} (S : A → List Word → Type 0) (P : A → Type 0) → Tells S P → (items : List A) (w : List Word) → spell.Commas S items w → Every Small w → Every P items
tells_commas S P f [] w e s = absurd e
tells_commas S P f (a ∷ items) w e s = (
  f a e.front e.first_is (front_of (S a) (Each (spell.BehindComma S) items) w e s),
  tells_each (spell.BehindComma S) P (tells_behind S P f) items e.back e.then_is (back_of (S a) (Each (spell.BehindComma S) items) w e s),
)

-- ---- ranges

bounds_small : (r : ℕ × ℕ) (w : List Word) → spell.SpellsBounds r w → Every Small w → AreSmall (Some r)
bounds_small r w b s =
    let left = b.then_is in
    let colon = left.then_is in
    let right = colon.then_is in
    let s_left = every_back Small b.front b.back (subst (λ (v : List Word). Every Small v) b.parts s) in
    let s_number = every_front Small left.front left.back (subst (λ (v : List Word). Every Small v) left.parts s_left) in
    let s_colon = every_back Small left.front left.back (subst (λ (v : List Word). Every Small v) left.parts s_left) in
    let s_right = every_back Small colon.front colon.back (subst (λ (v : List Word). Every Small v) colon.parts s_colon) in
    let s_last = every_front Small right.front right.back (subst (λ (v : List Word). Every Small v) right.parts s_right) in
    (number_small r.0 left.front left.first_is s_number, number_small r.1 right.front right.first_is s_last)

range_small : (r : Option (ℕ × ℕ)) (w : List Word) → spell.SpellsRange r w → Every Small w → AreSmall r
range_small None w h s = tt
range_small (Some r) w h s = bounds_small r w h s

-- ---- expressions

abbrev OperandSmall : Operand → Type 0
OperandSmall o = AreSmall o.select

abbrev ExprSmall : tree.Expr → Type 0
ExprSmall e = Every OperandSmall (operands e)

mutual
  expr_small : (d : ℕ) (e : tree.Expr) (w : List Word) → spell.SpellsExpr d e w → Every Small w → ExprSmall e
  expr_small d (tree.Name n) w h s = (tt, tt)
  expr_small d (tree.Bit n i) w h s =
      let opening = h.then_is in
      let at = opening.then_is in
      let s_open = every_back Small h.front h.back (subst (λ (v : List Word). Every Small v) h.parts s) in
      let s_at = every_back Small opening.front opening.back (subst (λ (v : List Word). Every Small v) opening.parts s_open) in
      let small = number_small i at.front at.first_is (every_front Small at.front at.back (subst (λ (v : List Word). Every Small v) at.parts s_at)) in
      ((small, small), tt)
  expr_small d (tree.Part n i j) w h s =
      (bounds_small (i, j) h.back h.then_is (every_back Small h.front h.back (subst (λ (v : List Word). Every Small v) h.parts s)), tt)
  expr_small zero (tree.Join es) w h s = absurd h
  expr_small (suc d) (tree.Join es) w h s =
      let inner = h.then_is in
      let s_inner = every_back Small h.front h.back (subst (λ (v : List Word). Every Small v) h.parts s) in
      exprs_small d es inner.front inner.first_is (every_front Small inner.front inner.back (subst (λ (v : List Word). Every Small v) inner.parts s_inner))

  exprs_small : (d : ℕ) (es : tree.Exprs) (w : List Word) → spell.Commas (λ e v. spell.SpellsExpr d e v) (tree.listed es) w → Every Small w → Every OperandSmall (operands_in es)
  exprs_small d tree.end w h s = absurd h
  exprs_small d (tree.more e es) w h s = every_both OperandSmall (operands e) (operands_in es)
      (expr_small d e h.front h.first_is (every_front Small h.front h.back (subst (λ (v : List Word). Every Small v) h.parts s)))
      (others_small d es h.back h.then_is (every_back Small h.front h.back (subst (λ (v : List Word). Every Small v) h.parts s)))

  others_small : (d : ℕ) (es : tree.Exprs) (w : List Word) → Each (spell.BehindComma (λ e v. spell.SpellsExpr d e v)) (tree.listed es) w → Every Small w → Every OperandSmall (operands_in es)
  others_small d tree.end w h s = tt
  others_small d (tree.more e es) w h s =
      let behind = h.first_is in
      let s_behind = every_front Small h.front h.back (subst (λ (v : List Word). Every Small v) h.parts s) in
      every_both OperandSmall (operands e) (operands_in es)
      (expr_small d e behind.back behind.then_is (every_back Small behind.front behind.back (subst (λ (v : List Word). Every Small v) behind.parts s_behind)))
      (others_small d es h.back h.then_is (every_back Small h.front h.back (subst (λ (v : List Word). Every Small v) h.parts s)))

abbrev OptionalSmall : Option tree.Expr → Type 0
OptionalSmall None = ⊤
OptionalSmall (Some e) = ExprSmall e

optional_small : (o : Option tree.Expr) (w : List Word) → spell.SpellsOptional o w → Every Small w → OptionalSmall o
optional_small None w h s = tt
optional_small (Some e) w h s = expr_small 64 e w h s

-- ---- sites

assigned_small : (os : List Operand) → Every OperandSmall os → Every HasSmall (map Assigned os)
assigned_small [] h = tt
assigned_small (o ∷ os) h = (h.0, assigned_small os h.1)

linked_small : (os : List Operand) → Every OperandSmall os → Every HasSmall (map Linked os)
linked_small [] h = tt
linked_small (o ∷ os) h = (h.0, linked_small os h.1)

flat_small : {A : Type 0} (f : A → List Site) (items : List A) → Every (λ a. Every HasSmall (f a)) items → Every HasSmall (flat_map f items)
flat_small f [] h = tt
flat_small f (a ∷ items) h = every_both HasSmall (f a) (flat_map f items) h.0 (flat_small f items h.1)

link_small : (o : Option tree.Expr) → OptionalSmall o → Every HasSmall (linked_sites o)
link_small None h = tt
link_small (Some e) h = linked_small (operands e) h

named_small : (kind : List ℕ) (l : tree.NamedLink) (w : List Word) → spell.SpellsNamed l w → Every Small w → Every HasSmall (named_sites kind l)
named_small kind l w h s =
    let port = h.then_is in
    let opening = port.then_is in
    let expr = opening.then_is in
    let s_port = every_back Small h.front h.back (subst (λ (v : List Word). Every Small v) h.parts s) in
    let s_open = every_back Small port.front port.back (subst (λ (v : List Word). Every Small v) port.parts s_port) in
    let s_expr = every_back Small opening.front opening.back (subst (λ (v : List Word). Every Small v) opening.parts s_open) in
    let s_in = every_front Small expr.front expr.back (subst (λ (v : List Word). Every Small v) expr.parts s_expr) in
    (tt, link_small l.expr (optional_small l.expr expr.front expr.first_is s_in))

ordered_small : (kind : List ℕ) (at : ℕ) (links : List (Option tree.Expr)) → Every OptionalSmall links → Every HasSmall (flat_map (ordered_sites kind) (enumerate_from at links))
ordered_small kind at [] h = tt
ordered_small kind at (o ∷ links) h = (tt, every_both HasSmall (linked_sites o) (flat_map (ordered_sites kind) (enumerate_from (at + 1) links)) (link_small o h.0) (ordered_small kind (at + 1) links h.1))

links_small : (kind : List ℕ) (links : tree.Links) (w : List Word) → spell.SpellsLinks links w → Every Small w → Every HasSmall (link_sites kind links)
links_small kind (tree.Named links) w h s = flat_small (named_sites kind) links (tells_commas spell.SpellsNamed (λ l. Every HasSmall (named_sites kind l)) (named_small kind) links w h s)
links_small kind (tree.Ordered []) w h s = tt
links_small kind (tree.Ordered (None ∷ [])) w h s = absurd h
links_small kind (tree.Ordered (Some e ∷ [])) w h s = ordered_small kind 0 (Some e ∷ []) (tells_commas spell.SpellsOptional OptionalSmall optional_small (Some e ∷ []) w h s)
links_small kind (tree.Ordered (l ∷ m ∷ links)) w h s = ordered_small kind 0 (l ∷ m ∷ links) (tells_commas spell.SpellsOptional OptionalSmall optional_small (l ∷ m ∷ links) w h s)

instance_small : (kind : List ℕ) (i : tree.Instance) (w : List Word) → spell.SpellsInstance i w → Every Small w → Every HasSmall (instance_sites kind i)
instance_small kind i w h s =
    let opening = h.then_is in
    let links = opening.then_is in
    let s_open = every_back Small h.front h.back (subst (λ (v : List Word). Every Small v) h.parts s) in
    let s_links = every_back Small opening.front opening.back (subst (λ (v : List Word). Every Small v) opening.parts s_open) in
    (tt, links_small kind i.links links.front links.first_is (every_front Small links.front links.back (subst (λ (v : List Word). Every Small v) links.parts s_links)))

assign_small : (a : tree.Expr × tree.Expr) (w : List Word) → spell.SpellsAssign a w → Every Small w → Every HasSmall (assign_sites a)
assign_small a w h s =
    let from = h.then_is in
    let s_to = every_front Small h.front h.back (subst (λ (v : List Word). Every Small v) h.parts s) in
    let s_from = every_back Small h.front h.back (subst (λ (v : List Word). Every Small v) h.parts s) in
    let s_last = every_back Small from.front from.back (subst (λ (v : List Word). Every Small v) from.parts s_from) in (
      tt,
      every_both HasSmall (map Assigned (operands a.0)) (map Assigned (operands a.1)) (assigned_small (operands a.0) (expr_small 64 a.0 h.front h.first_is s_to))
          (assigned_small (operands a.1) (expr_small 64 a.1 from.back from.then_is s_last)),
    )

ports_small : (output : Bool) (range : Option (ℕ × ℕ)) (names : List (List ℕ)) → AreSmall range → Every HasSmall (map (λ n. Port n output range) names)
ports_small output range [] h = tt
ports_small output range (n ∷ names) h = (h, ports_small output range names h)

wires_small : (range : Option (ℕ × ℕ)) (names : List (List ℕ)) → AreSmall range → Every HasSmall (map (λ n. Wire n range) names)
wires_small range [] h = tt
wires_small range (n ∷ names) h = (h, wires_small range names h)

item_small : (i : tree.Item) (w : List Word) → spell.SpellsItem i w → Every Small w → Every HasSmall (item_sites i)
item_small (tree.PortItem d wire range names) w h s =
    let word = h.then_is in
    let ends = word.then_is in
    let s_word = every_back Small h.front h.back (subst (λ (v : List Word). Every Small v) h.parts s) in
    let s_ends = every_back Small word.front word.back (subst (λ (v : List Word). Every Small v) word.parts s_word) in
    ports_small (is_output d) range names (range_small range ends.front ends.first_is (every_front Small ends.front ends.back (subst (λ (v : List Word). Every Small v) ends.parts s_ends)))
item_small (tree.Wires range names) w h s =
    let ends = h.then_is in
    let s_ends = every_back Small h.front h.back (subst (λ (v : List Word). Every Small v) h.parts s) in
    wires_small range names (range_small range ends.front ends.first_is (every_front Small ends.front ends.back (subst (λ (v : List Word). Every Small v) ends.parts s_ends)))
item_small (tree.Assigns pairs) w h s =
    let all = h.then_is in
    let s_all = every_back Small h.front h.back (subst (λ (v : List Word). Every Small v) h.parts s) in
    flat_small assign_sites pairs (tells_commas spell.SpellsAssign (λ a. Every HasSmall (assign_sites a)) assign_small pairs all.front all.first_is (every_front Small all.front all.back (subst (λ (v : List Word). Every Small v) all.parts s_all)))
item_small (tree.Instances kind instances) w h s =
    let all = h.then_is in
    let s_all = every_back Small h.front h.back (subst (λ (v : List Word). Every Small v) h.parts s) in
    flat_small (instance_sites kind) instances (tells_commas spell.SpellsInstance (λ i. Every HasSmall (instance_sites kind i)) (instance_small kind) instances all.front all.first_is (every_front Small all.front all.back (subst (λ (v : List Word). Every Small v) all.parts s_all)))

-- ---- heads

-- what is said of the port before
abbrev SaidSmall : Option (Bool × Option (ℕ × ℕ)) → Type 0
SaidSmall None = ⊤
SaidSmall (Some said) = AreSmall said.1

port_small : (said : Option (Bool × Option (ℕ × ℕ))) (n : List ℕ) → SaidSmall said → Every HasSmall (port_sites said n)
port_small None n h = (tt, tt)
port_small (Some said) n h = (tt, (h, tt))

-- the range of a port with its declaration
abbrev FullSmall : tree.HeadPort → Type 0
FullSmall (tree.Full d wire range n) = AreSmall range
FullSmall (tree.Bare n) = ⊤

full_small : (p : tree.HeadPort) (w : List Word) → spell.SpellsFull p w → Every Small w → FullSmall p
full_small (tree.Bare n) w h s = absurd h
full_small (tree.Full d wire range n) w h s =
    let word = h.then_is in
    let ends = word.then_is in
    let s_word = every_back Small h.front h.back (subst (λ (v : List Word). Every Small v) h.parts s) in
    let s_ends = every_back Small word.front word.back (subst (λ (v : List Word). Every Small v) word.parts s_word) in
    range_small range ends.front ends.first_is (every_front Small ends.front ends.back (subst (λ (v : List Word). Every Small v) ends.parts s_ends))

later_small : (p : tree.HeadPort) (w : List Word) → spell.SpellsPort p w → Every Small w → FullSmall p
later_small (tree.Full d wire range n) w h s = full_small (tree.Full d wire range n) w h s
later_small (tree.Bare n) w h s = tt

fulls_small : (said : Option (Bool × Option (ℕ × ℕ))) (ports : List tree.HeadPort) → SaidSmall said → Every FullSmall ports → Every HasSmall (full_sites said ports)
fulls_small said [] before h = tt
fulls_small said (tree.Full d wire range n ∷ ports) before h = every_both HasSmall (port_sites (Some (is_output d, range)) n) (full_sites (Some (is_output d, range)) ports)
    (port_small (Some (is_output d, range)) n h.0) (fulls_small (Some (is_output d, range)) ports h.0 h.1)
fulls_small said (tree.Bare n ∷ ports) before h = every_both HasSmall (port_sites said n) (full_sites said ports) (port_small said n before) (fulls_small said ports before h.1)

listed_small : (names : List (List ℕ)) → Every HasSmall (map Listed names)
listed_small [] = tt
listed_small (n ∷ names) = (tt, listed_small names)

head_small : (head : tree.Head) (w : List Word) → spell.SpellsHead head w → Every Small w → Every HasSmall (head_sites head)
head_small (tree.Plain []) w h s = tt
head_small (tree.Plain (n ∷ names)) w h s = listed_small (n ∷ names)
head_small (tree.Ports []) w h s = absurd h
head_small (tree.Ports (p ∷ ports)) w h s =
    let inner = h.then_is in
    let all = inner.first_is in
    let s_inner = every_back Small h.front h.back (subst (λ (v : List Word). Every Small v) h.parts s) in
    let s_all = every_front Small inner.front inner.back (subst (λ (v : List Word). Every Small v) inner.parts s_inner) in
    let s_first = every_front Small all.front all.back (subst (λ (v : List Word). Every Small v) all.parts s_all) in
    let s_rest = every_back Small all.front all.back (subst (λ (v : List Word). Every Small v) all.parts s_all) in
    fulls_small None (p ∷ ports) tt
    (full_small p all.front all.first_is s_first, tells_each (spell.BehindComma spell.SpellsPort) FullSmall (tells_behind spell.SpellsPort FullSmall later_small) ports all.back all.then_is s_rest)

-- ---- modules

module_small : (m : tree.Module) (w : List Word) → spell.SpellsModule m w → Every Small w → Every HasSmall (sites m)
module_small m w h s =
    let title = h.then_is in
    let head = title.then_is in
    let semicolon = head.then_is in
    let items = semicolon.then_is in
    let s_title = every_back Small h.front h.back (subst (λ (v : List Word). Every Small v) h.parts s) in
    let s_head = every_back Small title.front title.back (subst (λ (v : List Word). Every Small v) title.parts s_title) in
    let s_ports = every_front Small head.front head.back (subst (λ (v : List Word). Every Small v) head.parts s_head) in
    let s_semicolon = every_back Small head.front head.back (subst (λ (v : List Word). Every Small v) head.parts s_head) in
    let s_items = every_back Small semicolon.front semicolon.back (subst (λ (v : List Word). Every Small v) semicolon.parts s_semicolon) in
    let s_each = every_front Small items.front items.back (subst (λ (v : List Word). Every Small v) items.parts s_items) in (
      tt,
      every_both HasSmall (head_sites m.head) (flat_map item_sites m.items) (head_small m.head head.front head.first_is s_ports)
          (flat_small item_sites m.items (tells_each spell.SpellsItem (λ i. Every HasSmall (item_sites i)) item_small m.items items.front items.first_is s_each)),
    )

modules_small : (ms : List tree.Module) → Every (λ m. Every HasSmall (sites m)) ms → Every (λ m. All HasSmall (sites m)) ms
modules_small [] h = tt
modules_small (m ∷ ms) h = (every_all HasSmall (sites m) h.0, modules_small ms h.1)

pub numbers : NumbersAreSmall
numbers ms spelled = every_all (λ m. All HasSmall (sites m)) ms
    (modules_small ms (tells_each spell.SpellsModule (λ m. Every HasSmall (sites m)) module_small ms (map meaning spelled.tokens) spelled.spelled (meanings_small spelled.tokens spelled.good)))
