-- Which words spell a tree: the grammar of the subset, by cases on the tree (IEEE Std 1364-2005, annex A, cut down to structural text).
-- A language is a set of lists of words; `P ⨾ Q` is a text of P with one of Q behind it.
use Rattle.std.specs.Prelude.{◌≡◌, ℕ, zero, suc, Bool, true, false, List, [], ◌∷◌, Option, Some, None, ◌⊎◌}
use Rattle.verilog_tree.specs.declared.lexeme.Keyword.{Keyword}
use Rattle.verilog_tree.specs.declared.lexeme.Keyword.TheVariants as key
use Rattle.verilog_tree.specs.declared.tree.Dir.{Dir}
use Rattle.verilog_tree.specs.declared.tree.Dir.TheVariants as dir
use Rattle.verilog_tree.specs.Reading.{Both, Each, Perhaps}
use Rattle.verilog_tree.specs.Words.{Word, name, keyword, number, mark}
use Rattle.verilog_tree.specs.Trees.{Expr, Name, Bit, Part, Join, listed, NamedLink, Links, Named, Ordered, Instance, HeadPort, Full, Bare, Head, Plain, Ports, Item, PortItem, Wires, Assigns, Instances, Module}

infixr 3 ◌⨾◌
abbrev pub ◌⨾◌ : (List Word → Type 0) → (List Word → Type 0) → List Word → Type 0
P ⨾ Q = Both P Q

-- the marks
abbrev pub open_paren : Word
open_paren = mark 40

abbrev pub close_paren : Word
close_paren = mark 41

abbrev pub open_bracket : Word
open_bracket = mark 91

abbrev pub close_bracket : Word
close_bracket = mark 93

abbrev pub open_brace : Word
open_brace = mark 123

abbrev pub close_brace : Word
close_brace = mark 125

abbrev pub comma : Word
comma = mark 44

abbrev pub semicolon : Word
semicolon = mark 59

abbrev pub colon : Word
colon = mark 58

abbrev pub dot : Word
dot = mark 46

abbrev pub equals : Word
equals = mark 61

-- one word
abbrev pub Is : Word → List Word → Type 0
Is t w = w ≡ t ∷ []

abbrev pub Nothing : List Word → Type 0
Nothing w = w ≡ []

abbrev pub OneName : List ℕ → List Word → Type 0
OneName n = Is (name n)

-- a phrase with a comma before it
abbrev pub BehindComma : {A : Type 0} → (A → List Word → Type 0) → A → List Word → Type 0
BehindComma S a = Is comma ⨾ S a

-- one or more phrases, with commas between
abbrev pub Commas : {A : Type 0} → (A → List Word → Type 0) → List A → List Word → Type 0
Commas S [] w = ⊥
Commas S (a ∷ rest) w = (S a ⨾ Each (BehindComma S) rest) w

abbrev pub Names : List (List ℕ) → List Word → Type 0
Names = Commas OneName

-- a range: [ left : right ]
abbrev pub SpellsBounds : ℕ × ℕ → List Word → Type 0
SpellsBounds r = Is open_bracket ⨾ Is (number r.0) ⨾ Is colon ⨾ Is (number r.1) ⨾ Is close_bracket

abbrev pub SpellsRange : Option (ℕ × ℕ) → List Word → Type 0
SpellsRange = Perhaps SpellsBounds

-- the word wire, or nothing
abbrev pub SpellsWire : Bool → List Word → Type 0
SpellsWire false = Nothing
SpellsWire true = Is (keyword key.Wire)

abbrev pub dir_key : Dir → Keyword
dir_key dir.Input = key.Input
dir_key dir.Output = key.Output

-- input or output
abbrev pub SpellsDir : Dir → List Word → Type 0
SpellsDir d = Is (keyword (dir_key d))

-- An expression whose braces nest at most so deep: name, name[at], name[left:right] or {expr, ..} (A.8.1, A.8.4).
abbrev pub SpellsExpr : ℕ → Expr → List Word → Type 0
SpellsExpr d (Name n) w = Is (name n) w
SpellsExpr d (Bit n i) w = (Is (name n) ⨾ Is open_bracket ⨾ Is (number i) ⨾ Is close_bracket) w
SpellsExpr d (Part n i j) w = (Is (name n) ⨾ Is open_bracket ⨾ Is (number i) ⨾ Is colon ⨾ Is (number j) ⨾ Is close_bracket) w
SpellsExpr zero (Join es) w = ⊥
SpellsExpr (suc d) (Join es) w = (Is open_brace ⨾ Commas (λ e v. SpellsExpr d e v) (listed es) ⨾ Is close_brace) w

-- braces nest at most 64 deep
abbrev pub SpellsValue : Expr → List Word → Type 0
SpellsValue e w = SpellsExpr 64 e w

abbrev pub SpellsOptional : Option Expr → List Word → Type 0
SpellsOptional = Perhaps SpellsValue

-- a link by name: .pin(expr) or .pin() (A.4.1)
abbrev pub SpellsNamed : NamedLink → List Word → Type 0
SpellsNamed l = Is dot ⨾ Is (name l.name) ⨾ Is open_paren ⨾ SpellsOptional l.expr ⨾ Is close_paren

-- The links of an instance. None are spelled by nothing, so one empty ordered link alone is no tree.
abbrev pub SpellsLinks : Links → List Word → Type 0
SpellsLinks (Named links) = Commas SpellsNamed links
SpellsLinks (Ordered []) = Nothing
SpellsLinks (Ordered (None ∷ [])) = λ w. ⊥
SpellsLinks (Ordered (Some e ∷ [])) = Commas SpellsOptional (Some e ∷ [])
SpellsLinks (Ordered (l ∷ m ∷ links)) = Commas SpellsOptional (l ∷ m ∷ links)

-- name ( links )
abbrev pub SpellsInstance : Instance → List Word → Type 0
SpellsInstance i = Is (name i.name) ⨾ Is open_paren ⨾ SpellsLinks i.links ⨾ Is close_paren

-- a port of a head with its declaration
abbrev pub SpellsFull : HeadPort → List Word → Type 0
SpellsFull (Full d wire range n) = SpellsDir d ⨾ SpellsWire wire ⨾ SpellsRange range ⨾ Is (name n)
SpellsFull (Bare n) = λ w. ⊥

-- a further port of a head: with its declaration, or a name alone
abbrev pub SpellsPort : HeadPort → List Word → Type 0
SpellsPort (Full d wire range n) = SpellsFull (Full d wire range n)
SpellsPort (Bare n) = Is (name n)

-- What stands behind a module's name (A.1.4). No ports are spelled with parentheses or without. The first of declared ports has its declaration.
abbrev pub SpellsHead : Head → List Word → Type 0
SpellsHead (Plain []) w = Nothing w ⊎ (Is open_paren ⨾ Is close_paren) w
SpellsHead (Plain (n ∷ ns)) w = (Is open_paren ⨾ Names (n ∷ ns) ⨾ Is close_paren) w
SpellsHead (Ports []) w = ⊥
SpellsHead (Ports (p ∷ ps)) w = (Is open_paren ⨾ (SpellsFull p ⨾ Each (BehindComma SpellsPort) ps) ⨾ Is close_paren) w

-- what is set = what it is set from (A.6.1)
abbrev pub SpellsAssign : Expr × Expr → List Word → Type 0
SpellsAssign a = SpellsValue a.0 ⨾ Is equals ⨾ SpellsValue a.1

-- a declaration of ports or wires, assigns, or instances of one kind, up to the semicolon (A.2.1, A.4.1, A.6.1)
abbrev pub SpellsItem : Item → List Word → Type 0
SpellsItem (PortItem d wire range names) = SpellsDir d ⨾ SpellsWire wire ⨾ SpellsRange range ⨾ Names names ⨾ Is semicolon
SpellsItem (Wires range names) = Is (keyword key.Wire) ⨾ SpellsRange range ⨾ Names names ⨾ Is semicolon
SpellsItem (Assigns pairs) = Is (keyword key.Assign) ⨾ Commas SpellsAssign pairs ⨾ Is semicolon
SpellsItem (Instances kind instances) = Is (name kind) ⨾ Commas SpellsInstance instances ⨾ Is semicolon

-- module name head ; items endmodule (A.1.3)
abbrev pub SpellsModule : Module → List Word → Type 0
SpellsModule m = Is (keyword key.Module) ⨾ Is (name m.name) ⨾ SpellsHead m.head ⨾ Is semicolon ⨾ Each SpellsItem m.items ⨾ Is (keyword key.Endmodule)

-- a text: its modules in order
abbrev pub SpellsSource : List Module → List Word → Type 0
SpellsSource = Each SpellsModule
