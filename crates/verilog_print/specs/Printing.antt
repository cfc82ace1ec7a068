-- The words that are printed of a tree, by cases on it. They spell the tree; of the two spellings of a head without ports it is the one without parentheses.
use Rattle.std.specs.Prelude.{ℕ, Bool, true, false, List, [], ◌∷◌, ◌++◌, Option, Some, None}
use Rattle.verilog_tree.specs.declared.lexeme.Keyword.TheVariants as key
use Rattle.verilog_tree.specs.Words.{Word, name, keyword, number}
use Rattle.verilog_tree.specs.Trees.{Expr, Exprs, end, more, Name, Bit, Part, Join, NamedLink, Links, Named, Ordered, Instance, HeadPort, Full, Bare, Head, Plain, Ports, Item, PortItem, Wires, Assigns, Instances, Module}
use Rattle.verilog_tree.specs.Spelling.{dir_key, open_paren, close_paren, open_bracket, close_bracket, open_brace, close_brace, comma, semicolon, colon, dot, equals}

abbrev pub printed_each : {A : Type 0} → (A → List Word) → List A → List Word
printed_each f [] = []
printed_each f (x ∷ xs) = f x ++ printed_each f xs

-- a comma, and what is printed
abbrev pub behind : {A : Type 0} → (A → List Word) → A → List Word
behind f x = comma ∷ [] ++ f x

-- with commas between
abbrev pub printed_commas : {A : Type 0} → (A → List Word) → List A → List Word
printed_commas f [] = []
printed_commas f (x ∷ xs) = f x ++ printed_each (behind f) xs

abbrev pub printed_perhaps : {A : Type 0} → (A → List Word) → Option A → List Word
printed_perhaps f None = []
printed_perhaps f (Some x) = f x

abbrev pub printed_name : List ℕ → List Word
printed_name n = name n ∷ []

abbrev pub printed_bounds : ℕ × ℕ → List Word
printed_bounds r = open_bracket ∷ number r.0 ∷ colon ∷ number r.1 ∷ close_bracket ∷ []

abbrev pub printed_wire : Bool → List Word
printed_wire false = []
printed_wire true = keyword key.Wire ∷ []

abbrev mutual
  pub printed_expr : Expr → List Word
  printed_expr (Name n) = name n ∷ []
  printed_expr (Bit n i) = name n ∷ open_bracket ∷ number i ∷ close_bracket ∷ []
  printed_expr (Part n i j) = name n ∷ open_bracket ∷ number i ∷ colon ∷ number j ∷ close_bracket ∷ []
  printed_expr (Join es) = open_brace ∷ (printed_exprs es ++ close_brace ∷ [])

  pub printed_exprs : Exprs → List Word
  printed_exprs end = []
  printed_exprs (more e es) = printed_expr e ++ printed_others es

  pub printed_others : Exprs → List Word
  printed_others end = []
  printed_others (more e es) = (comma ∷ [] ++ printed_expr e) ++ printed_others es

abbrev pub printed_named : NamedLink → List Word
printed_named l = dot ∷ name l.name ∷ open_paren ∷ (printed_perhaps printed_expr l.expr ++ close_paren ∷ [])

abbrev pub printed_links : Links → List Word
printed_links (Named ls) = printed_commas printed_named ls
printed_links (Ordered ls) = printed_commas (printed_perhaps printed_expr) ls

abbrev pub printed_instance : Instance → List Word
printed_instance i = name i.name ∷ open_paren ∷ (printed_links i.links ++ close_paren ∷ [])

abbrev pub printed_port : HeadPort → List Word
printed_port (Full d b r n) = keyword (dir_key d) ∷ (printed_wire b ++ (printed_perhaps printed_bounds r ++ name n ∷ []))
printed_port (Bare n) = name n ∷ []

abbrev pub printed_head : Head → List Word
printed_head (Plain []) = []
printed_head (Plain (n ∷ ns)) = open_paren ∷ (printed_commas printed_name (n ∷ ns) ++ close_paren ∷ [])
printed_head (Ports ps) = open_paren ∷ (printed_commas printed_port ps ++ close_paren ∷ [])

abbrev pub printed_assign : Expr × Expr → List Word
printed_assign a = printed_expr a.0 ++ (equals ∷ printed_expr a.1)

abbrev pub printed_item : Item → List Word
printed_item (PortItem d b r ns) = keyword (dir_key d) ∷ (printed_wire b ++ (printed_perhaps printed_bounds r ++ (printed_commas printed_name ns ++ semicolon ∷ [])))
printed_item (Wires r ns) = keyword key.Wire ∷ (printed_perhaps printed_bounds r ++ (printed_commas printed_name ns ++ semicolon ∷ []))
printed_item (Assigns pairs) = keyword key.Assign ∷ (printed_commas printed_assign pairs ++ semicolon ∷ [])
printed_item (Instances kind is) = name kind ∷ (printed_commas printed_instance is ++ semicolon ∷ [])

abbrev pub printed_module : Module → List Word
printed_module m = keyword key.Module ∷ name m.name ∷ (printed_head m.head ++ (semicolon ∷ (printed_each printed_item m.items ++ keyword key.Endmodule ∷ [])))

-- the modules of a text
abbrev pub printed : List Module → List Word
printed ms = printed_each printed_module ms
