-- Trees as clauses see them: names as lists of bytes, numbers, and lists of parts. Their cases are those of the code's types.
use Rattle.std.specs.Prelude.{ℕ, Bool, List, [], ◌∷◌, Option}
use Rattle.verilog_tree.specs.declared.tree.Dir.{Dir}

mutual
  pub data Expr : Type 0 where
    Name : List ℕ → Expr
    Bit : List ℕ → ℕ → Expr
    Part : List ℕ → ℕ → ℕ → Expr
    Join : Exprs → Expr

  pub data Exprs : Type 0 where
    end : Exprs
    more : Expr → Exprs → Exprs

abbrev pub listed : Exprs → List Expr
listed end = []
listed (more e es) = e ∷ listed es

abbrev pub gathered : List Expr → Exprs
gathered [] = end
gathered (e ∷ es) = more e (gathered es)

pub record NamedLink : Type 0 where
  pub name : List ℕ
  pub expr : Option Expr

pub data Links : Type 0 where
  Named : List NamedLink → Links
  Ordered : List (Option Expr) → Links

pub record Instance : Type 0 where
  pub name : List ℕ
  pub links : Links

pub data HeadPort : Type 0 where
  Full : Dir → Bool → Option (ℕ × ℕ) → List ℕ → HeadPort
  Bare : List ℕ → HeadPort

pub data Head : Type 0 where
  Plain : List (List ℕ) → Head
  Ports : List HeadPort → Head

pub data Item : Type 0 where
  PortItem : Dir → Bool → Option (ℕ × ℕ) → List (List ℕ) → Item
  Wires : Option (ℕ × ℕ) → List (List ℕ) → Item
  Assigns : List (Expr × Expr) → Item
  Instances : List ℕ → List Instance → Item

pub record Module : Type 0 where
  pub name : List ℕ
  pub head : Head
  pub items : List Item
