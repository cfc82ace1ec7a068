-- Reading a tree from the left, phrase by phrase, with one word of look-ahead: what the methods of the reader compute. It serves the proofs.
-- The meaning is specs/Spelling; proofs/Phrases shows that each reading here is exact for it.
use Rattle.std.specs.Prelude.{ℕ, zero, suc, Bool, true, false, cond, List, [], ◌∷◌, length, Option, Some, None, Result, Ok, Err}
use Rattle.verilog_tree.specs.declared.lexeme.Keyword.TheVariants as key
use Rattle.verilog_tree.specs.Reading.{◌>>=◌, first, one, many}
use Rattle.verilog_tree.specs.Words.{Word, mark_of, key_of, name_of, number_of, dir_of, next_is, is_mark, begins_item, begins_expr}
use Rattle.verilog_tree.specs.Trees.{Expr, Name, Bit, Part, Join, gathered, NamedLink, Links, Named, Ordered, Instance, HeadPort, Full, Bare, Head, Plain, Ports, Item, PortItem, Wires, Assigns, Instances, Module}

abbrev pub Read : Type 0 → Type 0
Read A = List Word → Result (A × List Word) ℕ

-- a comma and a phrase
abbrev pub behind_comma : {A : Type 0} → Read A → Read A
behind_comma read ts = do
  comma ← one (mark_of 44) ts
  read comma.1

-- as many of these as there are
abbrev pub more_commas : {A : Type 0} → Read A → Read (List A)
more_commas read ts = many (is_mark 44) (behind_comma read) (length ts) ts

-- one or more phrases, with commas between
unfoldable pub commas : {A : Type 0} → Read A → Read (List A)
commas read ts = do
  x ← read ts
  xs ← more_commas read x.1
  Ok (x.0 ∷ xs.0, xs.1)

-- one or more names
unfoldable pub names : Read (List (List ℕ))
names ts = commas (one name_of) ts

unfoldable pub range_in : Read (ℕ × ℕ)
range_in ts = do
  bracket ← one (mark_of 91) ts
  left ← one number_of bracket.1
  colon ← one (mark_of 58) left.1
  right ← one number_of colon.1
  close ← one (mark_of 93) right.1
  Ok ((left.0, right.0), close.1)

unfoldable pub range : Read (Option (ℕ × ℕ))
range ts = cond (is_mark 91 (first ts)) (do
  r ← range_in ts
  Ok (Some r.0, r.1)) (Ok (None, ts))

unfoldable pub wire_word : Read Bool
wire_word ts = cond (next_is (key_of key.Wire) (first ts)) (do
  w ← one (key_of key.Wire) ts
  Ok (true, w.1)) (Ok (false, ts))

-- what stands behind the first number of a select
unfoldable pub part_end : List ℕ → ℕ → Read Expr
part_end n i ts = cond (is_mark 58 (first ts)) (do
  colon ← one (mark_of 58) ts
  right ← one number_of colon.1
  close ← one (mark_of 93) right.1
  Ok (Part n i right.0, close.1)) (do
    close ← one (mark_of 93) ts
    Ok (Bit n i, close.1))

-- what stands behind a name
unfoldable pub select : List ℕ → Read Expr
select n ts = cond (is_mark 91 (first ts)) (do
  bracket ← one (mark_of 91) ts
  left ← one number_of bracket.1
  part_end n left.0 left.1) (Ok (Name n, ts))

unfoldable pub plain : Read Expr
plain ts = do
  n ← one name_of ts
  select n.0 n.1

unfoldable pub braces : Read Expr → Read Expr
braces read ts = do
  brace ← one (mark_of 123) ts
  es ← commas read brace.1
  close ← one (mark_of 125) es.1
  Ok (Join (gathered es.0), close.1)

-- braces nest at most so deep
abbrev pub expr : ℕ → Read Expr
expr zero ts = plain ts
expr (suc d) ts = cond (is_mark 123 (first ts)) (braces (λ us. expr d us) ts) (plain ts)

unfoldable pub value : Read Expr
value ts = expr 64 ts

unfoldable pub optional : Read (Option Expr)
optional ts = cond (begins_expr (first ts)) (do
  e ← value ts
  Ok (Some e.0, e.1)) (Ok (None, ts))

unfoldable pub named : Read NamedLink
named ts = do
  dot ← one (mark_of 46) ts
  n ← one name_of dot.1
  paren ← one (mark_of 40) n.1
  e ← optional paren.1
  close ← one (mark_of 41) e.1
  Ok (record { name = n.0; expr = e.0 }, close.1)

-- one or more ordered links, of which one alone is not empty
unfoldable pub ordered : Read (List (Option Expr))
ordered ts = cond (begins_expr (first ts)) (do
  e ← value ts
  more ← more_commas optional e.1
  Ok (Some e.0 ∷ more.0, more.1)) (do
    second ← behind_comma optional ts
    more ← more_commas optional second.1
    Ok (None ∷ second.0 ∷ more.0, more.1))

unfoldable pub links : Read Links
links ts = cond (is_mark 46 (first ts)) (do
  ls ← commas named ts
  Ok (Named ls.0, ls.1)) (cond (is_mark 41 (first ts)) (Ok (Ordered [], ts)) (do
    ls ← ordered ts
    Ok (Ordered ls.0, ls.1)))

unfoldable pub instance : Read Instance
instance ts = do
  n ← one name_of ts
  paren ← one (mark_of 40) n.1
  ls ← links paren.1
  close ← one (mark_of 41) ls.1
  Ok (record { name = n.0; links = ls.0 }, close.1)

unfoldable pub full : Read HeadPort
full ts = do
  d ← one dir_of ts
  w ← wire_word d.1
  r ← range w.1
  n ← one name_of r.1
  Ok (Full d.0 w.0 r.0 n.0, n.1)

unfoldable pub port : Read HeadPort
port ts = cond (next_is name_of (first ts)) (do
  n ← one name_of ts
  Ok (Bare n.0, n.1)) (full ts)

unfoldable pub ports : Read Head
ports ts = do
  p ← full ts
  ps ← more_commas port p.1
  Ok (Ports (p.0 ∷ ps.0), ps.1)

-- what stands in the parentheses of a head
unfoldable pub inside : Read Head
inside ts = cond (is_mark 41 (first ts)) (Ok (Plain [], ts)) (cond (next_is name_of (first ts)) (do
  ns ← names ts
  Ok (Plain ns.0, ns.1)) (ports ts))

unfoldable pub head : Read Head
head ts = cond (is_mark 40 (first ts)) (do
  paren ← one (mark_of 40) ts
  h ← inside paren.1
  close ← one (mark_of 41) h.1
  Ok (h.0, close.1)) (Ok (Plain [], ts))

unfoldable pub assign : Read (Expr × Expr)
assign ts = do
  to ← value ts
  equals ← one (mark_of 61) to.1
  from ← value equals.1
  Ok ((to.0, from.0), from.1)

unfoldable pub port_item : Read Item
port_item ts = do
  d ← one dir_of ts
  w ← wire_word d.1
  r ← range w.1
  ns ← names r.1
  close ← one (mark_of 59) ns.1
  Ok (PortItem d.0 w.0 r.0 ns.0, close.1)

unfoldable pub wires : Read Item
wires ts = do
  w ← one (key_of key.Wire) ts
  r ← range w.1
  ns ← names r.1
  close ← one (mark_of 59) ns.1
  Ok (Wires r.0 ns.0, close.1)

unfoldable pub assigns : Read Item
assigns ts = do
  word ← one (key_of key.Assign) ts
  pairs ← commas assign word.1
  close ← one (mark_of 59) pairs.1
  Ok (Assigns pairs.0, close.1)

unfoldable pub instances : Read Item
instances ts = do
  kind ← one name_of ts
  is ← commas instance kind.1
  close ← one (mark_of 59) is.1
  Ok (Instances kind.0 is.0, close.1)

unfoldable pub item : Read Item
item ts = cond (next_is dir_of (first ts)) (port_item ts) (cond (next_is (key_of key.Wire) (first ts)) (wires ts) (cond (next_is (key_of key.Assign) (first ts)) (assigns ts) (instances ts)))

unfoldable pub module_of : Read Module
module_of ts = do
  word ← one (key_of key.Module) ts
  n ← one name_of word.1
  h ← head n.1
  semicolon ← one (mark_of 59) h.1
  is ← many begins_item item (length semicolon.1) semicolon.1
  close ← one (key_of key.Endmodule) is.1
  Ok (record { name = n.0; head = h.0; items = is.0 }, close.1)

unfoldable pub modules : Read (List Module)
modules ts = many (next_is (key_of key.Module)) module_of (length ts) ts

-- all of the tokens
abbrev pub whole : {A : Type 0} → A × List Word → Result A ℕ
whole (a, []) = Ok a
whole (a, t ∷ ts) = Err (suc (length ts))

unfoldable pub source : List Word → Result (List Module) ℕ
source ts = modules ts >>= whole
