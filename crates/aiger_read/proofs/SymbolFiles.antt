-- Symbol lines, read and written.
use Rattle.std.proofs.Common.{◌≡◌, ◌≢◌, ◌⊎◌, ◌∙◌, inl, inr, ◌<◌, ◌≤◌, ◌+◌, ◌==◌, ℕ, Bool, true, false, cond, zero, suc, refl, ap, sym, subst, arith, List, [], ◌∷◌, ◌++◌, length, length-append, length-drop, take, drop, Option, None, Some, Ok}
use Rattle.std.specs.Prelude.{◌&&◌, ◌||◌, not, slice_get, slice_set}
use Rattle.std.specs.List.{list_any}
use Rattle.std.specs.Option.{option_map}
use Rattle.std.specs.Str.{IsUtf8, is_utf8, bytes_eq}
use Rattle.std.proofs.lemmas.Bool.{eqb-true, eqb-false, ne_eqb}
use Rattle.std.proofs.lemmas.List.{take-append-drop}
use Rattle.std.proofs.lemmas.Str.{IsUtf8-from_is_utf8, is_utf8-from_IsUtf8}
use Rattle.std.proofs.lemmas.Slice.Eq.{bytes_eq-Decides}
use Rattle.aiger_parts.specs.Reading.{◌>>=◌, field_length, number_of}
use Rattle.aiger_parts.specs.Symbols.{Entries, line_length, name_of, named, symbol_of, put_free, with_symbol, with_line, line_or, line_at, ends_symbols, symbols_at}
use Rattle.aiger_read.specs.Spelling.{WritesNumber}
use Rattle.aiger_read.specs.Spelled.{IsSymbolLine}
use Rattle.aiger_read.proofs.WellFormed.{given, same_value, bind_ok}
use Rattle.aiger_read.proofs.Numbers.{numbers}
use Rattle.aiger_read.proofs.FileLines.{IsTail, LineAt, LinesAt, IsOneLine, lines_none, line_front, line_is, line_behind, one_line, take_front, drop_front}
use Rattle.aiger_read.proofs.FieldTexts.{field_ends, field_one_line}

-- ---- one line

pub symbol_pair : ℕ → List ℕ → ℕ × List ℕ
symbol_pair place name = (place, name)

some_symbol : Option (ℕ × List ℕ) → ℕ × List ℕ
some_symbol None = (0, [])
some_symbol (Some x) = x

pub same_symbol : (p q : ℕ) (n m : List ℕ) → Some (symbol_pair p n) ≡ Some (symbol_pair q m) → (p ≡ q) × (n ≡ m)
unfolding some_symbol symbol_pair
same_symbol p q n m e = (ap (λ (o : Option (ℕ × List ℕ)). (some_symbol o).0) e, ap (λ (o : Option (ℕ × List ℕ)). (some_symbol o).1) e)

record IsNamed (name other : List ℕ) : Type 0 where
  same : name ≡ other
  some : 0 < length name
  utf8 : IsUtf8 name

some_name : Option (List ℕ) → List ℕ
some_name None = []
some_name (Some x) = x

name_read : (name other : List ℕ) → name_of name ≡ Some other → IsNamed name other
unfolding name_of some_name
name_read name other e = go (length name == 0) (is_utf8 name) refl refl e where
  go : (a b : Bool) → (length name == 0) ≡ a → is_utf8 name ≡ b → cond (not a && b) (Some name) None ≡ Some other → IsNamed name other
  go true b a_is b_is h = absurd cc
  go false false a_is b_is h = absurd cc
  go false true a_is b_is h =
      let ne : length name ≢ 0 = eqb-false (length name) 0 a_is in
      let lt : 0 < length name = (let l = length name in omega arith) in
      record { same = ap some_name h; some = lt; utf8 = IsUtf8-from_is_utf8 name b_is }

-- Behind its first byte a symbol line is a number, a space and a name.
record IsSymbolRest (place : ℕ) (name bytes : List ℕ) : Type 0 where
  number : List ℕ
  parts : bytes ≡ number ++ 32 ∷ name
  writes : WritesNumber number place
  some : 0 < length name
  utf8 : IsUtf8 name

symbol_read : (bytes : List ℕ) (place : ℕ) (name : List ℕ) → symbol_of bytes ≡ Some (symbol_pair place name) → IsSymbolRest place name bytes
unfolding symbol_of symbol_pair
symbol_read bytes place name e = go (number_of front) (drop (field_length bytes) bytes) refl refl e where
  front : List ℕ
  front = take (field_length bytes) bytes

  named_read : (value : ℕ) (rest : List ℕ) (o : Option (List ℕ)) → name_of rest ≡ o → option_map (λ n. symbol_pair value n) o ≡ Some (symbol_pair place name) → (value ≡ place) × IsNamed rest name
  named_read value rest None is h = absurd cc
  named_read value rest (Some n) is h =
      let same = same_symbol value place n name h in
      (same.0, name_read rest name (is ∙ ap Some same.1))

  tested : (value : ℕ) (b : Bool) (rest : List ℕ) → cond b (option_map (λ n. symbol_pair value n) (name_of rest)) None ≡ Some (symbol_pair place name) → (b ≡ true) × (value ≡ place) × IsNamed rest name
  tested value true rest h = let x = named_read value rest (name_of rest) refl h in (refl, x.0, x.1)
  tested value false rest h = absurd cc

  go : (o : Option ℕ) (rest : List ℕ) → number_of front ≡ o → drop (field_length bytes) bytes ≡ rest → named rest o ≡ Some (symbol_pair place name) → IsSymbolRest place name bytes
  go None rest n_is r_is h = absurd cc
  go (Some value) [] n_is r_is h = absurd cc
  go (Some value) (space ∷ rest) n_is r_is h =
      let x = tested value (space == 32) rest h in
      let blank : space ≡ 32 = eqb-true space 32 x.0 in
      record {
        number = front;
        parts = sym (take-append-drop (field_length bytes) bytes) ∙ ap (λ (r : List ℕ). front ++ r) (r_is ∙ ap (λ (b : ℕ). b ∷ rest) blank ∙ ap (λ (r : List ℕ). 32 ∷ r) x.2.same);
        writes = (numbers front place).0 (n_is ∙ ap Some x.1);
        some = subst (λ (n : List ℕ). 0 < length n) x.2.same x.2.some;
        utf8 = subst IsUtf8 x.2.same x.2.utf8;
      }

some_length : (name : List ℕ) → 0 < length name → (length name == 0) ≡ false
some_length name lt = (let ne : length name ≢ 0 = λ e. absurd (omega arith) in ne_eqb (length name) 0 ne)

symbol_written : (number name : List ℕ) (place : ℕ) → WritesNumber number place → 0 < length name → IsUtf8 name → symbol_of (number ++ 32 ∷ name) ≡ Some (symbol_pair place name)
unfolding symbol_of symbol_pair name_of
symbol_written number name place w some utf8 =
    let len = field_ends number (32 ∷ name) place w refl in
    let read : number_of number ≡ Some place = (numbers number place).1 w in
    rw (len, take_front number (32 ∷ name), drop_front number (32 ∷ name), read, some_length name some, is_utf8-from_IsUtf8 name utf8) refl

line_written_rest : (kind place : ℕ) (name line : List ℕ) → IsSymbolLine kind place name line → (rest : List ℕ) × (line ≡ kind ∷ rest) × (symbol_of rest ≡ Some (symbol_pair place name))
line_written_rest kind place name line s = (s.number ++ 32 ∷ name, s.line_is, symbol_written s.number name place s.writes s.some s.utf8)

first_of_line : List ℕ → ℕ
first_of_line [] = 0
first_of_line (x ∷ xs) = x

rest_of_line : List ℕ → List ℕ
rest_of_line [] = []
rest_of_line (x ∷ xs) = xs

cons_first : (a b : ℕ) (xs ys : List ℕ) → a ∷ xs ≡ b ∷ ys → a ≡ b
unfolding first_of_line
cons_first a b xs ys e = ap first_of_line e

cons_rest : (a b : ℕ) (xs ys : List ℕ) → a ∷ xs ≡ b ∷ ys → xs ≡ ys
unfolding rest_of_line
cons_rest a b xs ys e = ap rest_of_line e

-- a line is that of one symbol
pub one_symbol : (k l p q : ℕ) (n m line : List ℕ) → IsSymbolLine k p n line → IsSymbolLine l q m line → (k ≡ l) × (p ≡ q) × (n ≡ m)
one_symbol k l p q n m line s t =
    let a = line_written_rest k p n line s in
    let b = line_written_rest l q m line t in
    let both : k ∷ a.0 ≡ l ∷ b.0 = sym a.1 ∙ b.1 in
    let rest : a.0 ≡ b.0 = cons_rest k l a.0 b.0 both in
    let same = same_symbol p q n m (sym a.2 ∙ ap symbol_of rest ∙ b.2) in
    (cons_first k l a.0 b.0 both, same.0, same.1)

-- ---- a symbol more

-- a symbol goes to a free entry
abbrev pub Put : Entries × Entries → ℕ → ℕ → List ℕ → Entries × Entries → Type 0
Put names kind place name next = ((kind ≡ 105) × (slice_get names.0 place ≡ Some None) × (next ≡ (slice_set names.0 place (Some name), names.1))) ⊎ ((kind ≡ 111) × (slice_get names.1 place ≡ Some None) × (next ≡ (names.0, slice_set names.1 place (Some name))))

some_entries : Option Entries → Entries
some_entries None = []
some_entries (Some x) = x

put_read : (entries : Entries) (place : ℕ) (name : List ℕ) (next : Entries) → with_symbol entries (Some (place, name)) ≡ Some next → (slice_get entries place ≡ Some None) × (slice_set entries place (Some name) ≡ next)
unfolding some_entries
put_read entries place name next e = go (slice_get entries place) refl e where
  go : (o : Option (Option (List ℕ))) → slice_get entries place ≡ o → put_free entries place name o ≡ Some next → (slice_get entries place ≡ Some None) × (slice_set entries place (Some name) ≡ next)
  go None is h = absurd cc
  go (Some (Some other)) is h = absurd cc
  go (Some None) is h = (is, ap some_entries h)

some_both : Option (Entries × Entries) → Entries × Entries
some_both None = ([], [])
some_both (Some x) = x

-- What a line that is read gives.
pub record LineRead (names next : Entries × Entries) (line : List ℕ) : Type 0 where
  pub kind : ℕ
  pub place : ℕ
  pub name : List ℕ
  pub is : IsSymbolLine kind place name line
  pub put : Put names kind place name next

symbol_line : (kind place : ℕ) (name bytes : List ℕ) → IsOneLine (kind ∷ bytes) → symbol_of bytes ≡ Some (symbol_pair place name) → IsSymbolLine kind place name (kind ∷ bytes)
symbol_line kind place name bytes one e =
    let r = symbol_read bytes place name e in
    record {
      number = r.number;
      line_is = ap (λ (b : List ℕ). kind ∷ b) r.parts;
      writes = r.writes;
      some = r.some;
      utf8 = r.utf8;
      one_line = name_line r.number (subst IsOneLine r.parts (first_line kind bytes one));
    }
  where
    first_line : (b : ℕ) (bs : List ℕ) → IsOneLine (b ∷ bs) → IsOneLine bs
    first_line b bs h = go (b == 10) h where
      go : (t : Bool) → (t || list_any (λ byte. byte == 10) bs) ≡ false → IsOneLine bs
      go true g = absurd cc
      go false g = g

    name_line : (number : List ℕ) → IsOneLine (number ++ 32 ∷ name) → IsOneLine name
    name_line [] h = h
    name_line (b ∷ bs) h = name_line bs (first_line b (bs ++ 32 ∷ name) h)

pub line_read : (names next : Entries × Entries) (line : List ℕ) → IsOneLine line → with_line names line ≡ Some next → LineRead names next line
unfolding symbol_pair some_both
line_read names next [] one e = absurd cc
line_read names next (kind ∷ bytes) one e = go (kind == 105) (kind == 111) refl refl e where
  put_symbol : (entries : Entries) (s : Option (ℕ × List ℕ)) (more : Entries) → symbol_of bytes ≡ s → with_symbol entries s ≡ Some more → (place : ℕ) × (name : List ℕ) × (symbol_of bytes ≡ Some (symbol_pair place name)) × (slice_get entries place ≡ Some None) × (slice_set entries place (Some name) ≡ more)
  put_symbol entries None more is h = absurd cc
  put_symbol entries (Some s) more is h = let p = put_read entries s.0 s.1 more h in (s.0, s.1, is, p.0, p.1)

  input : kind ≡ 105 → (o : Option Entries) → with_symbol names.0 (symbol_of bytes) ≡ o → option_map (λ inputs. (inputs, names.1)) o ≡ Some next → LineRead names next (kind ∷ bytes)
  input k None is h = absurd cc
  input k (Some more) is h =
      let p = put_symbol names.0 (symbol_of bytes) more refl is in
      record { kind = kind; place = p.0; name = p.1; is = symbol_line kind p.0 p.1 bytes one p.2; put = inl (k, p.3, sym (ap some_both h) ∙ ap (λ (m : Entries). (m, names.1)) (sym p.4)) }

  output : kind ≡ 111 → (o : Option Entries) → with_symbol names.1 (symbol_of bytes) ≡ o → option_map (λ outputs. (names.0, outputs)) o ≡ Some next → LineRead names next (kind ∷ bytes)
  output k None is h = absurd cc
  output k (Some more) is h =
      let p = put_symbol names.1 (symbol_of bytes) more refl is in
      record { kind = kind; place = p.0; name = p.1; is = symbol_line kind p.0 p.1 bytes one p.2; put = inr (k, p.3, sym (ap some_both h) ∙ ap (λ (m : Entries). (names.0, m)) (sym p.4)) }

  go : (i o : Bool) → (kind == 105) ≡ i → (kind == 111) ≡ o → cond i (option_map (λ inputs. (inputs, names.1)) (with_symbol names.0 (symbol_of bytes))) (cond o (option_map (λ outputs. (names.0, outputs)) (with_symbol names.1 (symbol_of bytes))) None) ≡ Some next
      → LineRead names next (kind ∷ bytes)
  go true o i_is o_is h = input (eqb-true kind 105 i_is) (with_symbol names.0 (symbol_of bytes)) refl h
  go false true i_is o_is h = output (eqb-true kind 111 o_is) (with_symbol names.1 (symbol_of bytes)) refl h
  go false false i_is o_is h = absurd cc

with_input : (names : Entries × Entries) (place : ℕ) (name bytes : List ℕ) → symbol_of bytes ≡ Some (symbol_pair place name) → slice_get names.0 place ≡ Some None → with_line names (105 ∷ bytes) ≡ Some (slice_set names.0 place (Some name), names.1)
unfolding symbol_pair
with_input names place name bytes read free = rw (read, free) refl

with_output : (names : Entries × Entries) (place : ℕ) (name bytes : List ℕ) → symbol_of bytes ≡ Some (symbol_pair place name) → slice_get names.1 place ≡ Some None → with_line names (111 ∷ bytes) ≡ Some (names.0, slice_set names.1 place (Some name))
unfolding symbol_pair
with_output names place name bytes read free = rw (read, free) refl

pub line_written : (names next : Entries × Entries) (kind place : ℕ) (name line : List ℕ) → IsSymbolLine kind place name line → Put names kind place name next → with_line names line ≡ Some next
line_written names next kind place name line s (inl (k, free, is)) =
    let r = line_written_rest kind place name line s in
    ap (with_line names) (r.1 ∙ ap (λ (b : ℕ). b ∷ r.0) k) ∙ with_input names place name r.0 r.2 free ∙ ap Some (sym is)
line_written names next kind place name line s (inr (k, free, is)) =
    let r = line_written_rest kind place name line s in
    ap (with_line names) (r.1 ∙ ap (λ (b : ℕ). b ∷ r.0) k) ∙ with_output names place name r.0 r.2 free ∙ ap Some (sym is)

pub symbol_line_one : (kind place : ℕ) (name line : List ℕ) → (kind == 10) ≡ false → IsSymbolLine kind place name line → IsOneLine line
symbol_line_one kind place name line k s = subst IsOneLine (sym s.line_is) (rw k (joined s.number (field_one_line s.number place s.writes))) where
  joined : (number : List ℕ) → IsOneLine number → IsOneLine (number ++ 32 ∷ name)
  joined [] h = s.one_line
  joined (b ∷ bs) h = go (b == 10) h (joined bs) where
    go : (t : Bool) → (t || list_any (λ byte. byte == 10) bs) ≡ false → (IsOneLine bs → IsOneLine (bs ++ 32 ∷ name)) → (t || list_any (λ byte. byte == 10) (bs ++ 32 ∷ name)) ≡ false
    go true g more = absurd cc
    go false g more = more g

-- ---- all lines

-- the lines put their symbols, one after the other
abbrev pub AllPut : Entries × Entries → List (List ℕ) → Entries × Entries → Type 0
AllPut names [] after = names ≡ after
AllPut names (line ∷ lines) after = (next : Entries × Entries) × (with_line names line ≡ Some next) × AllPut next lines after

abbrev pub AllOneLine : List (List ℕ) → Type 0
AllOneLine [] = Unit {0}
AllOneLine (line ∷ lines) = IsOneLine line × AllOneLine lines

-- nothing follows, or a line `c`
abbrev pub EndAt : List ℕ → Type 0
EndAt rest = (rest ≡ []) ⊎ ((more : List ℕ) × LineAt (99 ∷ []) rest more)

pub record SymbolsRead (names after : Entries × Entries) (bytes : List ℕ) : Type 0 where
  pub lines : List (List ℕ)
  pub rest : List ℕ
  pub at : LinesAt lines bytes rest
  pub end : EndAt rest
  pub put : AllPut names lines after
  pub one : AllOneLine lines

read_end : (bytes : List ℕ) → ends_symbols bytes ≡ true → EndAt bytes
read_end [] e = inl refl
read_end (b ∷ bs) e =
    let line : take (line_length (b ∷ bs)) (b ∷ bs) ≡ 99 ∷ [] = (bytes_eq-Decides (take (line_length (b ∷ bs)) (b ∷ bs)) (99 ∷ [])).0 e in
    let long : 0 < length (take (line_length (b ∷ bs)) (b ∷ bs)) = (let same = ap length line in omega arith) in
    inr (drop (line_length (b ∷ bs) + 1) (b ∷ bs), subst (λ (t : List ℕ). LineAt t (b ∷ bs) (drop (line_length (b ∷ bs) + 1) (b ∷ bs))) line (line_front (b ∷ bs) long))

pub line_some : (names next : Entries × Entries) (line : List ℕ) → with_line names line ≡ Some next → 0 < length line
line_some names next [] e = absurd cc
line_some names next (b ∷ bs) e = omega arith

pub no_bytes : (bytes : List ℕ) → length bytes ≤ 0 → bytes ≡ []
no_bytes [] le = refl
no_bytes (b ∷ bs) le = absurd (omega arith)

pub line_put : (names next : Entries × Entries) (bytes : List ℕ) → line_at names bytes ≡ given next → with_line names (take (line_length bytes) bytes) ≡ Some next
unfolding line_at
line_put names next bytes e = go (with_line names (take (line_length bytes) bytes)) e where
  go : (o : Option (Entries × Entries)) → line_or bytes o ≡ given next → o ≡ Some next
  go None h = absurd cc
  go (Some x) h = ap Some (same_value x next h)

pub symbols_read : (n : ℕ) (names after : Entries × Entries) (bytes : List ℕ) → symbols_at n names bytes ≡ given after → length bytes ≤ n → SymbolsRead names after bytes
unfolding symbols_at
symbols_read zero names after bytes e le = record { lines = []; rest = bytes; at = refl; end = inl (no_bytes bytes le); put = same_value names after e; one = tt }
symbols_read (suc n) names after bytes e le = go (ends_symbols bytes) refl e (symbols_read n) where
  go : (t : Bool) → ends_symbols bytes ≡ t → cond t (Ok names) (line_at names bytes >>= λ more. symbols_at n more (drop (line_length bytes + 1) bytes)) ≡ given after
      → ((m a : Entries × Entries) (bs : List ℕ) → symbols_at n m bs ≡ given a → length bs ≤ n → SymbolsRead m a bs) → SymbolsRead names after bytes
  go true is h more = record { lines = []; rest = bytes; at = refl; end = read_end bytes is; put = same_value names after h; one = tt }
  go false is h more =
      let step = bind_ok (line_at names bytes) (λ m. symbols_at n m (drop (line_length bytes + 1) bytes)) after h in
      let put = line_put names step.0 bytes step.1 in
      let some = line_some names step.0 (take (line_length bytes) bytes) put in
      let shorter : length (drop (line_length bytes + 1) bytes) ≤ n = (let len = length-drop (line_length bytes + 1) bytes in omega arith) in
      let others = more step.0 after (drop (line_length bytes + 1) bytes) step.2 shorter in
      record {
        lines = take (line_length bytes) bytes ∷ others.lines;
        rest = others.rest;
        at = (drop (line_length bytes + 1) bytes, line_front bytes some, others.at);
        end = others.end;
        put = (step.0, put, others.put);
        one = (one_line bytes, others.one);
      }

-- ---- written

pub end_written : (rest : List ℕ) → EndAt rest → ends_symbols rest ≡ true
end_written rest (inl none) = rw none refl
end_written rest (inr (more, line)) = subst (λ (r : List ℕ). ends_symbols r ≡ true) (sym line.parts) (go line.tail line.ends) where
  go : (tail : List ℕ) → IsTail tail more → ends_symbols (99 ∷ [] ++ tail) ≡ true
  go tail (inl newline) = rw newline refl
  go tail (inr (empty, none)) = rw empty refl

pub symbol_goes : (names next : Entries × Entries) (line : List ℕ) → with_line names line ≡ Some next → bytes_eq line (99 ∷ []) ≡ false
symbol_goes names next line e = go (bytes_eq line (99 ∷ [])) refl where
  go : (t : Bool) → bytes_eq line (99 ∷ []) ≡ t → bytes_eq line (99 ∷ []) ≡ false
  go false is = is
  go true is =
      let same : line ≡ 99 ∷ [] = (bytes_eq-Decides line (99 ∷ [])).0 is in
      let bad : with_line names (99 ∷ []) ≡ Some next = ap (with_line names) (sym same) ∙ e in
      absurd cc

pub goes_on : (bytes : List ℕ) → 0 < length bytes → bytes_eq (take (line_length bytes) bytes) (99 ∷ []) ≡ false → ends_symbols bytes ≡ false
goes_on [] lt e = absurd (omega arith)
goes_on (b ∷ bs) lt e = e

pub written_step : (n : ℕ) (names next : Entries × Entries) (bytes : List ℕ) → ends_symbols bytes ≡ false → with_line names (take (line_length bytes) bytes) ≡ Some next → symbols_at (suc n) names bytes ≡ symbols_at n next (drop (line_length bytes + 1) bytes)
unfolding symbols_at line_at
written_step n names next bytes goes put = rw (goes, put) refl

written_stop : (n : ℕ) (names : Entries × Entries) (bytes : List ℕ) → ends_symbols bytes ≡ true → symbols_at n names bytes ≡ given names
unfolding symbols_at
written_stop zero names bytes e = refl
written_stop (suc n) names bytes e = rw e refl

pub symbols_written : (lines : List (List ℕ)) (n : ℕ) (names after : Entries × Entries) (bytes rest : List ℕ) → LinesAt lines bytes rest → EndAt rest → AllPut names lines after → AllOneLine lines → length bytes ≤ n → symbols_at n names bytes ≡ given after
symbols_written [] n names after bytes rest at end put one le =
    written_stop n names bytes (ap ends_symbols at ∙ end_written rest end) ∙ ap given put
symbols_written (line ∷ lines) zero names after bytes rest (next, line_is_at, others) end put one le =
    let none = no_bytes bytes le in
    let nothing = lines_none (line ∷ lines) rest (next, subst (λ (b : List ℕ). LineAt line b next) none line_is_at, others) in
    absurd (no_cons nothing.0)
  where
    no_cons : line ∷ lines ≡ [] → ⊥
    no_cons e = absurd cc
symbols_written (line ∷ lines) (suc n) names after bytes rest (behind, at, others) end (next, is, more) one le =
    let len : line_length bytes ≡ length line = ap line_length at.parts ∙ line_is line at.tail behind one.0 at.ends in
    let front : take (line_length bytes) bytes ≡ line = ap (λ (k : ℕ). take k bytes) len ∙ ap (take (length line)) at.parts ∙ take_front line at.tail in
    let back : drop (line_length bytes + 1) bytes ≡ behind = ap (λ (k : ℕ). drop (k + 1) bytes) len ∙ ap (drop (length line + 1)) at.parts ∙ line_behind line at.tail behind at.ends in
    let long : length bytes ≡ length line + length at.tail = ap length at.parts ∙ length-append line at.tail in
    let some = at.some in
    let goes : ends_symbols bytes ≡ false = goes_on bytes (omega arith) (ap (λ (l : List ℕ). bytes_eq l (99 ∷ [])) front ∙ symbol_goes names next line is) in
    let short : length behind ≤ n = (let d = length-drop (line_length bytes + 1) bytes in let same = ap length back in omega arith) in
    written_step n names next bytes goes (ap (with_line names) front ∙ is) ∙ ap (symbols_at n next) back ∙ symbols_written lines n next after behind rest others end more one.1 short
