-- Room for a closing: said by the strings of the bytes before it, and by where a byte stands.
use Rattle.std.proofs.Common.{◌≡◌, ℕ, true, false, List, [], ◌∷◌, ◌++◌, refl, sym, ap, subst, ◌∙◌, inl, inr, ◌==◌}
use Rattle.std.proofs.lemmas.Bool.{eqb-true}
use Rattle.verilog_lex.specs.Scan.{quoted, unquoted}
use Rattle.verilog_lex.specs.Lexemes.{StringPart, byte, taken, Part, outside, string, AreStringParts, string_bytes, AreParts, part_bytes, HasNoOpenString, IsAnything, NoneCloses}
use Rattle.verilog_lex.specs.declared.closing.Quoting.{Quoting}
use Rattle.verilog_lex.specs.declared.closing.Quoting.TheVariants.{Outside, Inside, Behind}
use Rattle.verilog_lex.proofs.Tools.{bool_cases}
use Rattle.verilog_lex.proofs.Close.{after_all, NoneShuts}

pub record IsSaid (Room : List ℕ → Type 0) (next : Quoting → ℕ → Quoting) : Type 0 where
  pub by_place : (bs : List ℕ) → Room bs → after_all next Outside bs ≡ Outside
  pub by_parts : (bs : List ℕ) → after_all next Outside bs ≡ Outside → Room bs

pub none_shuts : (x y : ℕ) (Room : List ℕ → Type 0) (next : Quoting → ℕ → Quoting) (bs : List ℕ) → IsSaid Room next → NoneCloses x y Room bs → NoneShuts x y next Outside bs
none_shuts x y Room next bs s n = λ before after p o. n before after p (s.by_parts before o)

pub none_stands : (x y : ℕ) (Room : List ℕ → Type 0) (next : Quoting → ℕ → Quoting) (bs : List ℕ) → IsSaid Room next → NoneShuts x y next Outside bs → NoneCloses x y Room bs
none_stands x y Room next bs s n = λ before after p r. n before after p (s.by_place before r)

-- ---- comments

unquoted_stays : (w : Quoting) (bs : List ℕ) → after_all unquoted w bs ≡ w
unquoted_stays w [] = refl
unquoted_stays w (b ∷ bs) = unquoted_stays w bs

pub comment_said : IsSaid IsAnything unquoted
comment_said = record { by_place = λ bs r. unquoted_stays Outside bs; by_parts = λ bs e. tt }

-- ---- attributes, from the parts

after_join : (next : Quoting → ℕ → Quoting) (w : Quoting) (xs ys : List ℕ) → after_all next w (xs ++ ys) ≡ after_all next (after_all next w xs) ys
after_join next w [] ys = refl
after_join next w (x ∷ xs) ys = after_join next (next w x) xs ys

string_inside : (ps : List StringPart) → AreStringParts ps → after_all quoted Inside (string_bytes ps) ≡ Inside
string_inside [] a = refl
string_inside (byte b ∷ ps) a = ap (λ (w : Quoting). after_all quoted w (string_bytes ps)) (let e : quoted Inside b ≡ Inside = rw (a.0, a.1) refl in e) ∙ string_inside ps a.2
string_inside (taken b ∷ ps) a = string_inside ps a

parts_outside : (ps : List Part) → AreParts ps → after_all quoted Outside (part_bytes ps) ≡ Outside
parts_outside [] a = refl
parts_outside (outside b ∷ ps) a = ap (λ (w : Quoting). after_all quoted w (part_bytes ps)) (let e : quoted Outside b ≡ Outside = rw a.0 refl in e) ∙ parts_outside ps a.1
parts_outside (string s ∷ ps) a =
    after_join quoted Inside (string_bytes s) (34 ∷ part_bytes ps)
    ∙ (ap (λ (w : Quoting). after_all quoted w (34 ∷ part_bytes ps)) (string_inside s a.0) ∙ parts_outside ps a.1)

-- ---- attributes, to the parts

-- the rest of a string up to its quote, and what stands behind
record Ends (bs : List ℕ) : Type 0 where
  inner : List StringPart
  are : AreStringParts inner
  rest : List ℕ
  parts : bs ≡ string_bytes inner ++ 34 ∷ rest
  closed : HasNoOpenString rest

abbrev Goes : Quoting → List ℕ → Type 0
Goes Outside bs = HasNoOpenString bs
Goes Inside bs = Ends bs
Goes Behind bs = (b : ℕ) × (rest : List ℕ) × (bs ≡ b ∷ rest) × Ends rest

out_byte : (b : ℕ) (bs : List ℕ) → b == 34 ≡ false → HasNoOpenString bs → HasNoOpenString (b ∷ bs)
out_byte b bs e n = record { parts = outside b ∷ n.parts; are = (e, n.are); spell = ap (λ (l : List ℕ). b ∷ l) n.spell }

out_string : (b : ℕ) (bs : List ℕ) → b == 34 ≡ true → Ends bs → HasNoOpenString (b ∷ bs)
out_string b bs e n = record {
  parts = string n.inner ∷ n.closed.parts;
  are = (n.are, n.closed.are);
  spell = ap (λ (c : ℕ). c ∷ bs) (eqb-true b 34 e) ∙ (ap (λ (l : List ℕ). 34 ∷ l) n.parts ∙ ap (λ (l : List ℕ). 34 ∷ (string_bytes n.inner ++ 34 ∷ l)) n.closed.spell);
}

in_quote : (b : ℕ) (bs : List ℕ) → b == 34 ≡ true → HasNoOpenString bs → Ends (b ∷ bs)
in_quote b bs e n = record { inner = []; are = tt; rest = bs; parts = ap (λ (c : ℕ). c ∷ bs) (eqb-true b 34 e); closed = n }

in_byte : (b : ℕ) (bs : List ℕ) → b == 34 ≡ false → b == 92 ≡ false → Ends bs → Ends (b ∷ bs)
in_byte b bs e h n = record { inner = byte b ∷ n.inner; are = (e, h, n.are); rest = n.rest; parts = ap (λ (l : List ℕ). b ∷ l) n.parts; closed = n.closed }

in_taken : (b : ℕ) (bs : List ℕ) → b == 92 ≡ true → Goes Behind bs → Ends (b ∷ bs)
in_taken b bs e (c, rest, p, n) = record {
  inner = taken c ∷ n.inner;
  are = n.are;
  rest = n.rest;
  parts = ap (λ (d : ℕ). d ∷ bs) (eqb-true b 92 e) ∙ (ap (λ (l : List ℕ). 92 ∷ l) p ∙ ap (λ (l : List ℕ). 92 ∷ c ∷ l) n.parts);
  closed = n.closed;
}

goes : (w : Quoting) (bs : List ℕ) → after_all quoted w bs ≡ Outside → Goes w bs
goes Outside [] e = record { parts = []; are = tt; spell = refl }
goes Inside [] e = absurd cc
goes Behind [] e = absurd cc
goes Outside (b ∷ bs) e = elim (bool_cases (b == 34)) [
  | inl h ↦ out_string b bs h (goes Inside bs (subst (λ (w : Quoting). after_all quoted w bs ≡ Outside) (let s : quoted Outside b ≡ Inside = rw h refl in s) e))
  | inr h ↦ out_byte b bs h (goes Outside bs (subst (λ (w : Quoting). after_all quoted w bs ≡ Outside) (let s : quoted Outside b ≡ Outside = rw h refl in s) e))
]
goes Inside (b ∷ bs) e = elim (bool_cases (b == 34)) [
  | inl h ↦ in_quote b bs h (goes Outside bs (subst (λ (w : Quoting). after_all quoted w bs ≡ Outside) (let s : quoted Inside b ≡ Outside = rw h refl in s) e))
  | inr h ↦ elim (bool_cases (b == 92)) [
    | inl k ↦ in_taken b bs k (goes Behind bs (subst (λ (w : Quoting). after_all quoted w bs ≡ Outside) (let s : quoted Inside b ≡ Behind = rw (h, k) refl in s) e))
    | inr k ↦ in_byte b bs h k (goes Inside bs (subst (λ (w : Quoting). after_all quoted w bs ≡ Outside) (let s : quoted Inside b ≡ Inside = rw (h, k) refl in s) e))
  ]
]
goes Behind (b ∷ bs) e = (b, bs, refl, goes Inside bs e)

pub attribute_said : IsSaid HasNoOpenString quoted
attribute_said = record { by_place = λ bs n. n_outside bs n; by_parts = λ bs e. goes Outside bs e } where
  n_outside : (bs : List ℕ) → HasNoOpenString bs → after_all quoted Outside bs ≡ Outside
  n_outside bs n = subst (λ (l : List ℕ). after_all quoted Outside l ≡ Outside) (sym n.spell) (parts_outside n.parts n.are)
