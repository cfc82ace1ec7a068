-- The first closing, found and divided.
use Rattle.verilog_lex.specs.declared.closing.Quoting.{Quoting}
use Rattle.verilog_lex.specs.declared.closing.Quoting.TheVariants.{Outside, Inside, Behind}
use Rattle.std.proofs.Common.{append_assoc, ◌≡◌, ℕ, suc, Bool, true, false, cond, List, [], ◌∷◌, ◌++◌, length, Option, Some, None, refl, sym, ap, subst, ◌∙◌, inl, inr, ◌==◌}
use Rattle.std.specs.Prelude.{◌&&◌, option_map}
use Rattle.std.proofs.lemmas.Bool.{eqb-true, eq-eqb}
use Rattle.verilog_lex.specs.Bytes.{begins}
use Rattle.verilog_lex.specs.Scan.{is_close, has_close, is_outside, close}
use Rattle.verilog_lex.proofs.Tools.{bool_cases, and_left, and_right, or_left, or_right}

-- where the byte after these stands
abbrev pub after_all : (Quoting → ℕ → Quoting) → Quoting → List ℕ → Quoting
after_all next w [] = w
after_all next w (b ∷ bs) = after_all next (next w b) bs

-- nowhere in these bytes stand x and then y, outside strings
abbrev pub NoneShuts : ℕ → ℕ → (Quoting → ℕ → Quoting) → Quoting → List ℕ → Type 0
NoneShuts x y next w bytes = (before after : List ℕ) → bytes ≡ before ++ x ∷ y ∷ after → after_all next w before ≡ Outside → ⊥

pub record Shut (x y : ℕ) (next : Quoting → ℕ → Quoting) (w : Quoting) (xs : List ℕ) (n : ℕ) : Type 0 where
  pub body : List ℕ
  pub after : List ℕ
  pub parts : xs ≡ (body ++ x ∷ y ∷ []) ++ after
  pub len : suc (suc (length body)) ≡ n
  pub shut : after_all next w body ≡ Outside
  pub first : has_close x y next w (body ++ x ∷ []) ≡ false

head_same : (p : ℕ → Bool) (body after : List ℕ) (x y : ℕ) → begins p ((body ++ x ∷ y ∷ []) ++ after) ≡ begins p (body ++ x ∷ [])
head_same p [] after x y = refl
head_same p (b ∷ body) after x y = refl

outside_is : (w : Quoting) → is_outside w ≡ true → w ≡ Outside
outside_is Outside e = refl
outside_is Inside e = absurd cc
outside_is Behind e = absurd cc

-- ---- what is divided is found

pub shut_close : (x y : ℕ) (next : Quoting → ℕ → Quoting) (w : Quoting) (body after : List ℕ) → after_all next w body ≡ Outside
    → has_close x y next w (body ++ x ∷ []) ≡ false → close x y next w ((body ++ x ∷ y ∷ []) ++ after) ≡ Some (suc (suc (length body)))
shut_close x y next w [] after shut first = rw (eq-eqb x x refl) (rw (eq-eqb y y refl) (rw shut refl))
shut_close x y next w (b ∷ body) after shut first =
    let no : is_close x y w b ((body ++ x ∷ y ∷ []) ++ after) ≡ false = ap (λ (c : Bool). c && b == x && is_outside w) (head_same (λ c. c == y) body after x y) ∙ or_left _ _ first in
    rw no (ap (option_map suc) (shut_close x y next (next w b) body after shut (or_right _ _ first)))

pub none_close : (x y : ℕ) (next : Quoting → ℕ → Quoting) (w : Quoting) (xs : List ℕ) → has_close x y next w xs ≡ false → close x y next w xs ≡ None
none_close x y next w [] e = refl
none_close x y next w (b ∷ bs) e = rw (or_left (is_close x y w b bs) _ e) (ap (option_map suc) (none_close x y next (next w b) bs (or_right _ _ e)))

-- ---- what is found can be divided

suc_some : (r : Option ℕ) (n : ℕ) → option_map suc r ≡ Some n → (m : ℕ) × (r ≡ Some m) × (suc m ≡ n)
suc_some None n e = absurd cc
suc_some (Some m) n e = (m, refl, cc)

suc_none : (r : Option ℕ) → option_map suc r ≡ None → r ≡ None
suc_none None e = refl
suc_none (Some m) e = absurd cc

here : (x y : ℕ) (next : Quoting → ℕ → Quoting) (w : Quoting) (b : ℕ) (bs : List ℕ) → is_close x y w b bs ≡ true → Shut x y next w (b ∷ bs) 2
here x y next w b [] e = absurd cc
here x y next w b (c ∷ cs) e = record {
  body = [];
  after = cs;
  parts = ap (λ (n : ℕ). n ∷ c ∷ cs) (eqb-true b x (and_right (c == y) _ (and_left _ _ e))) ∙ ap (λ (n : ℕ). x ∷ n ∷ cs) (eqb-true c y (and_left (c == y) _ (and_left _ _ e)));
  len = refl;
  shut = outside_is w (and_right _ _ e);
  first = refl;
}

pub close_some : (x y : ℕ) (next : Quoting → ℕ → Quoting) (w : Quoting) (xs : List ℕ) (n : ℕ) → close x y next w xs ≡ Some n → Shut x y next w xs n
close_some x y next w [] n e = absurd cc
close_some x y next w (b ∷ bs) n e = elim (bool_cases (is_close x y w b bs)) [
  | inl h ↦
      let two : (let r : Option ℕ = Some 2 in r) ≡ Some n = sym (on_true _ (Some 2) _ h) ∙ e in
      subst (λ (k : ℕ). Shut x y next w (b ∷ bs) k) (some_inj 2 n two) (here x y next w b bs h)
  | inr h ↦
      let later = suc_some (close x y next (next w b) bs) n (sym (on_false _ (Some 2) _ h) ∙ e) in
      let s = close_some x y next (next w b) bs later.0 later.1 in
      record {
        body = b ∷ s.body;
        after = s.after;
        parts = ap (λ (l : List ℕ). b ∷ l) s.parts;
        len = ap suc s.len ∙ later.2;
        shut = s.shut;
        first = no s.body s.after s.parts h s.first;
      }
] where
  on_true : (c : Bool) (r s : Option ℕ) → c ≡ true → cond c r s ≡ r
  on_true c r s h = rw h refl

  on_false : (c : Bool) (r s : Option ℕ) → c ≡ false → cond c r s ≡ s
  on_false c r s h = rw h refl

  some_inj : (i j : ℕ) → (let r : Option ℕ = Some i in r) ≡ Some j → i ≡ j
  some_inj i j h = cc

  no : (body after : List ℕ) → bs ≡ (body ++ x ∷ y ∷ []) ++ after → is_close x y w b bs ≡ false → has_close x y next (next w b) (body ++ x ∷ []) ≡ false
      → has_close x y next w (b ∷ (body ++ x ∷ [])) ≡ false
  no body after p h f =
      let same : begins (λ c. c == y) bs ≡ begins (λ c. c == y) (body ++ x ∷ []) = ap (begins (λ c. c == y)) p ∙ head_same (λ c. c == y) body after x y in
      let g : is_close x y w b (body ++ x ∷ []) ≡ false = ap (λ (c : Bool). c && b == x && is_outside w) (sym same) ∙ h in
      rw g f

pub close_none : (x y : ℕ) (next : Quoting → ℕ → Quoting) (w : Quoting) (xs : List ℕ) → close x y next w xs ≡ None → has_close x y next w xs ≡ false
close_none x y next w [] e = refl
close_none x y next w (b ∷ bs) e = elim (bool_cases (is_close x y w b bs)) [
  | inl h ↦ absurd (none_is (close x y next w (b ∷ bs)) (rw h refl) e)
  | inr h ↦ rw h (close_none x y next (next w b) bs (suc_none _ (sym (out _ (Some 2) _ h) ∙ e)))
] where
  out : (c : Bool) (r s : Option ℕ) → c ≡ false → cond c r s ≡ s
  out c r s h = rw h refl

  none_is : (r : Option ℕ) → r ≡ Some 2 → r ≡ None → ⊥
  none_is r p q = cc

-- ---- no closing, by its division

none_here : (x y : ℕ) (next : Quoting → ℕ → Quoting) (w : Quoting) (before after : List ℕ) → has_close x y next w (before ++ x ∷ y ∷ after) ≡ false → after_all next w before ≡ Outside → ⊥
none_here x y next w [] after e o =
    let yes : is_close x y w x (y ∷ after) ≡ true = rw (eq-eqb x x refl) (rw (eq-eqb y y refl) (rw o refl)) in
    not_both_ways _ yes (or_left _ _ e) where
      not_both_ways : (c : Bool) → c ≡ true → c ≡ false → ⊥
      not_both_ways c p q = cc
none_here x y next w (b ∷ before) after e o = none_here x y next (next w b) before after (or_right _ _ e) o

pub none_closes : (x y : ℕ) (next : Quoting → ℕ → Quoting) (w : Quoting) (xs : List ℕ) → has_close x y next w xs ≡ false → NoneShuts x y next w xs
none_closes x y next w xs e = λ before after p o. none_here x y next w before after (subst (λ (l : List ℕ). has_close x y next w l ≡ false) p e) o

closes_here : (x y : ℕ) (next : Quoting → ℕ → Quoting) (w : Quoting) (b : ℕ) (bs : List ℕ) → is_close x y w b bs ≡ true → NoneShuts x y next w (b ∷ bs) → ⊥
closes_here x y next w b bs e n =
    let s = here x y next w b bs e in
    n s.body s.after (s.parts ∙ append_assoc s.body (x ∷ y ∷ []) s.after) s.shut

pub closes_none : (x y : ℕ) (next : Quoting → ℕ → Quoting) (w : Quoting) (xs : List ℕ) → NoneShuts x y next w xs → has_close x y next w xs ≡ false
closes_none x y next w [] n = refl
closes_none x y next w (b ∷ bs) n = elim (bool_cases (is_close x y w b bs)) [
  | inl e ↦ absurd (closes_here x y next w b bs e n)
  | inr e ↦ rw e (closes_none x y next (next w b) bs (λ before after p o. n (b ∷ before) after (ap (λ (l : List ℕ). b ∷ l) p) o))
]
