-- All of the tokens: the tree that they spell, or the place of the fault.
use Rattle.std.proofs.Common.{◌≡◌, ℕ, suc, ◌+◌, ◌-◌, ◌<◌, List, [], ◌∷◌, ◌++◌, length, map, take, Result, Ok, Err, refl, sym, ap, subst, ◌∙◌, append_assoc, arith, inl, inr, length-append}
use Rattle.std.proofs.lemmas.List.{append-nil}
use Rattle.std.proofs.Math.Seq.{take-append_seam, take-append-add}
use Rattle.verilog_tree.specs.Reading.{first}
use Rattle.verilog_tree.specs.Words.{Word, meaning}
use Rattle.verilog_tree.proofs.Good.{AllGood, tokens_of_good}
use Rattle.verilog_tree.specs.Trees.{Module}
use Rattle.verilog_tree.specs.Spelling.{SpellsSource}
use Rattle.verilog_tree.specs.Fault.{BeginsTree, IsParseFault}
use Rattle.verilog_tree.specs.Parsing
use Rattle.verilog_tree.proofs.Exact.{bind_ok, bind_err}
use Rattle.verilog_tree.proofs.Phrases.{exact_modules}

pub ok_is : (a b : List Module) → (let y : Result (List Module) ℕ = Ok a in y) ≡ Ok b → a ≡ b
ok_is a b e = cc

whole_ok : (a : List Module) (rest : List Word) (tree : List Module) → Parsing.whole (a, rest) ≡ Ok tree → (rest ≡ []) × (a ≡ tree)
whole_ok a [] tree e = (refl, ok_is a tree e)
whole_ok a (t ∷ ts) tree e = absurd cc

-- what is read is spelled so
pub source_found : (ts : List Word) (tree : List Module) → Parsing.source ts ≡ Ok tree → SpellsSource tree ts
unfolding Parsing.source
source_found ts tree e =
    let h = bind_ok (Parsing.modules ts) Parsing.whole tree e in
    let f = exact_modules.takes ts h.0.0 h.0.1 h.1 in
    let w = whole_ok h.0.0 h.0.1 tree h.2 in
    subst (λ (v : List Module). SpellsSource v ts) w.1 (subst (λ (l : List Word). SpellsSource h.0.0 l) (sym (f.parts ∙ ap (λ (r : List Word). f.front ++ r) w.0 ∙ append-nil f.front)) f.spelled)

-- what is spelled so is read
pub source_again : (ts : List Word) (tree : List Module) → SpellsSource tree ts → Parsing.source ts ≡ Ok tree
unfolding Parsing.source
source_again ts tree s =
    let e : Parsing.modules ts ≡ Ok (tree, []) = subst (λ (l : List Word). Parsing.modules l ≡ Ok (tree, [])) (append-nil ts) (exact_modules.again tree ts [] s refl) in
    rw e refl

-- so words spell one tree at most
pub one_tree : (ts : List Word) (a b : List Module) → SpellsSource a ts → SpellsSource b ts → a ≡ b
one_tree ts a b s t = ok_is a b (sym (source_again ts a s) ∙ source_again ts b t)

pub clash : (ts : List Word) (tree : List Module) (k : ℕ) → Parsing.source ts ≡ Err k → SpellsSource tree ts → ⊥
clash ts tree k e s = let h = source_again ts tree s in cc

at_place : (ts front rest : List Word) (left : ℕ) → ts ≡ front ++ rest → left ≡ length rest → BeginsTree front → ((r : List Word) → first r ≡ first rest → (k : ℕ) × (Parsing.source (front ++ r) ≡ Err k)) → IsParseFault ts (length ts - left)
at_place ts front rest left parts is begins local =
    let at : length ts - left ≡ length front = omega (arith, ap length parts, length-append front rest) in
    let here : take (length front) ts ≡ front = rw parts (take-append_seam front rest) in
    record {
      within = omega arith;
      before = rw (at, here) begins;
      there = by_rest rest parts local at;
      none = λ tree s. let l = local rest refl in clash ts tree l.0 (rw parts l.1) s;
    } where
      next : (t : Word) (r : List Word) → take (length front + 1) (front ++ t ∷ r) ≡ front ++ t ∷ []
      next t r = take-append-add front (t ∷ r) 1

      by_rest : (rest : List Word) → ts ≡ front ++ rest → ((r : List Word) → first r ≡ first rest → (k : ℕ) × (Parsing.source (front ++ r) ≡ Err k)) → length ts - left ≡ length front → length ts - left < length ts → BeginsTree (take (length ts - left + 1) ts) → ⊥
      by_rest [] parts local at lt b = absurd (omega (arith, ap length parts, length-append front []))
      by_rest (t ∷ r) parts local at lt b =
          let e : take (length ts - left + 1) ts ≡ front ++ t ∷ [] = rw (at, parts) (next t r) in
          let l = local (t ∷ map meaning b.1) refl in
          clash (front ++ t ∷ map meaning b.1) b.0 l.0 l.1 (subst (λ (u : List Word). SpellsSource b.0 u) (ap (λ (f : List Word). f ++ map meaning b.1) e ∙ append_assoc front (t ∷ []) (map meaning b.1)) b.3)

-- what good words complete, tokens complete
begins : (front : List Word) (tree : List Module) (tail : List Word) → AllGood tail → SpellsSource tree (front ++ tail) → BeginsTree front
begins front tree tail g s =
    let t = tokens_of_good tail g in
    (tree, t.tokens, t.good, subst (λ (l : List Word). SpellsSource tree (front ++ l)) (sym t.are) s)

whole_err : (a : List Module) (rest : List Word) (left : ℕ) → Parsing.whole (a, rest) ≡ Err left → (left ≡ length rest) × ((r : List Word) → first r ≡ first rest → (k : ℕ) × (Parsing.whole (a, r) ≡ Err k))
whole_err a [] left e = absurd cc
whole_err a (t ∷ ts) left e = (cc, at_token) where
  at_token : (r : List Word) → first r ≡ first (t ∷ ts) → (k : ℕ) × (Parsing.whole (a, r) ≡ Err k)
  at_token [] same = absurd cc
  at_token (u ∷ us) same = (suc (length us), refl)

-- a fault is where it is said
pub source_fault : (ts : List Word) (left : ℕ) → Parsing.source ts ≡ Err left → IsParseFault ts (length ts - left)
unfolding Parsing.source
source_fault ts left e = elim (bind_err (Parsing.modules ts) Parsing.whole left e) [
  | inl h ↦
      let f = exact_modules.stops ts left h in
      at_place ts f.front f.rest left f.parts f.is_left (begins f.front f.value f.tail f.good f.completed) (λ r same. (length r, rw (f.local r same) refl))
  | inr h ↦
      let f = exact_modules.takes ts h.0.0 h.0.1 h.1 in
      let w = whole_err h.0.0 h.0.1 left h.2 in
      at_place ts f.front h.0.1 left f.parts w.0 (h.0.0, [], tt, subst (λ (l : List Word). SpellsSource h.0.0 l) (sym (append-nil f.front)) f.spelled) (λ r same. let k = w.1 r same in (k.0, rw (f.local r same) k.1))
]
