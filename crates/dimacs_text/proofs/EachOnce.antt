-- Literals once, each at its first place: taken one after another, or as a list.
use Rattle.std.proofs.Common.{◌≡◌, ◌∙◌, ℕ, Bool, true, false, refl, sym, ap, List, [], ◌∷◌, ◌++◌, append_assoc, append-nil, inl, inr}
use Rattle.std.specs.Prelude.{◌==◌, ◌&&◌, ◌||◌, not}
use Rattle.std.specs.List.{list_any, filter}
use Rattle.std.proofs.lemmas.Bool.{cases_Bool}
use Rattle.std.proofs.lemmas.Bool.Decides.{eqb_tells}
use Rattle.std.proofs.lemmas.List.Folds.{list_any-append}
use Rattle.rsfq_ids.specs.Formula.{Clause}
use Rattle.dimacs_text.specs.Reading.{with_literals, once}
use Rattle.dimacs_text.specs.Spelled.{each_once}

-- the literals that are not in the clause
abbrev fresh : Clause → ℕ → Bool
fresh clause lit = not (list_any (λ other. lit == other) clause)

filter_both : (f g h : ℕ → Bool) (xs : List ℕ) → ((x : ℕ) → h x ≡ (g x && f x)) → filter f (filter g xs) ≡ filter h xs
filter_both f g h [] both = refl
filter_both f g h (x ∷ xs) both = elim (cases_Bool (g x)) [
  | inl e ↦ elim (cases_Bool (f x)) [
    | inl d ↦ let here : h x ≡ true = both x ∙ (rw (e, d) refl) in rw (e, here) (rw d (ap (λ (l : List ℕ). x ∷ l) (filter_both f g h xs both)))
    | inr d ↦ let here : h x ≡ false = both x ∙ (rw (e, d) refl) in rw (e, here) (rw d (filter_both f g h xs both))
  ]
  | inr e ↦ let here : h x ≡ false = both x ∙ (rw e refl) in rw (e, here) (filter_both f g h xs both)
]

filter_all : (f : ℕ → Bool) (xs : List ℕ) → ((x : ℕ) → f x ≡ true) → filter f xs ≡ xs
filter_all f [] all = refl
filter_all f (x ∷ xs) all = rw (all x) (ap (λ (l : List ℕ). x ∷ l) (filter_all f xs all))

-- a literal that is there is not fresh
known : (clause : Clause) (lit x : ℕ) → list_any (λ other. lit == other) clause ≡ true → fresh clause x ≡ (not (x == lit) && fresh clause x)
known clause lit x there = elim (eqb_tells x lit) [
  | inl t ↦
      let is = t.1 in
      let any : list_any (λ other. x == other) clause ≡ true = ap (λ (l : ℕ). list_any (λ other. l == other) clause) is ∙ there in
      rw (t.0, any) refl
  | inr t ↦ rw t.0 refl
]

turned : (a b : Bool) → not (a || (b || false)) ≡ (not b && not a)
turned true true = refl
turned true false = refl
turned false true = refl
turned false false = refl

more : (clause : Clause) (lit x : ℕ) → fresh (clause ++ lit ∷ []) x ≡ (not (x == lit) && fresh clause x)
more clause lit x =
    ap not (list_any-append (λ other. x == other) clause (lit ∷ []))
    ∙ turned (list_any (λ other. x == other) clause) (x == lit)

added : (clause lits : Clause) → with_literals clause lits ≡ clause ++ filter (fresh clause) (each_once lits)
added clause [] = sym (append-nil clause)
added clause (lit ∷ lits) = elim (cases_Bool (list_any (λ other. lit == other) clause)) [
  | inl e ↦
      let rest : filter (fresh clause) (filter (λ other. not (other == lit)) (each_once lits)) ≡ filter (fresh clause) (each_once lits) =
      filter_both (fresh clause) (λ other. not (other == lit)) (fresh clause) (each_once lits) (λ x. known clause lit x e) in
      rw e (added clause lits ∙ ap (λ (l : List ℕ). clause ++ l) (sym rest))
  | inr e ↦
      let rest : filter (fresh clause) (filter (λ other. not (other == lit)) (each_once lits)) ≡ filter (fresh (clause ++ lit ∷ [])) (each_once lits) =
      filter_both (fresh clause) (λ other. not (other == lit)) (fresh (clause ++ lit ∷ [])) (each_once lits) (λ x. more clause lit x) in
      rw e (added (clause ++ lit ∷ []) lits ∙ append_assoc clause (lit ∷ []) (filter (fresh (clause ++ lit ∷ [])) (each_once lits)) ∙ ap (λ (l : List ℕ). clause ++ lit ∷ l) (sym rest))
]

pub once_is : (lits : Clause) → once lits ≡ each_once lits
once_is lits = added [] lits ∙ filter_all (fresh []) (each_once lits) (λ x. refl)
