-- A clause as it is written holds exactly where one of its literals is true.
use Rattle.std.proofs.Common.{◌≡◌, ◌∙◌, ℕ, ◌+◌, ◌-◌, ◌/◌, ◌%◌, ◌==◌, ◌||◌, ◌&&◌, Bool, true, false, not, cond, sym, refl, ap, arith, eqb-true, eq-eqb, ◌≢◌, List, [], ◌∷◌, ◌++◌}
use Rattle.std.specs.List.{fold, list_all, list_any}
use Rattle.std.proofs.lemmas.List.Folds.{list_any-append}
use Rattle.std.proofs.lemmas.Bool.{eqb-false}
use Rattle.rsfq_ids.specs.Formula.{opposite, value_of}
use Rattle.cell_truth.specs.Clause.{has_both, once_each, with_literal, written}

-- whether a clause holds where the variables have these values
abbrev pub holds : (ℕ → Bool) → List ℕ → Bool
holds values clause = list_any (value_of values) clause

-- whether all of the clauses hold
abbrev pub all_hold : (ℕ → Bool) → List (List ℕ) → Bool
all_hold values clauses = list_all (holds values) clauses

or_false : (b : Bool) → (b || false) ≡ b
or_false true = refl
or_false false = refl

or_true : (b : Bool) → (b || true) ≡ true
or_true true = refl
or_true false = refl

or_assoc : (a b c : Bool) → ((a || b) || c) ≡ (a || (b || c))
or_assoc true b c = refl
or_assoc false b c = refl

-- what holds of a member holds of some member
pub some_member : {X : Type 0} (p : X → Bool) (same : X → Bool) (x : X) → ((y : X) → same y ≡ true → p y ≡ p x) → (xs : List X) → list_any same xs ≡ true → p x ≡ true → list_any p xs ≡ true
some_member p same x equal [] e here = cc
some_member p same x equal (y ∷ ys) e here = go (same y) refl e (λ later. some_member p same x equal ys later here)
  where
    go : (b : Bool) → same y ≡ b → (b || list_any same ys) ≡ true → (list_any same ys ≡ true → list_any p ys ≡ true) → (p y || list_any p ys) ≡ true
    go true is e later = rw (equal y is ∙ here) refl
    go false is e later = ap (λ b. p y || b) (later e) ∙ or_true (p y)

member : (p : ℕ → Bool) (x : ℕ) (xs : List ℕ) → list_any (λ y. y == x) xs ≡ true → p x ≡ true → list_any p xs ≡ true
member p x xs e here = some_member p (λ y. y == x) x (λ y is. ap p (eqb-true y x is)) xs e here

step_holds : (values : ℕ → Bool) (clause : List ℕ) (literal : ℕ) → holds values (with_literal clause literal) ≡ (holds values clause || value_of values literal)
step_holds values clause literal = go (list_any (λ kept. kept == literal) clause) refl (value_of values literal) refl
  where
    go : (b : Bool) → list_any (λ kept. kept == literal) clause ≡ b → (t : Bool) → value_of values literal ≡ t
        → holds values (cond b clause (clause ++ literal ∷ [])) ≡ (holds values clause || t)
    go true is true here = rw (member (value_of values) literal clause is here) refl
    go true is false here = sym (or_false (holds values clause))
    go false is t here = list_any-append (value_of values) clause (literal ∷ []) ∙ ap (λ x. holds values clause || x) (or_false (value_of values literal) ∙ here)

fold_holds : (values : ℕ → Bool) (literals clause : List ℕ) → holds values (fold with_literal clause literals) ≡ (holds values clause || holds values literals)
fold_holds values [] clause = sym (or_false (holds values clause))
fold_holds values (literal ∷ literals) clause =
    fold_holds values literals (with_literal clause literal)
    ∙ (ap (λ x. x || holds values literals) (step_holds values clause literal) ∙ or_assoc (holds values clause) (value_of values literal) (holds values literals))

pub once_each_holds : (values : ℕ → Bool) (literals : List ℕ) → holds values (once_each literals) ≡ holds values literals
once_each_holds values literals = fold_holds values literals []

not_twice : (b : Bool) → not (not b) ≡ b
not_twice true = refl
not_twice false = refl

pub opposite_value : (values : ℕ → Bool) (literal : ℕ) → value_of values (opposite literal) ≡ not (value_of values literal)
opposite_value values literal = go (literal % 2 == 0) refl
  where
    go : (even : Bool) → (literal % 2 == 0) ≡ even → value_of values (cond even (literal + 1) (literal - 1)) ≡ not (cond even (values (literal / 2)) (not (values (literal / 2))))
    go true is =
        let even : literal % 2 ≡ 0 = eqb-true (literal % 2) 0 is in
        let odd : (literal + 1) % 2 ≡ 1 = omega arith in
        let half : (literal + 1) / 2 ≡ literal / 2 = omega arith in
        rw (odd, half) refl
    go false is =
        let uneven : literal % 2 ≢ 0 = eqb-false (literal % 2) 0 is in
        let even : (literal - 1) % 2 ≡ 0 = omega arith in
        let half : (literal - 1) / 2 ≡ literal / 2 = omega arith in
        rw (even, half) (sym (not_twice (values (literal / 2))))

same_number : (n : ℕ) → (n == n) ≡ true
same_number n = eq-eqb n n refl

-- of a literal and its negation one is true
both_hold : (values : ℕ → Bool) (all literals : List ℕ) → list_any (λ literal. list_any (λ other. other == opposite literal) all) literals ≡ true
    → ((literal : ℕ) → list_any (λ other. other == literal) literals ≡ true → list_any (λ other. other == literal) all ≡ true)
    → holds values all ≡ true
both_hold values all [] e among = cc
both_hold values all (literal ∷ literals) e among =
    go (list_any (λ other. other == opposite literal) all) refl e (λ later. both_hold values all literals later (λ one h. among one (ap (λ b. literal == one || b) h ∙ or_true (literal == one))))
  where
    here : list_any (λ other. other == literal) all ≡ true
    here = among literal (ap (λ b. b || list_any (λ other. other == literal) literals) (same_number literal))

    one_of : list_any (λ other. other == opposite literal) all ≡ true → (t : Bool) → value_of values literal ≡ t → holds values all ≡ true
    one_of is true holds_here = member (value_of values) literal all here holds_here
    one_of is false fails_here = member (value_of values) (opposite literal) all is (opposite_value values literal ∙ ap not fails_here)

    go : (b : Bool) → list_any (λ other. other == opposite literal) all ≡ b → (b || list_any (λ one. list_any (λ other. other == opposite one) all) literals) ≡ true
        → (list_any (λ one. list_any (λ other. other == opposite one) all) literals ≡ true → holds values all ≡ true) → holds values all ≡ true
    go true is e later = one_of is (value_of values literal) refl
    go false is e later = later e

-- what is written of a clause holds exactly where the clause does
pub written_holds : (values : ℕ → Bool) (literals : List ℕ) → all_hold values (written literals) ≡ holds values literals
written_holds values literals = go (has_both literals) refl
  where
    and_true : (b : Bool) → (b && true) ≡ b
    and_true true = refl
    and_true false = refl

    go : (b : Bool) → has_both literals ≡ b → all_hold values (cond b [] (once_each literals ∷ [])) ≡ holds values literals
    go true is = sym (both_hold values literals literals is (λ one h. h))
    go false is = and_true (holds values (once_each literals)) ∙ once_each_holds values literals
