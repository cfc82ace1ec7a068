-- Literals and their values, and clauses as they are written.
use Rattle.std.proofs.Common.{◌≡◌, ◌∙◌, ◌≢◌, ◌<◌, ◌+◌, ◌-◌, ◌*◌, ◌/◌, ◌%◌, ℕ, zero, suc, Bool, true, false, not, cond, refl, sym, ap, subst, arith, List, [], ◌∷◌, ◌++◌, get_or, ◌⊎◌, inl, inr}
use Rattle.std.specs.Prelude.{◌==◌, ◌||◌, ◌&&◌}
use Rattle.std.specs.List.{All, Contains, list_any, fold}
use Rattle.std.proofs.lemmas.Bool.{cases_Bool, eqb-true}
use Rattle.std.proofs.lemmas.Bool.Decides.{eqb_tells}
use Rattle.std.proofs.lemmas.List.Folds.{list_all-append}
use Rattle.std.proofs.lemmas.List.Elements.{All-cons, All-nil, All-tail, Contains-push, Contains-append_left}
use Rattle.std.proofs.lemmas.List.Sums.{AllPass-from_list_all, list_all-from_AllPass}
use Rattle.rsfq_ids.specs.Formula.{Clause, opposite, value_of, Satisfies}
use Rattle.cell_truth.specs.Clause.{has_both, once_each, with_literal, written}
use Rattle.miter_cnf.specs.Miter.{and_clauses_of, differ_clauses_of}
use Rattle.cell_truth.proofs.ClauseLaws.{all_hold, holds, opposite_value, written_holds}

pub no_true : {A : Type 0} → false ≡ true → A
no_true e = cc

pub not_both : {A : Type 0} (b : Bool) → b ≡ true → b ≡ false → A
not_both b e f = no_true (sym f ∙ e)

-- ---- values of literals

pub even_value : (values : ℕ → Bool) (var : ℕ) → value_of values (2 * var) ≡ values var
even_value values var =
    let even : (2 * var) % 2 ≡ 0 = omega arith in
    let half : (2 * var) / 2 ≡ var = omega arith in
    rw (even, half) refl

pub odd_value : (values : ℕ → Bool) (var : ℕ) → value_of values (2 * var + 1) ≡ not (values var)
odd_value values var =
    let odd : (2 * var + 1) % 2 ≡ 1 = omega arith in
    let half : (2 * var + 1) / 2 ≡ var = omega arith in
    rw (odd, half) refl

pub opposite_even : (var : ℕ) → opposite (2 * var) ≡ 2 * var + 1
opposite_even var = let even : (2 * var) % 2 ≡ 0 = omega arith in rw even refl

pub opposite_odd : (var : ℕ) → opposite (2 * var + 1) ≡ 2 * var
opposite_odd var =
    let odd : (2 * var + 1) % 2 ≡ 1 = omega arith in
    let less : 2 * var + 1 - 1 ≡ 2 * var = omega arith in
    rw odd less

pub literal_of : (lit : ℕ) → (lit ≡ 2 * (lit / 2)) ⊎ (lit ≡ 2 * (lit / 2) + 1)
literal_of lit = elim (eqb_tells (lit % 2) 0) [ inl t ↦ inl (let e = t.1 in omega arith) | inr t ↦ inr (let e = t.1 in omega arith) ]

pub opposite_twice : (lit : ℕ) → opposite (opposite lit) ≡ lit
opposite_twice lit = elim (literal_of lit) [
  | inl e ↦ ap (λ l. opposite (opposite l)) e ∙ (ap opposite (opposite_even (lit / 2)) ∙ (opposite_odd (lit / 2) ∙ sym e))
  | inr e ↦ ap (λ l. opposite (opposite l)) e ∙ (ap opposite (opposite_odd (lit / 2)) ∙ (opposite_even (lit / 2) ∙ sym e))
]

pub opposite_over : (vars lit : ℕ) → lit < 2 * vars → opposite lit < 2 * vars
opposite_over vars lit lt = elim (literal_of lit) [
  | inl e ↦ (let o = ap opposite e ∙ opposite_even (lit / 2) in omega (arith, lt, e, o))
  | inr e ↦ (let o = ap opposite e ∙ opposite_odd (lit / 2) in omega (arith, lt, e, o))
]

pub opposite_differs : (lit : ℕ) → opposite lit ≢ lit
opposite_differs lit same = elim (literal_of lit) [
  | inl e ↦ (let o = ap opposite e ∙ opposite_even (lit / 2) in absurd (omega (arith, same, e, o)))
  | inr e ↦ (let o = ap opposite e ∙ opposite_odd (lit / 2) in absurd (omega (arith, same, e, o)))
]

-- ---- items

pub or_right : (b c : Bool) → b ≡ false → (b || c) ≡ true → c ≡ true
or_right true c e is = cc
or_right false c e is = is

pub any_of : (p : ℕ → Bool) (lits : List ℕ) (lit : ℕ) → Contains lits lit → p lit ≡ true → list_any p lits ≡ true
any_of p [] lit has is = absurd (let lt = has.1 in omega arith)
any_of p (x ∷ lits) lit (zero, lt, at) is = rw (at, is) refl
any_of p (x ∷ lits) lit (suc k, lt, at) is =
    let rest = any_of p lits lit (k, omega arith, at) is in
    elim (cases_Bool (p x)) [ inl e ↦ rw e refl | inr e ↦ rw e rest ]

pub any_found : (p : ℕ → Bool) (lits : List ℕ) → list_any p lits ≡ true → (lit : ℕ) × Contains lits lit × (p lit ≡ true)
any_found p [] is = no_true is
any_found p (x ∷ lits) is = elim (cases_Bool (p x)) [
  | inl e ↦ (x, (zero, omega arith, refl), e)
  | inr e ↦ (let found = any_found p lits (or_right _ _ e is) in (found.0, (suc found.1.0, (let lt = found.1.1 in omega arith), found.1.2), found.2))
]

pub all_in : {X : Type 0} (xs : List X) → All (Contains xs) xs
all_in [] k d lt = absurd (omega arith)
all_in (x ∷ xs) zero d lt = (zero, omega arith, refl)
all_in (x ∷ xs) (suc k) d lt = let rest = all_in xs k d (omega arith) in (suc rest.0, (let l = rest.1 in omega (arith, l)), rest.2)

-- what holds of all items of a list holds of those that are among them
pub all_among : {X : Type 0} (P : X → Type 0) (xs ys : List X) → All (Contains ys) xs → All P ys → All P xs
all_among P xs ys among all k d lt = let (j, within, at) = among k d lt in subst P at (all j (get_or xs k d) within)

-- ---- clauses as they are written

-- the literals of a fold are those before and those that come
fold_has : (lits clause : List ℕ) (lit : ℕ) → (Contains clause lit ⊎ Contains lits lit) → Contains (fold with_literal clause lits) lit
fold_has [] clause lit has = elim has [ inl here ↦ here | inr none ↦ absurd (let lt = none.1 in omega arith) ]
fold_has (x ∷ lits) clause lit has =
    fold_has lits (with_literal clause x) lit (elim has [ inl here ↦ inl (kept here) | inr there ↦ come there ])
  where
    kept : Contains clause lit → Contains (with_literal clause x) lit
    kept here = elim (cases_Bool (list_any (λ other. other == x) clause)) [ inl e ↦ rw e here | inr e ↦ rw e (Contains-append_left clause (x ∷ []) lit here) ]

    come : Contains (x ∷ lits) lit → Contains (with_literal clause x) lit ⊎ Contains lits lit
    come (zero, lt, at) = inl (elim (cases_Bool (list_any (λ other. other == x) clause)) [
      | inl e ↦ rw e (let found = any_found (λ other. other == x) clause e in subst (Contains clause) (eqb-true found.0 x found.2 ∙ at) found.1)
      | inr e ↦ rw e (subst (Contains (clause ++ x ∷ [])) at (Contains-push clause x))
    ])
    come (suc k, lt, at) = inr (k, omega arith, at)

fold_from : (lits clause : List ℕ) (lit : ℕ) → Contains (fold with_literal clause lits) lit → Contains clause lit ⊎ Contains lits lit
fold_from [] clause lit has = inl has
fold_from (x ∷ lits) clause lit has = elim (fold_from lits (with_literal clause x) lit has) [ inl early ↦ came early | inr (k, lt, at) ↦ inr (suc k, omega arith, at) ]
  where
    pushed : (early : List ℕ) → Contains (early ++ x ∷ []) lit → Contains early lit ⊎ Contains (x ∷ lits) lit
    pushed [] (zero, lt, at) = inr (zero, omega arith, at)
    pushed [] (suc k, lt, at) = absurd (omega arith)
    pushed (y ∷ early) (zero, lt, at) = inl (zero, omega arith, at)
    pushed (y ∷ early) (suc k, lt, at) = elim (pushed early (k, omega arith, at)) [ inl (j, less, is) ↦ inl (suc j, omega arith, is) | inr later ↦ inr later ]

    came : Contains (with_literal clause x) lit → Contains clause lit ⊎ Contains (x ∷ lits) lit
    came early = elim (cases_Bool (list_any (λ other. other == x) clause)) [ inl e ↦ inl (rw e at early) | inr e ↦ pushed clause (rw e at early) ]

pub once_has : (lits : List ℕ) (lit : ℕ) → Contains lits lit → Contains (once_each lits) lit
once_has lits lit has = fold_has lits [] lit (inr has)

pub once_from : (lits : List ℕ) (lit : ℕ) → Contains (once_each lits) lit → Contains lits lit
once_from lits lit has = elim (fold_from lits [] lit has) [ inl none ↦ absurd (let lt = none.1 in omega arith) | inr there ↦ there ]

-- a clause with a literal and its opposite
pub both_found : (lits : List ℕ) → has_both lits ≡ true → (lit : ℕ) × Contains lits lit × Contains lits (opposite lit)
both_found lits both =
    let one = any_found (λ literal. list_any (λ other. other == opposite literal) lits) lits both in
    let two = any_found (λ other. other == opposite one.0) lits one.2 in
    (one.0, one.1, subst (Contains lits) (eqb-true two.0 (opposite one.0) two.2) two.1)

-- ---- what satisfies clauses

pub hold_all : (values : ℕ → Bool) (clauses : List Clause) → All (Satisfies values) clauses → all_hold values clauses ≡ true
hold_all values clauses all = list_all-from_AllPass (holds values) clauses all

pub all_holding : (values : ℕ → Bool) (clauses : List Clause) → all_hold values clauses ≡ true → All (Satisfies values) clauses
all_holding values clauses all = AllPass-from_list_all (holds values) clauses all

pub written_satisfied : (values : ℕ → Bool) (lits : List ℕ) → All (Satisfies values) (written lits) → holds values lits ≡ true
written_satisfied values lits all = sym (written_holds values lits) ∙ hold_all values (written lits) all

pub satisfied_written : (values : ℕ → Bool) (lits : List ℕ) → holds values lits ≡ true → All (Satisfies values) (written lits)
satisfied_written values lits is = all_holding values (written lits) (written_holds values lits ∙ is)

pub all_first : {X : Type 0} (P : X → Type 0) (xs ys : List X) → All P (xs ++ ys) → All P xs
all_first P [] ys all = All-nil P
all_first P (x ∷ xs) ys all = All-cons P x xs (all zero x (omega arith)) (all_first P xs ys (All-tail P x (xs ++ ys) all))

pub all_second : {X : Type 0} (P : X → Type 0) (xs ys : List X) → All P (xs ++ ys) → All P ys
all_second P [] ys all = all
all_second P (x ∷ xs) ys all = all_second P xs ys (All-tail P x (xs ++ ys) all)

-- an AND, and a difference, of three bits

and_test : Bool → Bool → Bool → Bool
and_test v x y = ((not v || (x || false)) && (not v || (y || false))) && (v || (not x || (not y || false)))

differ_test : Bool → Bool → Bool → Bool
differ_test d n g = (((not d || (n || (g || false))) && (not d || (not n || (not g || false)))) && (d || (not n || (g || false)))) && (d || (n || (not g || false)))

-- whether two bits differ
abbrev pub unlike : Bool → Bool → Bool
unlike n g = cond n (not g) g

and_said : (v x y : Bool) → and_test v x y ≡ true → v ≡ (x && y)
unfolding and_test
and_said true true true is = refl
and_said true true false is = cc
and_said true false true is = cc
and_said true false false is = cc
and_said false true true is = cc
and_said false true false is = refl
and_said false false true is = refl
and_said false false false is = refl

said_and : (v x y : Bool) → v ≡ (x && y) → and_test v x y ≡ true
unfolding and_test
said_and true true true is = refl
said_and true true false is = cc
said_and true false true is = cc
said_and true false false is = cc
said_and false true true is = cc
said_and false true false is = refl
said_and false false true is = refl
said_and false false false is = refl

differ_said : (d n g : Bool) → differ_test d n g ≡ true → d ≡ unlike n g
unfolding differ_test
differ_said true true true is = cc
differ_said true true false is = refl
differ_said true false true is = refl
differ_said true false false is = cc
differ_said false true true is = refl
differ_said false true false is = cc
differ_said false false true is = cc
differ_said false false false is = refl

said_differ : (d n g : Bool) → d ≡ unlike n g → differ_test d n g ≡ true
unfolding differ_test
said_differ true true true is = cc
said_differ true true false is = refl
said_differ true false true is = refl
said_differ true false false is = cc
said_differ false true true is = refl
said_differ false true false is = cc
said_differ false false true is = cc
said_differ false false false is = refl

pub unlike_differs : (n g : Bool) → unlike n g ≡ true → n ≢ g
unlike_differs true true is same = no_true is
unlike_differs true false is same = no_true (sym same)
unlike_differs false true is same = no_true same
unlike_differs false false is same = no_true is

pub differs_unlike : (n g : Bool) → n ≢ g → unlike n g ≡ true
differs_unlike true true differ = absurd (differ refl)
differs_unlike true false differ = refl
differs_unlike false true differ = refl
differs_unlike false false differ = absurd (differ refl)

-- the clauses of an AND
and_hold : (values : ℕ → Bool) (v x y : ℕ) → all_hold values (and_clauses_of v x y) ≡ and_test (value_of values v) (value_of values x) (value_of values y)
unfolding and_test
and_hold values v x y =
    list_all-append (holds values) (written (opposite v ∷ x ∷ []) ++ written (opposite v ∷ y ∷ [])) (written (v ∷ opposite x ∷ opposite y ∷ []))
    ∙ (ap (λ b. b && all_hold values (written (v ∷ opposite x ∷ opposite y ∷ []))) (list_all-append (holds values) (written (opposite v ∷ x ∷ [])) (written (opposite v ∷ y ∷ [])))
    ∙ rw (written_holds values (opposite v ∷ x ∷ []), written_holds values (opposite v ∷ y ∷ []), written_holds values (v ∷ opposite x ∷ opposite y ∷ []), opposite_value values v, opposite_value values x, opposite_value values y) refl)

pub and_means : (values : ℕ → Bool) (v x y : ℕ) → All (Satisfies values) (and_clauses_of v x y) → value_of values v ≡ (value_of values x && value_of values y)
and_means values v x y all = and_said _ _ _ (sym (and_hold values v x y) ∙ hold_all values (and_clauses_of v x y) all)

pub means_and : (values : ℕ → Bool) (v x y : ℕ) → value_of values v ≡ (value_of values x && value_of values y) → All (Satisfies values) (and_clauses_of v x y)
means_and values v x y is = all_holding values (and_clauses_of v x y) (and_hold values v x y ∙ said_and _ _ _ is)

-- the clauses of a difference
differ_hold : (values : ℕ → Bool) (d n g : ℕ) → all_hold values (differ_clauses_of d n g) ≡ differ_test (value_of values d) (value_of values n) (value_of values g)
unfolding differ_test
differ_hold values d n g =
    let one = written (opposite d ∷ n ∷ g ∷ []) in
    let two = written (opposite d ∷ opposite n ∷ opposite g ∷ []) in
    let three = written (d ∷ opposite n ∷ g ∷ []) in
    let four = written (d ∷ n ∷ opposite g ∷ []) in
    list_all-append (holds values) ((one ++ two) ++ three) four
    ∙ (ap (λ b. b && all_hold values four) (list_all-append (holds values) (one ++ two) three ∙ ap (λ b. b && all_hold values three) (list_all-append (holds values) one two))
    ∙ rw (
      written_holds values (opposite d ∷ n ∷ g ∷ []),
      written_holds values (opposite d ∷ opposite n ∷ opposite g ∷ []),
      written_holds values (d ∷ opposite n ∷ g ∷ []),
      written_holds values (d ∷ n ∷ opposite g ∷ []),
      opposite_value values d,
      opposite_value values n,
      opposite_value values g,
    ) refl)

pub differ_means : (values : ℕ → Bool) (d n g : ℕ) → All (Satisfies values) (differ_clauses_of d n g) → value_of values d ≡ unlike (value_of values n) (value_of values g)
differ_means values d n g all = differ_said _ _ _ (sym (differ_hold values d n g) ∙ hold_all values (differ_clauses_of d n g) all)

pub means_differ : (values : ℕ → Bool) (d n g : ℕ) → value_of values d ≡ unlike (value_of values n) (value_of values g) → All (Satisfies values) (differ_clauses_of d n g)
means_differ values d n g is = all_holding values (differ_clauses_of d n g) (differ_hold values d n g ∙ said_differ _ _ _ is)
