-- A step that holds adds a clause that follows: each assignment that satisfies the clauses before it satisfies it too.
use Rattle.std.proofs.Common.{◌≡◌, ◌∙◌, ◌<◌, ◌+◌, ◌-◌, ◌*◌, ◌/◌, ◌%◌, ℕ, Bool, true, false, zero, suc, refl, sym, ap, subst, arith, List, [], ◌∷◌, ◌++◌, length, inl, inr, append-nil, append_assoc, Option, Some, None}
use Rattle.std.specs.Prelude.{◌==◌, ◌||◌, ◌&&◌, not, IsSomeAnd, slice_get}
use Rattle.std.specs.List.{All, list_any, list_all, filter}
use Rattle.std.specs.Option.{option_map}
use Rattle.std.proofs.Math.Nat.{div-add-mod, mod-lt}
use Rattle.std.proofs.lemmas.Bool.{cases_Bool, eqb-true}
use Rattle.std.proofs.lemmas.Option.{slice_get-map, slice_get_within, get_or_from_slice_get}
use Rattle.std.proofs.lemmas.List.Elements.{All-push, All-tail}
use Rattle.rsfq_ids.specs.Formula.{Clause, opposite, value_of, Satisfies, HasSolution}
use Rattle.proof_arena.specs.Step.{reading, reading_of_rest, is_among, makes_false, after_hint, after_clause, ends_in_conflict, StepHolds}
use Rattle.proof_arena.specs.Log.{LogStep, StepsHold, HasEnded, lits_of}
use Rattle.proof_arena.specs.Laws.{Agrees, IsTrueReading}
use Rattle.proof_arena.proofs.Marked.{eqb-false}

or_right : (b c : Bool) → b ≡ false → (b || c) ≡ true → c ≡ true
or_right true c e is = cc
or_right false c e is = is

no_true : false ≡ true → ⊥
no_true e = cc

and_left : (b c : Bool) → (b && c) ≡ true → b ≡ true
and_left true c e = refl
and_left false c e = e

and_right : (b c : Bool) → (b && c) ≡ true → c ≡ true
and_right true c e = e
and_right false c e = cc

or_first : (b c : Bool) → (b || c) ≡ false → b ≡ false
or_first true c e = e
or_first false c e = refl

or_second : (b c : Bool) → (b || c) ≡ false → c ≡ false
or_second true c e = cc
or_second false c e = e

-- the clause at a place
at_place : (values : ℕ → Bool) (clauses : List Clause) (k : ℕ) (clause : Clause) → All (Satisfies values) clauses → slice_get clauses k ≡ Some clause
    → Satisfies values clause
at_place values clauses k clause all is =
    subst (Satisfies values) (get_or_from_slice_get clauses k clause clause is) (all k clause (slice_get_within clauses k clause is))

odd_one : (n : ℕ) → n < 2 → (n == 0) ≡ false → n ≡ 1
odd_one zero lt e = cc
odd_one (suc zero) lt e = refl
odd_one (suc (suc n)) lt e = absurd (omega arith)

not_true : (b : Bool) → not b ≡ true → b ≡ false
not_true true e = sym e
not_true false e = refl

-- the variable of the opposite literal
opposite-even : (lit : ℕ) → (lit % 2 == 0) ≡ true → ((opposite lit % 2 == 0) ≡ false) × (opposite lit / 2 ≡ lit / 2)
opposite-even lit even =
    let is : lit % 2 ≡ 0 = eqb-true _ _ even in
    let whole : 2 * (lit / 2) + lit % 2 ≡ lit = div-add-mod lit 2 in
    let next : 2 * ((lit + 1) / 2) + (lit + 1) % 2 ≡ lit + 1 = div-add-mod (lit + 1) 2 in
    let small : (lit + 1) % 2 < 2 = mod-lt (lit + 1) {m = 2} (omega arith) in
    rw even (eqb-false _ _ (λ e. omega arith), omega arith)

opposite-odd : (lit : ℕ) → (lit % 2 == 0) ≡ false → ((opposite lit % 2) ≡ 0) × (opposite lit / 2 ≡ lit / 2)
opposite-odd lit odd =
    let whole : 2 * (lit / 2) + lit % 2 ≡ lit = div-add-mod lit 2 in
    let small : lit % 2 < 2 = mod-lt lit {m = 2} (omega arith) in
    let one : lit % 2 ≡ 1 = odd_one (lit % 2) small odd in
    let next : 2 * ((lit - 1) / 2) + (lit - 1) % 2 ≡ lit - 1 = div-add-mod (lit - 1) 2 in
    let less : (lit - 1) % 2 < 2 = mod-lt (lit - 1) {m = 2} (omega arith) in
    rw odd (omega arith, omega arith)

-- a literal and its opposite have opposite values
pub value-opposite : (values : ℕ → Bool) (lit : ℕ) → value_of values lit ≡ true → value_of values (opposite lit) ≡ false
value-opposite values lit is = elim (cases_Bool (lit % 2 == 0)) [
  | inl even ↦
      let other = opposite-even lit even in
      let known : values (lit / 2) ≡ true = rw even at is in
      rw (other.0, other.1, known) refl
  | inr odd ↦
      let other = opposite-odd lit odd in
      let known : not (values (lit / 2)) ≡ true = rw odd at is in
      rw (other.0, other.1) (not_true (values (lit / 2)) known)
]

-- the literal that satisfies a clause is one that is not false
kept : (values falses : ℕ → Bool) → Agrees values falses → (clause : Clause) → list_any (value_of values) clause ≡ true
    → list_any (value_of values) (filter (λ lit. not (falses lit)) clause) ≡ true
kept values falses agrees [] is = is
kept values falses agrees (lit ∷ clause) is = elim (cases_Bool (falses lit)) [
  | inl so ↦ rw so (kept values falses agrees clause (or_right _ _ (agrees lit so) is))
  | inr not_so ↦ elim (cases_Bool (value_of values lit)) [
    | inl true_lit ↦ rw (not_so, true_lit) refl
    | inr false_lit ↦ rw (not_so, false_lit) (kept values falses agrees clause (or_right _ _ false_lit is))
  ]
]

-- where all literals are one, it is the one that satisfies
one_true : (values : ℕ → Bool) (lit : ℕ) (rest : Clause) → list_all (λ other. lit == other) rest ≡ true → list_any (value_of values) rest ≡ true
    → value_of values lit ≡ true
one_true values lit [] same is = absurd (no_true is)
one_true values lit (x ∷ rest) same is =
    let first : (lit == x) ≡ true = and_left (lit == x) (list_all (λ other. lit == other) rest) same in
    let others : list_all (λ other. lit == other) rest ≡ true = and_right (lit == x) _ same in
    elim (cases_Bool (value_of values x)) [
      | inl so ↦ subst (λ l. value_of values l ≡ true) (sym (eqb-true lit x first)) so
      | inr not_so ↦ one_true values lit rest others (or_right _ _ not_so is)
    ]

unit_true : (values : ℕ → Bool) (lit : ℕ) (rest : Clause) → list_all (λ other. lit == other) rest ≡ true
    → list_any (value_of values) (lit ∷ rest) ≡ true → value_of values lit ≡ true
unit_true values lit rest same is = elim (cases_Bool (value_of values lit)) [
  | inl so ↦ so
  | inr not_so ↦ one_true values lit rest same (or_right _ _ not_so is)
]

-- making a true literal true agrees
agrees_on : (values falses : ℕ → Bool) (lit : ℕ) → Agrees values falses → value_of values lit ≡ true → Agrees values (makes_false falses (opposite lit))
agrees_on values falses lit agrees is other made = elim (cases_Bool (other == opposite lit)) [
  | inl same ↦ subst (λ l. value_of values l ≡ false) (sym (eqb-true other (opposite lit) same)) (value-opposite values lit is)
  | inr not_so ↦ agrees other (or_right _ _ not_so made)
]

-- the rest of a satisfied clause leads to no conflict
on_rest : (values falses : ℕ → Bool) (rest : (ℕ → Bool) → Bool) → ((known : ℕ → Bool) → Agrees values known → rest known ≡ true → ⊥)
    → Agrees values falses → (left : Clause) → list_any (value_of values) left ≡ true → after_hint falses rest (reading_of_rest falses left) ≡ true → ⊥
on_rest values falses rest onward agrees [] is ends = no_true is
on_rest values falses rest onward agrees (lit ∷ left) is ends = elim (cases_Bool (list_any (λ l. falses (opposite l)) (lit ∷ left))) [
  | inl passed ↦ onward falses agrees (rw passed at ends)
  | inr none ↦ elim (cases_Bool (list_all (λ other. lit == other) left)) [
    | inl same ↦ onward (makes_false falses (opposite lit)) (agrees_on values falses lit agrees (unit_true values lit left same is)) (rw (none, same) at ends)
    | inr more ↦ no_true (rw (none, more) at ends)
  ]
]

on_clause : (values : ℕ → Bool) (clauses : List Clause) → All (Satisfies values) clauses → (falses : ℕ → Bool) (rest : (ℕ → Bool) → Bool)
    → ((known : ℕ → Bool) → Agrees values known → rest known ≡ true → ⊥) → Agrees values falses → (hint : ℕ) (found : Option Clause)
    → slice_get clauses hint ≡ found → after_clause falses rest found ≡ true → ⊥
on_clause values clauses all falses rest onward agrees hint None is ends = no_true ends
on_clause values clauses all falses rest onward agrees hint (Some clause) is ends = on_rest values falses rest onward agrees
    (filter (λ lit. not (falses lit)) clause) (kept values falses agrees clause (at_place values clauses hint clause all is)) ends

-- hints over satisfied clauses end in no conflict
no_conflict : (values : ℕ → Bool) (clauses : List Clause) → All (Satisfies values) clauses → (hints : List ℕ) (falses : ℕ → Bool) → Agrees values falses
    → ends_in_conflict clauses falses hints ≡ true → ⊥
no_conflict values clauses all [] falses agrees ends = no_true ends
no_conflict values clauses all (hint ∷ hints) falses agrees ends =
    on_clause values clauses all falses (λ known. ends_in_conflict clauses known hints) (no_conflict values clauses all hints) agrees hint
    (slice_get clauses hint) refl ends

pub none_among : (values : ℕ → Bool) (lits : Clause) → list_any (value_of values) lits ≡ false → Agrees values (is_among lits)
none_among values [] none lit among = absurd (no_true among)
none_among values (x ∷ lits) none lit among =
    let first : value_of values x ≡ false = or_first _ _ none in
    let others : list_any (value_of values) lits ≡ false = or_second _ _ none in
    elim (cases_Bool (lit == x)) [
      | inl same ↦ subst (λ l. value_of values l ≡ false) (sym (eqb-true lit x same)) first
      | inr not_so ↦ none_among values lits others lit (or_right _ _ not_so among)
    ]

-- a step that holds follows from the clauses before it
pub step_sound : (values : ℕ → Bool) (vars : ℕ) (clauses : List Clause) (lits : Clause) (hints : List ℕ) → StepHolds vars clauses lits hints
    → All (Satisfies values) clauses → Satisfies values lits
unfolding StepHolds
step_sound values vars clauses lits hints holds all = elim (cases_Bool (list_any (value_of values) lits)) [
  | inl so ↦ so
  | inr none ↦ absurd (no_conflict values clauses all hints (is_among lits) (none_among values lits none) holds.2)
]

-- and so do all steps
pub steps_sound : (values : ℕ → Bool) (vars : ℕ) (before : List Clause) (steps : List LogStep) → StepsHold vars before steps
    → All (Satisfies values) before → All (Satisfies values) (before ++ lits_of steps)
steps_sound values vars before [] hold all = subst (All (Satisfies values)) (sym (append-nil before)) all
steps_sound values vars before (s ∷ steps) hold all =
    let one : Satisfies values s.lits = step_sound values vars before s.lits s.hints hold.0.holds all in
    subst (All (Satisfies values)) (append_assoc before (s.lits ∷ []) (lits_of steps))
    (steps_sound values vars (before ++ s.lits ∷ []) steps hold.1 (All-push (Satisfies values) before s.lits all one))

ended_at : (values : ℕ → Bool) (steps : List LogStep) (found : Option LogStep) → slice_get steps (length steps - 1) ≡ found
    → IsSomeAnd found (λ (step : LogStep). step.lits ≡ []) → All (Satisfies values) (lits_of steps) → ⊥
ended_at values steps None is ended all = ended
ended_at values steps (Some s) is ended all =
    let there : slice_get (lits_of steps) (length steps - 1) ≡ Some s.lits =
    slice_get-map (λ (t : LogStep). t.lits) steps (length steps - 1) ∙ ap (option_map (λ (t : LogStep). t.lits)) is in
    no_true (subst (Satisfies values) ended (at_place values (lits_of steps) (length steps - 1) s.lits all there))

all_second : (P : Clause → Type 0) (xs ys : List Clause) → All P (xs ++ ys) → All P ys
all_second P [] ys all = all
all_second P (x ∷ xs) ys all = all_second P xs ys (All-tail P x (xs ++ ys) all)

-- a log of steps that hold and that has ended refutes the formula
pub ended_refutes : (vars : ℕ) (given : List Clause) (steps : List LogStep) → StepsHold vars given steps → HasEnded steps → HasSolution given → ⊥
ended_refutes vars given steps hold ended solution =
    ended_at solution.0 steps (slice_get steps (length steps - 1)) refl ended
    (all_second (Satisfies solution.0) given (lits_of steps) (steps_sound solution.0 vars given steps hold solution.1))

-- what is left of a satisfied clause
rest_told : (values falses : ℕ → Bool) → Agrees values falses → (left : Clause) → list_any (value_of values) left ≡ true → IsTrueReading values falses (reading_of_rest falses left)
rest_told values falses agrees [] is = no_true is
rest_told values falses agrees (lit ∷ left) is = elim (cases_Bool (list_any (λ l. falses (opposite l)) (lit ∷ left))) [
  | inl passed ↦ rw passed tt
  | inr none ↦ elim (cases_Bool (list_all (λ other. lit == other) left)) [
    | inl same ↦ rw (none, same) (agrees_on values falses lit agrees (unit_true values lit left same is))
    | inr more ↦ rw (none, more) tt
  ]
]

pub reading_told : (values falses : ℕ → Bool) (clause : Clause) → list_any (value_of values) clause ≡ true → Agrees values falses → IsTrueReading values falses (reading falses clause)
reading_told values falses clause is agrees =
    rest_told values falses agrees (filter (λ lit. not (falses lit)) clause) (kept values falses agrees clause is)
