-- What a clause says, one literal at a time.
use Rattle.std.proofs.Common.{length, get_or, take, drop, subst, drop-cons, add-one, ◌≡◌, ◌∙◌, ◌<◌, ◌≤◌, ◌+◌, ℕ, Bool, true, false, zero, suc, refl, sym, ap, arith, List, [], ◌∷◌, ◌++◌, inl, inr, append-nil}
use Rattle.std.specs.Prelude.{◌==◌, ◌||◌, not, if◌then◌else◌, IsTrue, ◌↔◌, ◌*◌}
use Rattle.std.specs.List.{list_any, list_all, filter}
use Rattle.std.proofs.lemmas.Bool.{cases_Bool}
use Rattle.std.proofs.Math.Path.{fun_ext}
use Rattle.std.proofs.Math.Bool.{or-false}
use Rattle.std.proofs.lemmas.List.Elements.{filter-append, All-filter, All-head}
use Rattle.std.proofs.lemmas.List.{take_more}
use Rattle.std.proofs.lemmas.Option.{slice_get_past}
use Rattle.std.proofs.lemmas.List.Folds.{list_any-append, list_all-append}
use Rattle.rsfq_ids.specs.Formula.{Clause, opposite, IsOver}
use Rattle.proof_arena.specs.Step.{reading, reading_of_rest, reads_on, reads_open, is_among, makes_false, is_tautology, ends_in_conflict, StepHolds}
use Rattle.proof_arena.specs.declared.hint.HintReading.{HintReading}
use Rattle.proof_arena.specs.declared.hint.HintReading.TheVariants.{Conflict, Passed, Unit as UnitLit, NotUnit}

-- one more literal that is not false
rest_more : (falses : ℕ → Bool) (rest : Clause) (lit : ℕ)
    → reading_of_rest falses (rest ++ lit ∷ []) ≡ (if falses (opposite lit) then Passed else reads_open (reading_of_rest falses rest) lit)
rest_more falses [] lit = elim (cases_Bool (falses (opposite lit))) [ inl e ↦ rw e refl | inr e ↦ rw e refl ]
rest_more falses (x ∷ rest) lit =
    let any = list_any-append (λ l. falses (opposite l)) (x ∷ rest) (lit ∷ []) in
    let all = list_all-append (λ other. x == other) rest (lit ∷ []) in
    elim (cases_Bool (falses (opposite lit))) [
      | inl so ↦ elim (cases_Bool (list_any (λ l. falses (opposite l)) (x ∷ rest))) [
        | inl a ↦ rw (any, a, so) refl
        | inr a ↦ rw (any, a, so) refl
      ]
      | inr not_so ↦ elim (cases_Bool (list_any (λ l. falses (opposite l)) (x ∷ rest))) [
        | inl a ↦ rw (any, a, not_so) refl
        | inr a ↦ elim (cases_Bool (list_all (λ other. x == other) rest)) [
          | inl b ↦ elim (cases_Bool (x == lit)) [
            | inl c ↦ rw (any, a, not_so, all, b, c) refl
            | inr c ↦ rw (any, a, not_so, all, b, c) refl
          ]
          | inr b ↦ rw (any, a, not_so, all, b) refl
        ]
      ]
    ]

-- one more literal
pub reading_more : (falses : ℕ → Bool) (clause : Clause) (lit : ℕ) → reading falses (clause ++ lit ∷ []) ≡ reads_on falses (reading falses clause) lit
reading_more falses clause lit =
    let parts = filter-append (λ l. not (falses l)) clause (lit ∷ []) in
    elim (cases_Bool (falses lit)) [
      | inl so ↦ rw (parts, so) (rw (append-nil (filter (λ l. not (falses l)) clause)) refl)
      | inr not_so ↦ rw (parts, not_so) (rest_more falses (filter (λ l. not (falses l)) clause) lit)
    ]

or_turned : (a b f : Bool) → ((a || (b || false)) || f) ≡ (b || (a || f))
or_turned true true f = refl
or_turned true false f = refl
or_turned false true f = refl
or_turned false false f = refl

-- one more literal made false
pub among_more : (falses : ℕ → Bool) (clause : Clause) (lit : ℕ)
    → (λ other. is_among (clause ++ lit ∷ []) other || falses other) ≡ makes_false (λ other. is_among clause other || falses other) lit
among_more falses clause lit = fun_ext (λ other.
    rw (list_any-append (λ x. other == x) clause (lit ∷ [])) (or_turned (is_among clause other) (other == lit) (falses other)))

one_longer : (xs : List ℕ) (i x : ℕ) → i < length xs → x ≡ get_or xs i x → take (i + 1) xs ≡ take i xs ++ x ∷ []
one_longer xs i x lt is = take_more xs i x lt ∙ ap (λ y. take i xs ++ y ∷ []) (sym is)

pub whole : (xs : List ℕ) (i : ℕ) → length xs ≤ i → take i xs ≡ xs
whole [] zero le = refl
whole [] (suc i) le = refl
whole (x ∷ xs) zero le = absurd (omega arith)
whole (x ∷ xs) (suc i) le = ap (λ ys. x ∷ ys) (whole xs i (omega arith))

-- a pass over literals that makes each false
pub deny_more : (start old new : ℕ → Bool) (lits : Clause) (i x : ℕ) → i < length lits → x ≡ get_or lits i x
    → old ≡ (λ lit. is_among (take i lits) lit || start lit) → new ≡ makes_false old x → new ≡ (λ lit. is_among (take (i + 1) lits) lit || start lit)
deny_more start old new lits i x lt is was more =
    rw (one_longer lits i x lt is) (more ∙ ap (λ f. makes_false f x) was ∙ sym (among_more start (take i lits) x))

pub deny_done : (start old : ℕ → Bool) (lits : Clause) (i : ℕ) → length lits ≤ i
    → old ≡ (λ lit. is_among (take i lits) lit || start lit) → old ≡ (λ lit. is_among lits lit || start lit)
deny_done start old lits i le was = was ∙ ap (λ (xs : List ℕ). λ lit. is_among xs lit || start lit) (whole lits i le)

-- a pass over literals that reads each
pub read_more : (falses : ℕ → Bool) (clause : Clause) (i x : ℕ) (said new : HintReading) → i < length clause → x ≡ get_or clause i x
    → said ≡ reading falses (take i clause) → new ≡ reads_on falses said x → new ≡ reading falses (take (i + 1) clause)
read_more falses clause i x said new lt is was more =
    more ∙ ap (λ r. reads_on falses r x) was ∙ sym (reading_more falses (take i clause) x) ∙ ap (reading falses) (sym (one_longer clause i x lt is))

-- the next hint
pub next_hint : (hints : List ℕ) (i x : ℕ) → i < length hints → x ≡ get_or hints i x → drop i hints ≡ x ∷ drop (i + 1) hints
next_hint hints i x lt is = rw add-one (drop-cons hints i x lt ∙ ap (λ y. y ∷ drop (suc i) hints) (sym is))

pub hint_past : (clauses : List Clause) (falses : ℕ → Bool) (hints : List ℕ) (i x : ℕ) → i < length hints → x ≡ get_or hints i x
    → length clauses ≤ x → false ≡ ends_in_conflict clauses falses (drop i hints)
hint_past clauses falses hints i x lt is past = rw (next_hint hints i x lt is, slice_get_past clauses x past) refl

same_unit : (x lit : ℕ) → UnitLit x ≡ UnitLit lit → x ≡ lit
same_unit x lit e = cc

not_unit : (lit : ℕ) → NotUnit ≡ UnitLit lit → ⊥
not_unit lit e = cc

not_passed : (lit : ℕ) → Passed ≡ UnitLit lit → ⊥
not_passed lit e = cc

not_conflict : (lit : ℕ) → Conflict ≡ UnitLit lit → ⊥
not_conflict lit e = cc

unit_of_rest : (falses : ℕ → Bool) (vars : ℕ) (left : Clause) (lit : ℕ) → IsOver vars left → reading_of_rest falses left ≡ UnitLit lit → lit < 2 * vars
unit_of_rest falses vars [] lit over is = absurd (not_conflict lit is)
unit_of_rest falses vars (x ∷ left) lit over is = elim (cases_Bool (list_any (λ l. falses (opposite l)) (x ∷ left))) [
  | inl passed ↦ absurd (not_passed lit (rw passed at is))
  | inr none ↦ elim (cases_Bool (list_all (λ other. x == other) left)) [
    | inl same ↦ subst (λ l. l < 2 * vars) (same_unit x lit (rw (none, same) at is)) (All-head (λ l. l < 2 * vars) x left over)
    | inr more ↦ absurd (not_unit lit (rw (none, more) at is))
  ]
]

-- the open literal is one of the clause's
pub unit_over : (falses : ℕ → Bool) (vars : ℕ) (clause : Clause) (lit : ℕ) → IsOver vars clause → UnitLit lit ≡ reading falses clause → lit < 2 * vars
unit_over falses vars clause lit over is =
    unit_of_rest falses vars (filter (λ l. not (falses l)) clause) lit (All-filter (λ l. not (falses l)) (λ l. l < 2 * vars) clause over) (sym is)

-- marks that were cleared and then deny a clause
pub denied : (lits : Clause) (marked cleared : ℕ → Bool) → marked ≡ (λ lit. is_among lits lit || cleared lit) → cleared ≡ (λ _. false) → marked ≡ is_among lits
denied lits marked cleared is none =
    is ∙ ap (λ (f : ℕ → Bool). λ lit. is_among lits lit || f lit) none ∙ fun_ext (λ lit. or-false (is_among lits lit))

nothing : {A : Type 0} → IsTrue false → A
nothing e = cc

-- a step is judged by its three parts
pub not_over : (vars : ℕ) (clauses : List Clause) (lits : Clause) (hints : List ℕ) → (IsOver vars lits → ⊥) → IsTrue false ↔ StepHolds vars clauses lits hints
unfolding StepHolds
not_over vars clauses lits hints differ = (λ e. nothing e, λ holds. absurd (differ holds.0))

pub tautologous : (vars : ℕ) (clauses : List Clause) (lits : Clause) (hints : List ℕ) → is_tautology lits ≡ true → IsTrue false ↔ StepHolds vars clauses lits hints
unfolding StepHolds
tautologous vars clauses lits hints is = (λ e. nothing e, λ holds. sym holds.1 ∙ is)

pub judged : (vars : ℕ) (clauses : List Clause) (lits : Clause) (hints : List ℕ) (b : Bool) → IsOver vars lits → is_tautology lits ≡ false
    → b ≡ ends_in_conflict clauses (is_among lits) hints → IsTrue b ↔ StepHolds vars clauses lits hints
unfolding StepHolds
judged vars clauses lits hints b over plain is = (λ so. (over, plain, sym is ∙ so), λ holds. is ∙ holds.2)
