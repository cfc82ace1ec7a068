-- Lists of steps, with one more at the end.
use Rattle.std.proofs.Common.{◌≡◌, ◌∙◌, ◌<◌, ◌≤◌, ◌+◌, ◌-◌, ℕ, Bool, cond, true, false, zero, suc, refl, sym, ap, subst, arith, List, [], ◌∷◌, ◌++◌, map, length, Some, append_assoc, append-nil, length-append}
use Rattle.std.specs.Prelude.{◌↔◌, ◌==◌, IsTrue, slice_get, option_map}
use Rattle.std.proofs.lemmas.Bool.{eqb-true, eq-eqb}
use Rattle.std.specs.List.{slice_index_or}
use Rattle.std.proofs.lemmas.List.{length-map, map-append}
use Rattle.std.proofs.lemmas.Option.{slice_get-map, slice_get-get_or}
use Rattle.std.proofs.lemmas.Grind.{common_steps}
use Rattle.std.specs.List.{All}
use Rattle.std.proofs.lemmas.List.Elements.{All-cons, All-append}
use Rattle.std.proofs.lemmas.Option.{slice_get_within, get_or_from_slice_get}
use Rattle.rsfq_ids.specs.Formula.{Clause, IsOver}
use Rattle.proof_arena.specs.Step.{StepHolds}
use Rattle.proof_arena.specs.Log.{Log, LogStep, IsLogStep, StepsHold, HasEnded, clauses_of, lits_of}
use Rattle.proof_arena.specs.Held.{log_of, step_of, IsArena}
use Rattle.proof_arena.specs.declared.log.Step.{Step}
use Rattle.proof_arena.specs.declared.log.ProofLog.TheInside.{Inside}

-- one more step, which holds against all before it
pub StepsHold-push : (vars : ℕ) (before : List Clause) (steps : List LogStep) (s : LogStep) → StepsHold vars before steps
    → IsLogStep vars (before ++ lits_of steps) s → StepsHold vars before (steps ++ s ∷ [])
StepsHold-push vars before [] s all one = (subst (λ (b : List Clause). IsLogStep vars b s) (append-nil before) one, tt)
StepsHold-push vars before (x ∷ xs) s all one = (
  all.0,
  StepsHold-push vars (before ++ x.lits ∷ []) xs s all.1
      (subst (λ (b : List Clause). IsLogStep vars b s) (sym (append_assoc before (x.lits ∷ []) (lits_of xs))) one),
)

-- the steps after a push that may have failed
pub pushed_holds : (vars : ℕ) (before : List Clause) (old new : List Step) (b : Bool) (s : Step) → new ≡ cond b (old ++ s ∷ []) old
    → StepsHold vars before (map step_of old) → IsLogStep vars (before ++ lits_of (map step_of old)) (step_of s) → StepsHold vars before (map step_of new)
pushed_holds vars before old new true s is all one = rw (is, map-append step_of old (s ∷ [])) (StepsHold-push vars before (map step_of old) (step_of s) all one)
pushed_holds vars before old new false s is all one = rw is all

pub pushed_fits : (before : List Clause) (old new : List Step) (b : Bool) (s : Step) (most : ℕ) → new ≡ cond b (old ++ s ∷ []) old
    → length (before ++ lits_of (map step_of old)) < most → length (before ++ lits_of (map step_of new)) < most + 1
pushed_fits before old new true s most is lt = rw is (grind (arith, common_steps))
pushed_fits before old new false s most is lt = rw is (omega arith)

-- a place past the first list is one of the second
slice_get-second : {X : Type 0} (xs ys : List X) (k : ℕ) → length xs ≤ k → slice_get (xs ++ ys) k ≡ slice_get ys (k - length xs)
slice_get-second [] ys k le =
    let e : k ≡ k - 0 = omega arith in
    ap (slice_get ys) e
slice_get-second (x ∷ xs) ys zero le = absurd (omega arith)
slice_get-second (x ∷ xs) ys (suc k) le =
    let e : k - length xs ≡ suc k - length (x ∷ xs) = omega arith in
    slice_get-second xs ys k (omega arith) ∙ ap (slice_get ys) e

-- the clause of a step
pub step_clause : (a : Inside) (k : ℕ) (s : Step) → length a.cnf.now.clauses ≤ k → k - length a.cnf.now.clauses < length a.steps.items
    → s ≡ slice_index_or a.steps.items (k - length a.cnf.now.clauses) s → slice_get (clauses_of (log_of a)) k ≡ Some s.lits.now
step_clause a k s le lt is =
    slice_get-second a.cnf.now.clauses (lits_of (map step_of a.steps.items)) k le
    ∙ (slice_get-map (λ (s : LogStep). s.lits) (map step_of a.steps.items) _
    ∙ (ap (option_map (λ (s : LogStep). s.lits)) (slice_get-map step_of a.steps.items (k - length a.cnf.now.clauses)
    ∙ ap (option_map step_of) (slice_get-get_or a.steps.items (k - length a.cnf.now.clauses) s lt ∙ ap Some (sym is)))))

pub clauses_count : (a : Inside) → length (clauses_of (log_of a)) ≡ length a.cnf.now.clauses + length a.steps.items
clauses_count a = simp (length-append, length-map)

no_items : {X : Type 0} (xs : List X) → length xs ≡ 0 → xs ≡ []
no_items [] e = refl
no_items (x ∷ xs) e = absurd (omega arith)

-- the last step is the empty clause
pub ended_by : (items : List Step) (s : Step) (b : Bool) → Some s ≡ slice_get items (length items - 1) → b ≡ (length s.lits.now == 0)
    → IsTrue b ↔ HasEnded (map step_of items)
ended_by items s b is test =
    let last : slice_get (map step_of items) (length (map step_of items) - 1) ≡ Some (step_of s) =
    rw length-map (slice_get-map step_of items (length items - 1) ∙ ap (option_map step_of) (sym is)) in
    rw last (
      (λ yes. no_items s.lits.now (eqb-true _ _ (sym test ∙ yes))),
      (λ none. test ∙ eq-eqb (length s.lits.now) 0 (ap length none)),
    )

step_over : (vars : ℕ) (before : List Clause) (s : LogStep) → StepHolds vars before s.lits s.hints → IsOver vars s.lits
unfolding StepHolds
step_over vars before s holds = holds.0

steps_over : (vars : ℕ) (before : List Clause) (steps : List LogStep) → StepsHold vars before steps → All (IsOver vars) (lits_of steps)
steps_over vars before [] hold = λ k d lt. absurd (omega arith)
steps_over vars before (s ∷ steps) hold =
    All-cons (IsOver vars) s.lits (lits_of steps) (step_over vars before s hold.0.holds) (steps_over vars (before ++ s.lits ∷ []) steps hold.1)

-- each clause of a log is over the formula's variables
pub clause_over : (a : Inside) → IsArena a → (log : Log) → log_of a ≡ log → (k : ℕ) (lits : Clause) → slice_get (clauses_of log) k ≡ Some lits → IsOver log.vars lits
clause_over a sound log view k lits is =
    let all : All (IsOver (log_of a).vars) (clauses_of (log_of a)) =
    All-append (IsOver a.cnf.now.vars) a.cnf.now.clauses (lits_of (map step_of a.steps.items)) sound.formula.lits
    (steps_over a.cnf.now.vars a.cnf.now.clauses (map step_of a.steps.items) sound.holds) in
    let here : All (IsOver log.vars) (clauses_of log) = subst (λ (l : Log). All (IsOver l.vars) (clauses_of l)) view all in
    subst (IsOver log.vars) (get_or_from_slice_get (clauses_of log) k lits lits is) (here k lits (slice_get_within (clauses_of log) k lits is))
