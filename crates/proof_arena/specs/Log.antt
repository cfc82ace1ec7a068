-- What a proof log means: the clauses that were given, and the steps after them.
use Rattle.std.specs.Prelude.{◌≡◌, ℕ, Bool, ◌<◌, ◌-◌, ◌^◌, List, [], ◌∷◌, ◌++◌, length, map, ⊤, IsSomeAnd, slice_get}
use Rattle.std.specs.List.{All}
use Rattle.rsfq_ids.specs.Formula.{Clause, Satisfies}
use Rattle.proof_arena.specs.Step.{StepHolds}

pub record LogStep : Type 0 where
  pub lits : Clause
  pub hints : List ℕ

pub record Log : Type 0 where
  pub vars : ℕ
  pub given : List Clause
  pub steps : List LogStep

-- the clauses of steps
abbrev pub lits_of : List LogStep → List Clause
lits_of steps = map (λ (step : LogStep). step.lits) steps

-- all clauses, by their numbers from 0
abbrev pub clauses_of : Log → List Clause
clauses_of log = log.given ++ lits_of log.steps

-- a step holds against the clauses before it, and the printed number of each of its hints, which is one more, is at most 4,294,967,295, also behind the conflict
pub record IsLogStep (vars : ℕ) (before : List Clause) (step : LogStep) : Type 0 where
  pub holds : StepHolds vars before step.lits step.hints
  pub printed : All (λ hint. hint < 2 ^ 32 - 1) step.hints

-- and so does each step
abbrev pub StepsHold : ℕ → List Clause → List LogStep → Type 0
StepsHold vars before [] = ⊤
StepsHold vars before (step ∷ rest) = IsLogStep vars before step × StepsHold vars (before ++ step.lits ∷ []) rest

-- each assignment that satisfies the clauses given satisfies all clauses of the log
abbrev pub ClausesFollow : Log → Type 0
ClausesFollow log = (values : ℕ → Bool) → All (Satisfies values) log.given → All (Satisfies values) (clauses_of log)

-- there is a last step, and its clause is empty
abbrev pub HasEnded : List LogStep → Type 0
HasEnded steps = IsSomeAnd (slice_get steps (length steps - 1)) (λ (step : LogStep). step.lits ≡ [])
