-- The text of a log in the LRAT text format: a line for each step, with one space between fields and no deletions.
use Rattle.std.specs.Prelude.{◌≡◌, ℕ, ◌+◌, List, [], ◌∷◌, ◌++◌, length, decimal, None}
use Rattle.std.specs.List.{flat_map}
use Rattle.rsfq_ids.specs.declared.circuit.Cnf.{Cnf}
use Rattle.proof_arena.specs.Log.{Log, LogStep, HasEnded}
use Rattle.dimacs_text.specs.Text.{spaced_literal}
use Rattle.lrat_check.specs.Check.{text_fault}

-- a hint and a space (32): clauses are numbered from 0, and printed ids are one more
abbrev pub spaced_hint : ℕ → List ℕ
spaced_hint hint = decimal (hint + 1) ++ 32 ∷ []

-- the id, the literals and the digit 0 (48), each with a space behind it
abbrev pub clause_fields : ℕ → List ℕ → List ℕ
clause_fields id lits = decimal id ++ 32 ∷ [] ++ flat_map spaced_literal lits ++ 48 ∷ 32 ∷ []

-- the line of a step: the fields of its clause, its hints, and the digit 0 at the line's end (10)
abbrev pub step_line : ℕ → LogStep → List ℕ
step_line id step = clause_fields id step.lits ++ flat_map spaced_hint step.hints ++ 48 ∷ 10 ∷ []

-- the lines of steps, whose ids begin at this one
abbrev pub step_lines : ℕ → List LogStep → List ℕ
step_lines id [] = []
step_lines id (step ∷ steps) = step_line id step ++ step_lines (id + 1) steps

-- the text of a log: the clauses that were given have the ids from 1 on, and the steps those behind them
abbrev pub lrat_of : Log → List ℕ
lrat_of log = step_lines (length log.given + 1) log.steps

-- the log begins from this formula
pub record StandsFor (log : Log) (cnf : Cnf) : Type 0 where
  pub vars : log.vars ≡ cnf.vars
  pub given : log.given ≡ cnf.clauses

-- where the log has ended, its text is a proof of the formula that has no fault
abbrev pub IsAccepted : Cnf → Log → Type 0
IsAccepted cnf log = HasEnded log.steps → text_fault cnf (lrat_of log) ≡ None
