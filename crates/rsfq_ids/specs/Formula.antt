-- Formulas: literals, clauses, and what satisfies them. The format is that of the DIMACS challenge of 1993.
use Rattle.std.specs.Prelude.{ℕ, ◌+◌, ◌-◌, ◌*◌, ◌/◌, ◌%◌, ◌<◌, ◌≤◌, ◌==◌, Bool, not, if◌then◌else◌, List, length, IsTrue, ◌≢◌}
use Rattle.std.specs.List.{All, AllPairs, list_any}
use Rattle.rsfq_ids.specs.declared.limits.TheConstants.{FORMULA_LIMIT}
use Rattle.rsfq_ids.specs.declared.circuit.Cnf.{Cnf}

-- A literal is twice its variable, plus 1 for the negation. A clause is its list of literals.
abbrev pub Clause : Type 0
Clause = List ℕ

-- the other literal of the same variable
abbrev pub opposite : ℕ → ℕ
opposite lit = if lit % 2 == 0 then lit + 1 else lit - 1

-- the value of a literal where each variable has a value
abbrev pub value_of : (ℕ → Bool) → ℕ → Bool
value_of values lit = if lit % 2 == 0 then values (lit / 2) else not (values (lit / 2))

-- one of the clause's literals is true
abbrev pub Satisfies : (ℕ → Bool) → Clause → Type 0
Satisfies values clause = IsTrue (list_any (value_of values) clause)

-- values of the variables that satisfy all of the clauses
abbrev pub HasSolution : List Clause → Type 0
HasSolution clauses = (values : ℕ → Bool) × All (Satisfies values) clauses

-- each literal is one of so many variables
abbrev pub IsOver : ℕ → Clause → Type 0
IsOver vars clause = All (λ lit. lit < 2 * vars) clause

-- A well-formed formula. No clause holds a literal twice.
pub record IsFormula (cnf : Cnf) : Type 0 where
  pub lits : All (IsOver cnf.vars) cnf.clauses
  pub once : All (λ clause. AllPairs (λ one other. one ≢ other) clause) cnf.clauses
  pub vars : cnf.vars ≤ FORMULA_LIMIT
  pub count : length cnf.clauses ≤ FORMULA_LIMIT
