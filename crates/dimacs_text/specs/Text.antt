-- The text of a formula in the DIMACS format (DIMACS challenge of 1993, "Satisfiability Suggested Format").
use Rattle.std.specs.Prelude.{ℕ, ◌+◌, ◌/◌, ◌%◌, ◌==◌, if◌then◌else◌, List, [], ◌∷◌, ◌++◌, length, decimal}
use Rattle.std.specs.List.{flat_map}
use Rattle.rsfq_ids.specs.declared.circuit.Cnf.{Cnf}

-- a literal: its variable, counted from 1, behind a hyphen (45) for the negation
abbrev pub literal_text : ℕ → List ℕ
literal_text lit = (if lit % 2 == 1 then 45 ∷ [] else []) ++ decimal (lit / 2 + 1)

-- a literal and a space (32)
abbrev pub spaced_literal : ℕ → List ℕ
spaced_literal lit = literal_text lit ++ 32 ∷ []

-- the line of a clause: its literals, and the digit 0 (48) at the line's end (10)
abbrev pub clause_line : List ℕ → List ℕ
clause_line clause = flat_map spaced_literal clause ++ 48 ∷ 10 ∷ []

-- the first line: `p cnf `, the number of variables, a space, and the number of clauses
abbrev pub head_line : ℕ → ℕ → List ℕ
head_line vars clauses = (112 ∷ 32 ∷ 99 ∷ 110 ∷ 102 ∷ 32 ∷ []) ++ decimal vars ++ 32 ∷ [] ++ decimal clauses ++ 10 ∷ []

-- the text of a formula: its head, and a line for each clause
abbrev pub dimacs_of : Cnf → List ℕ
dimacs_of cnf = head_line cnf.vars (length cnf.clauses) ++ flat_map clause_line cnf.clauses
