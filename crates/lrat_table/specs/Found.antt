-- Clauses by their ids, as a function.
use Rattle.std.specs.Prelude.{ℕ, suc, zero, ◌==◌, if◌then◌else◌, List, Option, Some, None, slice_get}
use Rattle.rsfq_ids.specs.Formula.{Clause}

-- the clause of an id, if there is one
abbrev pub Found : Type 0
Found = ℕ → Option Clause

-- the clauses of a formula have the ids from 1 on
abbrev pub given_at : List Clause → Found
given_at clauses zero = None
given_at clauses (suc place) = slice_get clauses place

abbrev pub with_clause : Found → ℕ → Clause → Found
with_clause found id clause other = if other == id then Some clause else found other

abbrev pub without_clause : Found → ℕ → Found
without_clause found id other = if other == id then None else found other
