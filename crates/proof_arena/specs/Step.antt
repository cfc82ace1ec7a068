-- When a step of a proof holds: reading its hints in order ends in a clause all of whose literals are false.
-- The reading is that of LRAT (Cruz-Filipe, Heule, Hunt, Kaufmann, Schneider-Kamp: Efficient certified RAT verification, 2017), without RAT.
use Rattle.std.specs.Prelude.{◌≡◌, ℕ, ◌==◌, Bool, true, false, not, ◌||◌, if◌then◌else◌, List, [], ◌∷◌, Option, Some, None, IsTrue, slice_get}
use Rattle.std.specs.List.{list_any, list_all, filter}
use Rattle.proof_arena.specs.declared.hint.HintReading.{HintReading}
use Rattle.proof_arena.specs.declared.hint.HintReading.TheVariants.{Conflict, Passed, Unit as UnitLit, NotUnit}
use Rattle.rsfq_ids.specs.Formula.{Clause, opposite, IsOver}

-- whether a literal is among those of a clause
abbrev pub is_among : Clause → ℕ → Bool
is_among clause lit = list_any (λ other. lit == other) clause

-- Literals that are false, and one more.
abbrev pub makes_false : (ℕ → Bool) → ℕ → ℕ → Bool
makes_false falses lit other = (other == lit) || falses other

-- What a clause says by those of its literals that are not false: all are false, or one is true, or all that are left are one literal, or none of these.
abbrev pub reading_of_rest : (ℕ → Bool) → Clause → HintReading
reading_of_rest falses [] = Conflict
reading_of_rest falses (lit ∷ rest) =
    if list_any (λ l. falses (opposite l)) (lit ∷ rest) then Passed else if list_all (λ other. lit == other) rest then UnitLit lit else NotUnit

abbrev pub reading : (ℕ → Bool) → Clause → HintReading
reading falses clause = reading_of_rest falses (filter (λ lit. not (falses lit)) clause)

-- the same, one literal at a time
abbrev pub reads_open : HintReading → ℕ → HintReading
reads_open Conflict lit = UnitLit lit
reads_open Passed lit = Passed
reads_open (UnitLit other) lit = if other == lit then UnitLit other else NotUnit
reads_open NotUnit lit = NotUnit

abbrev pub reads_on : (ℕ → Bool) → HintReading → ℕ → HintReading
reads_on falses said lit = if falses lit then said else if falses (opposite lit) then Passed else reads_open said lit

-- What follows a hint: the step holds at a conflict, and fails at a clause with two open literals. The literal of a unit clause is made true.
abbrev pub after_hint : (ℕ → Bool) → ((ℕ → Bool) → Bool) → HintReading → Bool
after_hint falses rest Conflict = true
after_hint falses rest Passed = rest falses
after_hint falses rest (UnitLit lit) = rest (makes_false falses (opposite lit))
after_hint falses rest NotUnit = false

-- what follows a hint by the clause that it names, if there is one
abbrev pub after_clause : (ℕ → Bool) → ((ℕ → Bool) → Bool) → Option Clause → Bool
after_clause falses rest None = false
after_clause falses rest (Some clause) = after_hint falses rest (reading falses clause)

-- whether hints, read in order against numbered clauses, end in a conflict
abbrev pub ends_in_conflict : List Clause → (ℕ → Bool) → List ℕ → Bool
ends_in_conflict clauses falses [] = false
ends_in_conflict clauses falses (hint ∷ hints) = after_clause falses (λ known. ends_in_conflict clauses known hints) (slice_get clauses hint)

-- whether a clause has a literal and its opposite
abbrev pub is_tautology : Clause → Bool
is_tautology lits = list_any (λ lit. is_among lits (opposite lit)) lits

-- A step holds against numbered clauses over so many variables: its clause is over them and has no literal with its opposite, and where all
-- literals of the clause are false its hints end in a conflict.
unfoldable pub StepHolds : ℕ → List Clause → Clause → List ℕ → Type 0
StepHolds vars clauses lits hints =
    IsOver vars lits × (is_tautology lits ≡ false) × IsTrue (ends_in_conflict clauses (is_among lits) hints)
