-- What the reading of a clause says of an assignment.
use Rattle.std.specs.Prelude.{◌≡◌, ℕ, Bool, true, false, ⊤}
use Rattle.std.specs.List.{list_any}
use Rattle.rsfq_ids.specs.Formula.{Clause, opposite, value_of, Satisfies}
use Rattle.proof_arena.specs.declared.hint.HintReading.{HintReading}
use Rattle.proof_arena.specs.declared.hint.HintReading.TheVariants.{Conflict, Passed, Unit as UnitLit, NotUnit}
use Rattle.proof_arena.specs.Step.{is_among, makes_false, reading}

-- the literals that are taken as false are false by these values
abbrev pub Agrees : (ℕ → Bool) → (ℕ → Bool) → Type 0
Agrees values falses = (lit : ℕ) → falses lit ≡ true → value_of values lit ≡ false

-- what a reading says of values that satisfy the clause
abbrev pub IsTrueReading : (ℕ → Bool) → (ℕ → Bool) → HintReading → Type 0
IsTrueReading values falses Conflict = ⊥
IsTrueReading values falses Passed = ⊤
IsTrueReading values falses (UnitLit lit) = Agrees values (makes_false falses (opposite lit))
IsTrueReading values falses NotUnit = ⊤

-- a satisfied clause is no conflict, and its one open literal is true
abbrev pub ReadingsAreSound : Type 0
ReadingsAreSound = (values falses : ℕ → Bool) (clause : Clause) → Satisfies values clause → Agrees values falses → IsTrueReading values falses (reading falses clause)

-- the literals of a clause that is not satisfied are false
abbrev pub DenialsAreSound : Type 0
DenialsAreSound = (values : ℕ → Bool) (lits : Clause) → list_any (value_of values) lits ≡ false → Agrees values (is_among lits)
