-- When a proof in the LRAT text format holds: line by line, against the clauses that are known by their ids.
-- The format is that of Cruz-Filipe, Heule, Hunt, Kaufmann and Schneider-Kamp (Efficient certified RAT verification, 2017), without RAT.
use Rattle.std.specs.Prelude.{ℕ, ◌+◌, ◌||◌, Bool, false, not, if◌then◌else◌, List, [], ◌∷◌, length, map, Option, Some, None, Result, Ok, Err, nat_lt}
use Rattle.rsfq_ids.specs.Formula.{Clause, opposite}
use Rattle.rsfq_ids.specs.declared.circuit.Cnf.{Cnf}
use Rattle.proof_arena.specs.Step.{is_among, makes_false, reading, is_tautology}
use Rattle.proof_arena.specs.declared.hint.HintReading.{HintReading}
use Rattle.proof_arena.specs.declared.hint.HintReading.TheVariants.{Conflict, Passed, Unit as UnitLit, NotUnit}
use Rattle.dimacs_text.specs.Parts.{Part, is_empty, lines}
use Rattle.dimacs_text.specs.Number.{literal_of, whole_of}
use Rattle.dimacs_text.specs.declared.number.Signed.{Signed}
use Rattle.lrat_check.specs.declared.fault.LratFault.{LratFault}
use Rattle.lrat_check.specs.declared.fault.LratWhy.{LratWhy}
use Rattle.lrat_check.specs.declared.fault.LratWhy.TheVariants as why
use Rattle.lrat_table.specs.Found.{Found, given_at, with_clause, without_clause}
use Rattle.lrat_lines.specs.Lines.{Line, skipped, broken, addition, deletion, line_of}

-- ---- the clauses that are known

-- the clauses that stand, the greatest id so far, and whether an empty clause was added
pub record Known : Type 0 where
  pub found : Found
  pub last : ℕ
  pub refuted : Bool

abbrev pub known_at_first : Cnf → Known
known_at_first cnf = record { found = given_at cnf.clauses; last = length cnf.clauses; refuted = false }

-- ---- an addition

-- Where these literals are false: why reading the hints in order ends in no conflict, if it does not. The hints behind a conflict are not
-- looked at.
abbrev pub at_reading : ℕ → (ℕ → Bool) → ((ℕ → Bool) → Option LratWhy) → HintReading → Option LratWhy
at_reading id falses rest Conflict = None
at_reading id falses rest Passed = rest falses
at_reading id falses rest (UnitLit lit) = rest (makes_false falses (opposite lit))
at_reading id falses rest NotUnit = Some (why.NotUnit id)

abbrev pub at_clause : ℕ → (ℕ → Bool) → ((ℕ → Bool) → Option LratWhy) → Option Clause → Option LratWhy
at_clause id falses rest None = Some (why.NoClause id)
at_clause id falses rest (Some clause) = at_reading id falses rest (reading falses clause)

abbrev pub hints_fault : Found → (ℕ → Bool) → List Signed → Option LratWhy
hints_fault found falses [] = Some why.NoConflict
hints_fault found falses (hint ∷ hints) =
    if hint.negative then Some why.Rat else at_clause hint.size falses (λ next. hints_fault found next hints) (found hint.size)

-- the first literal that is of no variable
abbrev pub range_fault : ℕ → List Signed → Option LratWhy
range_fault vars [] = None
range_fault vars (lit ∷ lits) = if nat_lt vars lit.size then Some (why.Range (whole_of lit)) else range_fault vars lits

abbrev pub clause_of : List Signed → Clause
clause_of lits = map literal_of lits

-- the first fault of two
abbrev pub or_else : Option LratWhy → Option LratWhy → Option LratWhy
or_else None second = second
or_else (Some first) second = Some first

-- why an addition does not hold: by its id, its literals, or its hints
abbrev pub addition_fault : ℕ → Known → ℕ → List Signed → List Signed → Option LratWhy
addition_fault vars known id lits hints =
    if not (nat_lt known.last id) then Some why.Id
    else or_else (range_fault vars lits) (
    if is_tautology (clause_of lits) then Some why.Tautology
    else hints_fault known.found (is_among (clause_of lits)) hints
    )

-- the clauses with one more
abbrev pub added : Known → ℕ → Clause → Known
added known id clause = record { found = with_clause known.found id clause; last = id; refuted = known.refuted || is_empty clause }

abbrev pub unless_why : Option LratWhy → Known → Result Known LratWhy
unless_why None known = Ok known
unless_why (Some why) known = Err why

-- ---- a deletion

-- the clauses are deleted one by one
abbrev pub deleted_if : ℕ → Option Clause → Result Found LratWhy → Result Found LratWhy
deleted_if id None rest = Err (why.NoClause id)
deleted_if id (Some clause) rest = rest

abbrev pub deleted : Found → List Signed → Result Found LratWhy
deleted found [] = Ok found
deleted found (id ∷ ids) = deleted_if id.size (found id.size) (deleted (without_clause found id.size) ids)

abbrev pub keeps : Known → Result Found LratWhy → Result Known LratWhy
keeps known (Ok found) = Ok (record known { found = found })
keeps known (Err why) = Err why

-- ---- lines

-- what is known after a line, or why it fails
abbrev pub after_line : ℕ → Known → Line → Result Known LratWhy
after_line vars known skipped = Ok known
after_line vars known broken = Err why.Syntax
after_line vars known (addition id lits hints) = unless_why (addition_fault vars known id lits hints) (added known id (clause_of lits))
after_line vars known (deletion ids) = keeps known (deleted known.found ids)

-- the fault of lines behind so many others
abbrev pub at_end : ℕ → Known → Option LratFault
at_end count known = if known.refuted then None else Some (record { line = count; why = why.NoEmpty })

abbrev pub on_from : ℕ → (Known → Option LratFault) → Result Known LratWhy → Option LratFault
on_from line next (Ok known) = next known
on_from line next (Err why) = Some (record { line = line; why = why })

abbrev pub lines_fault : ℕ → Known → ℕ → List Part → Option LratFault
lines_fault vars known count [] = at_end count known
lines_fault vars known count (line ∷ rest) = on_from (count + 1) (λ next. lines_fault vars next (count + 1) rest) (after_line vars known (line_of line.bytes))

-- The first fault of a proof of a formula, if it has one: the first line that fails, with the first of its causes, or else that no empty
-- clause was added. Lines count from 1.
abbrev pub text_fault : Cnf → List ℕ → Option LratFault
text_fault cnf text = lines_fault cnf.vars (known_at_first cnf) 0 (lines 0 text)
