-- Where a proof breaks, and why, told by its lines, literals and hints.
use Rattle.std.specs.Prelude.{◌≡◌, ◌↔◌, ◌<◌, ◌≤◌, ◌+◌, ◌⊎◌, ℕ, Bool, true, false, List, [], ◌∷◌, ◌++◌, length, Option, Some, None, Ok}
use Rattle.std.specs.List.{All}
use Rattle.rsfq_ids.specs.Formula.{Clause, opposite}
use Rattle.rsfq_ids.specs.declared.circuit.Cnf.{Cnf}
use Rattle.proof_arena.specs.Step.{is_among, makes_false, reading, is_tautology}
use Rattle.proof_arena.specs.declared.hint.HintReading.{HintReading}
use Rattle.proof_arena.specs.declared.hint.HintReading.TheVariants.{Conflict, Passed, Unit as UnitLit, NotUnit}
use Rattle.dimacs_text.specs.Parts.{Part, lines}
use Rattle.dimacs_text.specs.Number.{whole_of}
use Rattle.dimacs_text.specs.declared.number.Signed.{Signed}
use Rattle.lrat_lines.specs.Lines.{Line, skipped, broken, addition, deletion, line_of}
use Rattle.lrat_table.specs.Found.{Found}
use Rattle.lrat_check.specs.declared.fault.LratFault.{LratFault}
use Rattle.lrat_check.specs.declared.fault.LratWhy.{LratWhy}
use Rattle.lrat_check.specs.declared.fault.LratWhy.TheVariants as why
use Rattle.lrat_check.specs.Check.{Known, clause_of, deleted, after_line, known_at_first, text_fault}

-- ---- hints

-- what is false behind a hint that does not end the step: as before where its clause has a true literal, else the last open literal's opposite too
abbrev pub Next : (ℕ → Bool) → HintReading → (ℕ → Bool) → Type 0
Next falses Conflict next = ⊥
Next falses Passed next = next ≡ falses
Next falses (UnitLit lit) next = next ≡ makes_false falses (opposite lit)
Next falses NotUnit next = ⊥

-- each of these hints names a clause that stands, and they lead from the literals that are false to these
abbrev pub ReadsTo : Found → (ℕ → Bool) → List Signed → (ℕ → Bool) → Type 0
ReadsTo found falses [] after = falses ≡ after
ReadsTo found falses (hint ∷ hints) after =
    (hint.negative ≡ false) × (clause : Clause) × (next : ℕ → Bool) × (found hint.size ≡ Some clause) × Next falses (reading falses clause) next × ReadsTo found next hints after

-- the hints end, or the first of them has a hyphen, names no clause, or names one with two open literals and no true one
abbrev pub FirstBreaks : Found → (ℕ → Bool) → List Signed → LratWhy → Type 0
FirstBreaks found falses [] cause = cause ≡ why.NoConflict
FirstBreaks found falses (hint ∷ hints) cause =
    ((hint.negative ≡ true) × (cause ≡ why.Rat))
    ⊎ ((hint.negative ≡ false) × (found hint.size ≡ None) × (cause ≡ why.NoClause hint.size))
    ⊎ ((hint.negative ≡ false) × (clause : Clause) × (found hint.size ≡ Some clause) × (reading falses clause ≡ NotUnit) × (cause ≡ why.NotUnit hint.size))

-- hints break where those before do not, and end in no conflict
abbrev pub HintsBreak : Found → (ℕ → Bool) → List Signed → LratWhy → Type 0
HintsBreak found falses hints cause = (front rest : List Signed) × (after : ℕ → Bool) × (hints ≡ front ++ rest) × ReadsTo found falses front after × FirstBreaks found after rest cause

-- ---- additions and deletions

abbrev pub AreWithin : ℕ → List Signed → Type 0
AreWithin vars lits = All (λ (lit : Signed). lit.size ≤ vars) lits

-- a literal is of no variable, and those before it are
abbrev pub LitsBreak : ℕ → List Signed → LratWhy → Type 0
LitsBreak vars lits cause = (front rest : List Signed) × (lit : Signed) × (lits ≡ front ++ lit ∷ rest) × AreWithin vars front × (vars < lit.size) × (cause ≡ why.Range (whole_of lit))

-- an addition breaks by its id, else by a literal, else as a tautology, else by its hints
abbrev pub AdditionBreaks : ℕ → Known → ℕ → List Signed → List Signed → LratWhy → Type 0
AdditionBreaks vars known id lits hints cause =
    ((id ≤ known.last) × (cause ≡ why.Id))
    ⊎ ((known.last < id) × LitsBreak vars lits cause)
    ⊎ ((known.last < id) × AreWithin vars lits × (is_tautology (clause_of lits) ≡ true) × (cause ≡ why.Tautology))
    ⊎ ((known.last < id) × AreWithin vars lits × (is_tautology (clause_of lits) ≡ false) × HintsBreak known.found (is_among (clause_of lits)) hints cause)

-- an id names no clause that stands, once those before it are deleted
abbrev pub DeletionBreaks : Found → List Signed → LratWhy → Type 0
DeletionBreaks found ids cause = (front rest : List Signed) × (id : Signed) × (left : Found) × (ids ≡ front ++ id ∷ rest) × (deleted found front ≡ Ok left) × (left id.size ≡ None) × (cause ≡ why.NoClause id.size)

abbrev pub LineBreaks : ℕ → Known → Line → LratWhy → Type 0
LineBreaks vars known skipped cause = ⊥
LineBreaks vars known broken cause = cause ≡ why.Syntax
LineBreaks vars known (addition id lits hints) cause = AdditionBreaks vars known id lits hints cause
LineBreaks vars known (deletion ids) cause = DeletionBreaks known.found ids cause

-- ---- texts

-- all these lines hold, and lead from what is known to this
abbrev pub LinesHold : ℕ → Known → List Part → Known → Type 0
LinesHold vars known [] last = known ≡ last
LinesHold vars known (line ∷ rest) last = (next : Known) × (after_line vars known (line_of line.bytes) ≡ Ok next) × LinesHold vars next rest last

-- a line breaks behind lines that hold, or all lines hold and none added the empty clause; lines count from 1
abbrev pub ProofBreaks : Cnf → List ℕ → LratFault → Type 0
ProofBreaks cnf text fault =
    ((front rest : List Part) × (line : Part) × (known : Known) × (lines 0 text ≡ front ++ line ∷ rest) × LinesHold cnf.vars (known_at_first cnf) front known
    × LineBreaks cnf.vars known (line_of line.bytes) fault.why × (fault.line ≡ length front + 1))
    ⊎ ((known : Known) × LinesHold cnf.vars (known_at_first cnf) (lines 0 text) known × (known.refuted ≡ false) × (fault.why ≡ why.NoEmpty) × (fault.line ≡ length (lines 0 text)))

-- the fault of a text is where it breaks, and why
abbrev pub FaultsBreak : Type 0
FaultsBreak = (cnf : Cnf) (text : List ℕ) (fault : LratFault) → (text_fault cnf text ≡ Some fault) ↔ ProofBreaks cnf text fault
