-- An addition of a text as a step against numbered clauses.
use Rattle.std.specs.Prelude.{◌≡◌, ◌<◌, ◌↔◌, ℕ, List, [], ◌∷◌, Option, None, ⊤, Ok, slice_get, if◌then◌else◌}
use Rattle.rsfq_ids.specs.Formula.{Clause}
use Rattle.proof_arena.specs.Step.{StepHolds}
use Rattle.dimacs_text.specs.declared.number.Signed.{Signed}
use Rattle.lrat_table.specs.Found.{Found}
use Rattle.lrat_check.specs.Check.{Known, clause_of, added, after_line}
use Rattle.lrat_lines.specs.Lines.{addition, line_of}

-- the clause that a hint of a text names; one with a hyphen names none
abbrev pub hinted : Found → Signed → Option Clause
hinted found hint = if hint.negative then None else found hint.size

-- each hint of a text names the very clause that a list of clauses has at the place beside it, or none where the list ends before that place
abbrev pub NamesClauses : List Clause → Found → List ℕ → List Signed → Type 0
NamesClauses clauses found [] [] = ⊤
NamesClauses clauses found [] (hint ∷ hints) = ⊥
NamesClauses clauses found (place ∷ places) [] = ⊥
NamesClauses clauses found (place ∷ places) (hint ∷ hints) = (slice_get clauses place ≡ hinted found hint) × NamesClauses clauses found places hints

-- An addition is accepted, and its clause then stands under its id, exactly where the id is a new one and the step holds against the hinted clauses.
abbrev pub AdditionsAreSteps : Type 0
AdditionsAreSteps = (vars : ℕ) (known : Known) (line : List ℕ) (id : ℕ) (lits hints : List Signed) (clauses : List Clause) (places : List ℕ)
    → line_of line ≡ addition id lits hints → NamesClauses clauses known.found places hints
    → (after_line vars known (line_of line) ≡ Ok (added known id (clause_of lits))) ↔ ((known.last < id) × StepHolds vars clauses (clause_of lits) places)

-- there are such clauses and places for all hints
abbrev pub HintsNameClauses : Type 0
HintsNameClauses = (found : Found) (hints : List Signed) → (clauses : List Clause) × (places : List ℕ) × NamesClauses clauses found places hints
