-- A proof's fault is where it breaks.
use Rattle.std.proofs.Common.{◌≡◌, ◌∙◌, ◌<◌, ◌≤◌, ◌+◌, ℕ, Bool, true, false, refl, sym, ap, subst, arith, List, [], ◌∷◌, ◌++◌, length, inl, inr, Option, Some, None, Result, Ok, Err}
use Rattle.std.specs.Prelude.{nat_lt, not, if◌then◌else◌, ◌⊎◌}
use Rattle.std.specs.List.{All}
use Rattle.std.proofs.lemmas.Bool.{cases_Bool, ltb-true, ltb-false, lt-ltb, le-ltb}
use Rattle.std.proofs.lemmas.List.Elements.{All-head, All-tail, All-cons, All-nil}
use Rattle.rsfq_ids.specs.Formula.{Clause, opposite}
use Rattle.rsfq_ids.specs.declared.circuit.Cnf.{Cnf}
use Rattle.proof_arena.specs.Step.{is_among, makes_false, reading, is_tautology}
use Rattle.proof_arena.specs.declared.hint.HintReading.{HintReading}
use Rattle.proof_arena.specs.declared.hint.HintReading.TheVariants.{Conflict, Passed, Unit as UnitLit, NotUnit}
use Rattle.dimacs_text.specs.Parts.{Part, lines}
use Rattle.dimacs_text.specs.Number.{whole_of}
use Rattle.dimacs_text.specs.declared.number.Signed.{Signed}
use Rattle.lrat_lines.specs.Lines.{Line, skipped, broken, addition, deletion, line_of}
use Rattle.lrat_table.specs.Found.{Found, without_clause}
use Rattle.lrat_check.specs.declared.fault.LratFault.{LratFault}
use Rattle.lrat_check.specs.declared.fault.LratWhy.{LratWhy}
use Rattle.lrat_check.specs.declared.fault.LratWhy.TheVariants as why
use Rattle.lrat_check.specs.Check.{Known, at_reading, at_clause, hints_fault, range_fault, clause_of, or_else, addition_fault, added, unless_why, deleted, deleted_if, keeps, after_line, at_end, on_from, lines_fault, known_at_first, text_fault}
use Rattle.lrat_check.specs.Breaks.{Next, ReadsTo, FirstBreaks, HintsBreak, AreWithin, LitsBreak, AdditionBreaks, DeletionBreaks, LineBreaks, LinesHold, ProofBreaks, FaultsBreak}

same : {A : Type 0} (x y : A) → Some x ≡ Some y → x ≡ y
same x y e = cc

no_some : {A : Type 0} (x : A) → None ≡ Some x → ⊥
no_some x e = cc

err_same : {A E : Type 0} (x y : E) → ◌≡◌ {A = Result A E} (Err x) (Err y) → x ≡ y
err_same x y e = cc

no_err : {A E : Type 0} (x : A) (y : E) → Ok x ≡ Err y → ⊥
no_err x y e = cc

ok_same : {A E : Type 0} (x y : A) → ◌≡◌ {A = Result A E} (Ok x) (Ok y) → x ≡ y
ok_same x y e = cc

-- ---- hints

more_hints : (found : Found) (falses next : ℕ → Bool) (hint : Signed) (hints : List Signed) (cause : LratWhy) (clause : Clause) → hint.negative ≡ false → found hint.size ≡ Some clause
    → Next falses (reading falses clause) next → HintsBreak found next hints cause → HintsBreak found falses (hint ∷ hints) cause
more_hints found falses next hint hints cause clause pos is goes (front, rest, after, parts, reads, breaks) =
    (hint ∷ front, rest, after, ap (λ (l : List Signed). hint ∷ l) parts, (pos, clause, next, is, goes, reads), breaks)

read_to : (found : Found) (falses : ℕ → Bool) (hint : Signed) (hints : List Signed) (cause : LratWhy) (clause : Clause) → hint.negative ≡ false → found hint.size ≡ Some clause
    → ((next : ℕ → Bool) → hints_fault found next hints ≡ Some cause → HintsBreak found next hints cause)
    → (r : HintReading) → reading falses clause ≡ r → at_reading hint.size falses (λ next. hints_fault found next hints) r ≡ Some cause → HintsBreak found falses (hint ∷ hints) cause
read_to found falses hint hints cause clause pos is again Conflict read e = absurd (no_some cause e)
read_to found falses hint hints cause clause pos is again Passed read e = more_hints found falses falses hint hints cause clause pos is (rw read refl) (again falses e)
read_to found falses hint hints cause clause pos is again (UnitLit lit) read e =
    more_hints found falses (makes_false falses (opposite lit)) hint hints cause clause pos is (rw read refl) (again (makes_false falses (opposite lit)) e)
read_to found falses hint hints cause clause pos is again NotUnit read e = ([], hint ∷ hints, falses, refl, refl, inr (inr (pos, clause, is, read, sym (same _ _ e))))

clause_to : (found : Found) (falses : ℕ → Bool) (hint : Signed) (hints : List Signed) (cause : LratWhy) → hint.negative ≡ false
    → ((next : ℕ → Bool) → hints_fault found next hints ≡ Some cause → HintsBreak found next hints cause)
    → (o : Option Clause) → found hint.size ≡ o → at_clause hint.size falses (λ next. hints_fault found next hints) o ≡ Some cause → HintsBreak found falses (hint ∷ hints) cause
clause_to found falses hint hints cause pos again None is e = ([], hint ∷ hints, falses, refl, refl, inr (inl (pos, is, sym (same _ _ e))))
clause_to found falses hint hints cause pos again (Some clause) is e = read_to found falses hint hints cause clause pos is again (reading falses clause) refl e

hints_to : (found : Found) (hints : List Signed) (falses : ℕ → Bool) (cause : LratWhy) → hints_fault found falses hints ≡ Some cause → HintsBreak found falses hints cause
hints_to found [] falses cause e = ([], [], falses, refl, refl, sym (same _ _ e))
hints_to found (hint ∷ hints) falses cause e = elim (cases_Bool hint.negative) [
  | inl neg ↦ ([], hint ∷ hints, falses, refl, refl, inl (neg, sym (same _ _ (rw neg at e))))
  | inr pos ↦ clause_to found falses hint hints cause pos (λ next. hints_to found hints next cause) (found hint.size) refl (rw pos at e)
]

first_from : (found : Found) (rest : List Signed) (falses : ℕ → Bool) (cause : LratWhy) → FirstBreaks found falses rest cause → hints_fault found falses rest ≡ Some cause
first_from found [] falses cause is = ap (λ (w : LratWhy). Some w) (sym is)
first_from found (hint ∷ rest) falses cause (inl (neg, is)) = rw neg (ap (λ (w : LratWhy). Some w) (sym is))
first_from found (hint ∷ rest) falses cause (inr (inl (pos, none, is))) = rw (pos, none) (ap (λ (w : LratWhy). Some w) (sym is))
first_from found (hint ∷ rest) falses cause (inr (inr (pos, clause, some, read, is))) = rw (pos, some, read) (ap (λ (w : LratWhy). Some w) (sym is))

read_from : (id : ℕ) (falses next : ℕ → Bool) (after : (ℕ → Bool) → Option LratWhy) (cause : LratWhy) (r : HintReading) → Next falses r next → after next ≡ Some cause → at_reading id falses after r ≡ Some cause
read_from id falses next after cause Conflict goes e = absurd goes
read_from id falses next after cause Passed goes e = ap after (sym goes) ∙ e
read_from id falses next after cause (UnitLit lit) goes e = ap after (sym goes) ∙ e
read_from id falses next after cause NotUnit goes e = absurd goes

hints_from : (found : Found) (front rest : List Signed) (falses after : ℕ → Bool) (cause : LratWhy) → ReadsTo found falses front after → FirstBreaks found after rest cause → hints_fault found falses (front ++ rest) ≡ Some cause
hints_from found [] rest falses after cause reads breaks = ap (λ (f : ℕ → Bool). hints_fault found f rest) reads ∙ first_from found rest after cause breaks
hints_from found (hint ∷ front) rest falses after cause (pos, clause, next, some, goes, reads) breaks =
    rw (pos, some) (read_from hint.size falses next (λ n. hints_fault found n (front ++ rest)) cause (reading falses clause) goes (hints_from found front rest next after cause reads breaks))

-- ---- literals

lits_to : (vars : ℕ) (lits : List Signed) (cause : LratWhy) → range_fault vars lits ≡ Some cause → LitsBreak vars lits cause
lits_to vars [] cause e = absurd (no_some cause e)
lits_to vars (lit ∷ lits) cause e = elim (cases_Bool (nat_lt vars lit.size)) [
  | inl far ↦ ([], lits, lit, refl, All-nil (λ (l : Signed). l.size ≤ vars), ltb-true vars lit.size far, sym (same _ _ (rw far at e)))
  | inr near ↦ more (lits_to vars lits cause (rw near at e)) (ltb-false vars lit.size near)
]
  where
    more : LitsBreak vars lits cause → lit.size ≤ vars → LitsBreak vars (lit ∷ lits) cause
    more (front, rest, bad, parts, within, far, is) le = (lit ∷ front, rest, bad, ap (λ (l : List Signed). lit ∷ l) parts, All-cons (λ (l : Signed). l.size ≤ vars) lit front le within, far, is)

lits_from : (vars : ℕ) (front rest : List Signed) (lit : Signed) (cause : LratWhy) → AreWithin vars front → vars < lit.size → cause ≡ why.Range (whole_of lit) → range_fault vars (front ++ lit ∷ rest) ≡ Some cause
lits_from vars [] rest lit cause within far is = rw (lt-ltb vars lit.size far) (ap (λ (w : LratWhy). Some w) (sym is))
lits_from vars (x ∷ front) rest lit cause within far is =
    rw (le-ltb vars x.size (All-head (λ (l : Signed). l.size ≤ vars) x front within)) (lits_from vars front rest lit cause (All-tail (λ (l : Signed). l.size ≤ vars) x front within) far is)

none_to : (vars : ℕ) (lits : List Signed) → range_fault vars lits ≡ None → AreWithin vars lits
none_to vars [] e = All-nil (λ (l : Signed). l.size ≤ vars)
none_to vars (lit ∷ lits) e = elim (cases_Bool (nat_lt vars lit.size)) [
  | inl far ↦ absurd (no_some (why.Range (whole_of lit)) (sym (rw far at e)))
  | inr near ↦ All-cons (λ (l : Signed). l.size ≤ vars) lit lits (ltb-false vars lit.size near) (none_to vars lits (rw near at e))
]

none_from : (vars : ℕ) (lits : List Signed) → AreWithin vars lits → range_fault vars lits ≡ None
none_from vars [] within = refl
none_from vars (lit ∷ lits) within =
    rw (le-ltb vars lit.size (All-head (λ (l : Signed). l.size ≤ vars) lit lits within)) (none_from vars lits (All-tail (λ (l : Signed). l.size ≤ vars) lit lits within))

-- ---- additions

behind_id : (vars : ℕ) (known : Known) (id : ℕ) (lits hints : List Signed) (cause : LratWhy) → known.last < id → (o : Option LratWhy) → range_fault vars lits ≡ o
    → or_else o (if is_tautology (clause_of lits) then Some why.Tautology else hints_fault known.found (is_among (clause_of lits)) hints) ≡ Some cause → AdditionBreaks vars known id lits hints cause
behind_id vars known id lits hints cause lt (Some first) is e = inr (inl (lt, lits_to vars lits cause (is ∙ e)))
behind_id vars known id lits hints cause lt None is e = elim (cases_Bool (is_tautology (clause_of lits))) [
  | inl taut ↦ inr (inr (inl (lt, none_to vars lits is, taut, sym (same _ _ (rw taut at e)))))
  | inr apart ↦ inr (inr (inr (lt, none_to vars lits is, apart, hints_to known.found hints (is_among (clause_of lits)) cause (rw apart at e))))
]

addition_to : (vars : ℕ) (known : Known) (id : ℕ) (lits hints : List Signed) (cause : LratWhy) → addition_fault vars known id lits hints ≡ Some cause → AdditionBreaks vars known id lits hints cause
addition_to vars known id lits hints cause e = elim (cases_Bool (nat_lt known.last id)) [
  | inl lt ↦ behind_id vars known id lits hints cause (ltb-true known.last id lt) (range_fault vars lits) refl (rw lt at e)
  | inr old ↦ inl (ltb-false known.last id old, sym (same _ _ (rw old at e)))
]

addition_from : (vars : ℕ) (known : Known) (id : ℕ) (lits hints : List Signed) (cause : LratWhy) → AdditionBreaks vars known id lits hints cause → addition_fault vars known id lits hints ≡ Some cause
addition_from vars known id lits hints cause (inl (old, is)) = rw (le-ltb known.last id old) (ap (λ (w : LratWhy). Some w) (sym is))
addition_from vars known id lits hints cause (inr (inl (lt, (front, rest, lit, parts, within, far, is)))) =
    rw (lt-ltb known.last id lt) (rw (ap (range_fault vars) parts ∙ lits_from vars front rest lit cause within far is) refl)
addition_from vars known id lits hints cause (inr (inr (inl (lt, within, taut, is)))) =
    rw (lt-ltb known.last id lt, none_from vars lits within, taut) (ap (λ (w : LratWhy). Some w) (sym is))
addition_from vars known id lits hints cause (inr (inr (inr (lt, within, apart, (front, rest, after, parts, reads, breaks))))) =
    rw (lt-ltb known.last id lt, none_from vars lits within, apart)
    (ap (hints_fault known.found (is_among (clause_of lits))) parts ∙ hints_from known.found front rest (is_among (clause_of lits)) after cause reads breaks)

unless_to : (o : Option LratWhy) (known : Known) (cause : LratWhy) → unless_why o known ≡ Err cause → o ≡ Some cause
unless_to None known cause e = absurd (no_err known cause e)
unless_to (Some w) known cause e = ap (λ (x : LratWhy). Some x) (err_same w cause e)

-- ---- deletions

more_ids : (found : Found) (id : Signed) (ids : List Signed) (cause : LratWhy) (clause : Clause) → found id.size ≡ Some clause → DeletionBreaks (without_clause found id.size) ids cause → DeletionBreaks found (id ∷ ids) cause
more_ids found id ids cause clause some (front, rest, bad, left, parts, gone, none, is) =
    (id ∷ front, rest, bad, left, ap (λ (l : List Signed). id ∷ l) parts, rw some gone, none, is)

id_to : (found : Found) (id : Signed) (ids : List Signed) (cause : LratWhy) → (deleted (without_clause found id.size) ids ≡ Err cause → DeletionBreaks (without_clause found id.size) ids cause)
    → (o : Option Clause) → found id.size ≡ o → deleted_if id.size o (deleted (without_clause found id.size) ids) ≡ Err cause → DeletionBreaks found (id ∷ ids) cause
id_to found id ids cause again None is e = ([], ids, id, found, refl, refl, is, sym (err_same _ _ e))
id_to found id ids cause again (Some clause) is e = more_ids found id ids cause clause is (again e)

ids_to : (found : Found) (ids : List Signed) (cause : LratWhy) → deleted found ids ≡ Err cause → DeletionBreaks found ids cause
ids_to found [] cause e = absurd (no_err found cause e)
ids_to found (id ∷ ids) cause e = id_to found id ids cause (ids_to (without_clause found id.size) ids cause) (found id.size) refl e

id_from : (id : ℕ) (o : Option Clause) (rest : Result Found LratWhy) (left : Found) → deleted_if id o rest ≡ Ok left → (clause : Clause) × (o ≡ Some clause) × (rest ≡ Ok left)
id_from id None rest left e = absurd (no_err left (why.NoClause id) (sym e))
id_from id (Some clause) rest left e = (clause, refl, e)

ids_from : (found : Found) (front rest : List Signed) (id : Signed) (left : Found) (cause : LratWhy) → deleted found front ≡ Ok left → left id.size ≡ None → cause ≡ why.NoClause id.size → deleted found (front ++ id ∷ rest) ≡ Err cause
ids_from found [] rest id left cause gone none is =
    let here : found id.size ≡ None = ap (λ (f : Found). f id.size) (ok_same found left gone) ∙ none in
    rw here (ap (λ (w : LratWhy). Err w) (sym is))
ids_from found (x ∷ front) rest id left cause gone none is =
    let first = id_from x.size (found x.size) (deleted (without_clause found x.size) front) left gone in
    rw first.1 (ids_from (without_clause found x.size) front rest id left cause first.2 none is)

keeps_to : (known : Known) (r : Result Found LratWhy) (cause : LratWhy) → keeps known r ≡ Err cause → r ≡ Err cause
keeps_to known (Ok found) cause e = absurd (no_err _ cause e)
keeps_to known (Err w) cause e = ap (λ (x : LratWhy). Err x) (err_same w cause e)

-- ---- lines

line_to : (vars : ℕ) (known : Known) (line : Line) (cause : LratWhy) → after_line vars known line ≡ Err cause → LineBreaks vars known line cause
line_to vars known skipped cause e = absurd (no_err known cause e)
line_to vars known broken cause e = sym (err_same _ _ e)
line_to vars known (addition id lits hints) cause e = addition_to vars known id lits hints cause (unless_to (addition_fault vars known id lits hints) _ cause e)
line_to vars known (deletion ids) cause e = ids_to known.found ids cause (keeps_to known (deleted known.found ids) cause e)

line_from : (vars : ℕ) (known : Known) (line : Line) (cause : LratWhy) → LineBreaks vars known line cause → after_line vars known line ≡ Err cause
line_from vars known skipped cause breaks = absurd breaks
line_from vars known broken cause is = ap (λ (w : LratWhy). Err w) (sym is)
line_from vars known (addition id lits hints) cause breaks =
    ap (λ (o : Option LratWhy). unless_why o (added known id (clause_of lits))) (addition_from vars known id lits hints cause breaks)
line_from vars known (deletion ids) cause (front, rest, id, left, parts, gone, none, is) =
    ap (keeps known) (ap (deleted known.found) parts ∙ ids_from known.found front rest id left cause gone none is)

-- ---- texts

-- the lines break at one of them, or at their end
abbrev LinesBreak : ℕ → Known → ℕ → List Part → LratFault → Type 0
LinesBreak vars known count parts fault =
    ((front rest : List Part) × (line : Part) × (next : Known) × (parts ≡ front ++ line ∷ rest) × LinesHold vars known front next
    × LineBreaks vars next (line_of line.bytes) fault.why × (fault.line ≡ count + length front + 1))
    ⊎ ((next : Known) × LinesHold vars known parts next × (next.refuted ≡ false) × (fault.why ≡ why.NoEmpty) × (fault.line ≡ count + length parts))

more_lines : (vars : ℕ) (known next : Known) (count : ℕ) (line : Part) (parts : List Part) (fault : LratFault) → after_line vars known (line_of line.bytes) ≡ Ok next
    → LinesBreak vars next (count + 1) parts fault → LinesBreak vars known count (line ∷ parts) fault
more_lines vars known next count line parts fault holds (inl (front, rest, bad, last, is, hold, breaks, at)) =
    inl (line ∷ front, rest, bad, last, ap (λ (l : List Part). line ∷ l) is, (next, holds, hold), breaks, omega arith)
more_lines vars known next count line parts fault holds (inr (last, hold, empty_left, no_empty, at)) = inr (last, (next, holds, hold), empty_left, no_empty, omega arith)

on_to : (vars : ℕ) (known : Known) (count : ℕ) (line : Part) (parts : List Part) (fault : LratFault)
    → ((next : Known) → lines_fault vars next (count + 1) parts ≡ Some fault → LinesBreak vars next (count + 1) parts fault)
    → (r : Result Known LratWhy) → after_line vars known (line_of line.bytes) ≡ r → on_from (count + 1) (λ next. lines_fault vars next (count + 1) parts) r ≡ Some fault → LinesBreak vars known count (line ∷ parts) fault
on_to vars known count line parts fault again (Ok next) is e = more_lines vars known next count line parts fault is (again next e)
on_to vars known count line parts fault again (Err cause) is e =
    let whole = same _ _ e in
    let w : fault.why ≡ cause = ap (λ (f : LratFault). f.why) (sym whole) in
    let l : fault.line ≡ count + 1 = ap (λ (f : LratFault). f.line) (sym whole) in
    inl ([], parts, line, known, refl, refl, subst (LineBreaks vars known (line_of line.bytes)) (sym w) (line_to vars known (line_of line.bytes) cause is), omega arith)

end_to : (count : ℕ) (known : Known) (fault : LratFault) → at_end count known ≡ Some fault → (known.refuted ≡ false) × (fault.why ≡ why.NoEmpty) × (fault.line ≡ count)
end_to count known fault e = elim (cases_Bool known.refuted) [
  | inl done ↦ absurd (no_some fault (rw done at e))
  | inr empty_left ↦ let whole = same _ _ (rw empty_left at e) in (empty_left, ap (λ (f : LratFault). f.why) (sym whole), ap (λ (f : LratFault). f.line) (sym whole))
]

lines_to : (vars : ℕ) (parts : List Part) (known : Known) (count : ℕ) (fault : LratFault) → lines_fault vars known count parts ≡ Some fault → LinesBreak vars known count parts fault
lines_to vars [] known count fault e = let ends = end_to count known fault e in let at = ends.2 in inr (known, refl, ends.0, ends.1, omega arith)
lines_to vars (line ∷ parts) known count fault e = on_to vars known count line parts fault (λ next. lines_to vars parts next (count + 1) fault) (after_line vars known (line_of line.bytes)) refl e

fault_is : (line : ℕ) (cause : LratWhy) (fault : LratFault) → fault.why ≡ cause → fault.line ≡ line → Some (record { line = line; why = cause }) ≡ Some fault
fault_is line cause fault w l = ap (λ (x : LratWhy). Some (record { line = line; why = x })) (sym w) ∙ ap (λ (n : ℕ). Some (record { line = n; why = fault.why })) (sym l)

at_line : (vars : ℕ) (front rest : List Part) (line : Part) (known next : Known) (count : ℕ) (fault : LratFault) → LinesHold vars known front next → LineBreaks vars next (line_of line.bytes) fault.why
    → fault.line ≡ count + length front + 1 → lines_fault vars known count (front ++ line ∷ rest) ≡ Some fault
at_line vars [] rest line known next count fault hold breaks at =
    let here : after_line vars known (line_of line.bytes) ≡ Err fault.why = ap (λ (k : Known). after_line vars k (line_of line.bytes)) hold ∙ line_from vars next (line_of line.bytes) fault.why breaks in
    rw here (fault_is (count + 1) fault.why fault refl (omega arith))
at_line vars (x ∷ front) rest line known next count fault (mid, holds, hold) breaks at =
    rw holds (at_line vars front rest line mid next (count + 1) fault hold breaks (omega arith))

at_last : (vars : ℕ) (parts : List Part) (known next : Known) (count : ℕ) (fault : LratFault) → LinesHold vars known parts next → next.refuted ≡ false → fault.why ≡ why.NoEmpty → fault.line ≡ count + length parts
    → lines_fault vars known count parts ≡ Some fault
at_last vars [] known next count fault hold empty_left no_empty at =
    let here : known.refuted ≡ false = ap (λ (k : Known). k.refuted) hold ∙ empty_left in
    rw here (fault_is count why.NoEmpty fault no_empty (omega arith))
at_last vars (x ∷ parts) known next count fault (mid, holds, hold) empty_left no_empty at = rw holds (at_last vars parts mid next (count + 1) fault hold empty_left no_empty (omega arith))

proof_to : (cnf : Cnf) (text : List ℕ) (fault : LratFault) → LinesBreak cnf.vars (known_at_first cnf) 0 (lines 0 text) fault → ProofBreaks cnf text fault
proof_to cnf text fault (inl (front, rest, line, known, parts, hold, breaks, at)) = inl (front, rest, line, known, parts, hold, breaks, omega arith)
proof_to cnf text fault (inr (known, hold, empty_left, no_empty, at)) = inr (known, hold, empty_left, no_empty, omega arith)

proof_from : (cnf : Cnf) (text : List ℕ) (fault : LratFault) → ProofBreaks cnf text fault → text_fault cnf text ≡ Some fault
proof_from cnf text fault (inl (front, rest, line, known, parts, hold, breaks, at)) =
    ap (lines_fault cnf.vars (known_at_first cnf) 0) parts ∙ at_line cnf.vars front rest line (known_at_first cnf) known 0 fault hold breaks (omega arith)
proof_from cnf text fault (inr (known, hold, empty_left, no_empty, at)) = at_last cnf.vars (lines 0 text) (known_at_first cnf) known 0 fault hold empty_left no_empty (omega arith)

pub faults_break : FaultsBreak
faults_break = λ cnf text fault. ((λ e. proof_to cnf text fault (lines_to cnf.vars (lines 0 text) (known_at_first cnf) 0 fault e)), proof_from cnf text fault)
