-- The reading of a text's hints is that of a step's.
use Rattle.std.proofs.Common.{◌≡◌, ◌∙◌, ◌<◌, ◌≤◌, ◌*◌, ℕ, Bool, true, false, suc, refl, sym, ap, subst, arith, List, [], ◌∷◌, length, map, inl, inr, Option, Some, None, Ok}
use Rattle.std.specs.Prelude.{◌==◌, ⊤, nat_lt, is_none, option_map, slice_get, if◌then◌else◌}
use Rattle.std.specs.List.{All}
use Rattle.std.specs.Str.{bytes_eq}
use Rattle.std.proofs.lemmas.Bool.{cases_Bool, lt-ltb}
use Rattle.std.proofs.lemmas.Bool.Decides.{leb_tells, eqb_tells}
use Rattle.std.proofs.lemmas.List.Elements.{All-head, All-tail, All-cons, All-nil}
use Rattle.rsfq_ids.specs.Formula.{Clause, IsOver, opposite}
use Rattle.proof_arena.specs.Step.{StepHolds, is_among, makes_false, is_tautology, reading, after_hint, after_clause, ends_in_conflict}
use Rattle.proof_arena.specs.declared.hint.HintReading.{HintReading}
use Rattle.proof_arena.specs.declared.hint.HintReading.TheVariants.{Conflict, Passed, Unit as UnitLit, NotUnit}
use Rattle.dimacs_text.specs.Parts.{Part, words, is_space}
use Rattle.decimal_text.specs.Number.{number_up_to}
use Rattle.dimacs_text.specs.Number.{signed_of, literal_of}
use Rattle.dimacs_text.specs.declared.number.Signed.{Signed}
use Rattle.lrat_check.specs.declared.fault.LratWhy.{LratWhy}
use Rattle.lrat_check.specs.declared.fault.LratWhy.TheVariants as why
use Rattle.lrat_lines.specs.Lines.{Line, skipped, broken, addition, deletion, number_field, field_of, list_from, list_of, deletion_of, with_hints, addition_of, behind_id, with_id, fields_say, has_outer_space, line_of}
use Rattle.lrat_table.specs.Found.{Found}
use Rattle.lrat_check.specs.Check.{Known, at_reading, at_clause, hints_fault, range_fault, clause_of, or_else, addition_fault, added, unless_why, after_line}
use Rattle.lrat_check.specs.Laws.{hinted, NamesClauses, AdditionsAreSteps, HintsNameClauses}

no_fault : {A : Type 0} (f : A) → Some f ≡ None → ⊥
no_fault f e = cc

-- ---- no literal of a line is 0

abbrev AreSome : List Signed → Type 0
AreSome numbers = All (λ (number : Signed). 1 ≤ number.size) numbers

abbrev IsList : Option (List Signed × List Part) → Type 0
IsList None = ⊤
IsList (Some (numbers, rest)) = AreSome numbers

abbrev IsLine : Line → Type 0
IsLine skipped = ⊤
IsLine broken = ⊤
IsLine (addition id lits hints) = AreSome lits
IsLine (deletion ids) = ⊤

good_more : (number : Signed) (more : Option (List Signed × List Part)) → 1 ≤ number.size → IsList more → IsList (option_map (λ (found : List Signed × List Part). (number ∷ found.0, found.1)) more)
good_more number None here behind = tt
good_more number (Some (numbers, left)) here behind = All-cons (λ (n : Signed). 1 ≤ n.size) number numbers here behind

good_number : (number : Option Signed) (rest : List Part) (more : Option (List Signed × List Part)) → IsList more → IsList (list_from (number_field number) rest more)
good_number None rest more behind = tt
good_number (Some number) rest more behind = elim (eqb_tells number.size 0) [
  | inl t ↦ rw t.0 tt
  | inr t ↦ let some = t.1 in rw t.0 (good_more number more (omega arith) behind)
]

good_field : (bytes : List ℕ) (rest : List Part) (more : Option (List Signed × List Part)) → IsList more → IsList (list_from (field_of bytes) rest more)
good_field bytes rest more behind = elim (cases_Bool (bytes_eq bytes (48 ∷ []))) [
  | inl e ↦ rw e (All-nil (λ (n : Signed). 1 ≤ n.size))
  | inr e ↦ rw e (good_number (signed_of bytes) rest more behind)
]

good_list : (fields : List Part) → IsList (list_of fields)
good_list [] = tt
good_list (field ∷ fields) = good_field field.bytes fields (list_of fields) (good_list fields)

broken_or : (b : Bool) (ids : List Signed) → IsLine (if b then broken else deletion ids)
broken_or true ids = tt
broken_or false ids = tt

good_deletion : (list : Option (List Signed × List Part)) → IsLine (deletion_of list)
good_deletion None = tt
good_deletion (Some (ids, [])) = broken_or _ ids
good_deletion (Some (ids, field ∷ fields)) = tt

good_hints : (id : ℕ) (lits : List Signed) (list : Option (List Signed × List Part)) → AreSome lits → IsLine (with_hints id lits list)
good_hints id lits None some = tt
good_hints id lits (Some (hints, [])) some = some
good_hints id lits (Some (hints, field ∷ fields)) some = tt

good_addition : (id : ℕ) (list : Option (List Signed × List Part)) → IsList list → IsLine (addition_of id list)
good_addition id None some = tt
good_addition id (Some (lits, fields)) some = good_hints id lits (list_of fields) some

good_behind : (id : ℕ) (fields : List Part) → IsLine (behind_id id fields)
good_behind id [] = tt
good_behind id (field ∷ fields) = elim (cases_Bool (bytes_eq field.bytes (100 ∷ []))) [
  | inl e ↦ rw e (good_deletion (list_of fields))
  | inr e ↦ rw e (good_addition id (list_of (field ∷ fields)) (good_list (field ∷ fields)))
]

good_id : (id : Option ℕ) (fields : List Part) → IsLine (with_id id fields)
good_id None fields = tt
good_id (Some id) fields = good_behind id fields

good_fields : (fields : List Part) → IsLine (fields_say fields)
good_fields [] = tt
good_fields (id ∷ fields) = good_id (number_up_to 4294967295 id.bytes) fields

good_line : (bytes : List ℕ) → IsLine (line_of bytes)
good_line [] = tt
good_line (b ∷ bytes) = elim (cases_Bool (b == 99)) [
  | inl e ↦ rw e tt
  | inr e ↦ rw e (elim (cases_Bool (has_outer_space (b ∷ bytes))) [
    | inl o ↦ rw o tt
    | inr o ↦ rw o (good_fields (words is_space 0 (b ∷ bytes)))
  ])
]

-- ---- literals

not_below : (a b : ℕ) → b ≤ a → nat_lt a b ≡ false
not_below a b le = elim (leb_tells (suc a) b) [ inl t ↦ let more = t.1 in absurd (omega arith) | inr t ↦ t.0 ]

literal_fits : (vars : ℕ) (lit : Signed) → 1 ≤ lit.size → lit.size ≤ vars → literal_of lit < 2 * vars
literal_fits vars lit some le = elim (cases_Bool lit.negative) [ inl e ↦ rw e (omega arith) | inr e ↦ rw e (omega arith) ]

literal_past : (vars : ℕ) (lit : Signed) → literal_of lit < 2 * vars → lit.size ≤ vars
literal_past vars lit = elim (cases_Bool lit.negative) [ inl e ↦ rw e (λ lt. omega arith) | inr e ↦ rw e (λ lt. omega arith) ]

range_over : (vars : ℕ) (lits : List Signed) → AreSome lits → range_fault vars lits ≡ None → IsOver vars (clause_of lits)
range_over vars [] some is = λ k d lt. absurd (omega arith)
range_over vars (lit ∷ lits) some is = elim (leb_tells (suc vars) lit.size) [
  | inl t ↦ absurd (no_fault _ (rw t.0 at is))
  | inr t ↦
      let above = t.1 in
      let le : lit.size ≤ vars = omega arith in
      All-cons (λ l. l < 2 * vars) (literal_of lit) (clause_of lits) (literal_fits vars lit (All-head (λ (n : Signed). 1 ≤ n.size) lit lits some) le)
      (range_over vars lits (All-tail (λ (n : Signed). 1 ≤ n.size) lit lits some) (rw t.0 at is))
]

over_range : (vars : ℕ) (lits : List Signed) → IsOver vars (clause_of lits) → range_fault vars lits ≡ None
over_range vars [] over = refl
over_range vars (lit ∷ lits) over =
    let le = literal_past vars lit (All-head (λ l. l < 2 * vars) (literal_of lit) (clause_of lits) over) in
    rw (not_below vars lit.size le) (over_range vars lits (All-tail (λ l. l < 2 * vars) (literal_of lit) (clause_of lits) over))

-- ---- hints

module _ (id : ℕ) (falses : ℕ → Bool) (rest : (ℕ → Bool) → Bool) (fault : (ℕ → Bool) → Option LratWhy) (same : (f : ℕ → Bool) → is_none (fault f) ≡ rest f) where
  reading_same : (said : HintReading) → is_none (at_reading id falses fault said) ≡ after_hint falses rest said
  reading_same Conflict = refl
  reading_same Passed = same falses
  reading_same (UnitLit lit) = same (makes_false falses (opposite lit))
  reading_same NotUnit = refl

  clause_same : (clause : Option Clause) → is_none (at_clause id falses fault clause) ≡ after_clause falses rest clause
  clause_same None = refl
  clause_same (Some clause) = reading_same (reading falses clause)

hints_same : (clauses : List Clause) (found : Found) (places : List ℕ) (hints : List Signed) (falses : ℕ → Bool) → NamesClauses clauses found places hints
    → is_none (hints_fault found falses hints) ≡ ends_in_conflict clauses falses places
hints_same clauses found [] [] falses names = refl
hints_same clauses found [] (hint ∷ hints) falses names = absurd names
hints_same clauses found (place ∷ places) [] falses names = absurd names
hints_same clauses found (place ∷ places) (hint ∷ hints) falses names = elim (cases_Bool hint.negative) [
  | inl e ↦
      let none : slice_get clauses place ≡ None = rw e at names.0 in
      rw e (sym (ap (after_clause falses (λ known. ends_in_conflict clauses known places)) none))
  | inr e ↦
      let there : slice_get clauses place ≡ found hint.size = rw e at names.0 in
      rw e (clause_same hint.size falses (λ known. ends_in_conflict clauses known places) (λ next. hints_fault found next hints)
      (λ next. hints_same clauses found places hints next names.1) (found hint.size)
      ∙ sym (ap (after_clause falses (λ known. ends_in_conflict clauses known places)) there))
]

none_true : (fault : Option LratWhy) → is_none fault ≡ true → fault ≡ None
none_true None is = refl
none_true (Some f) is = absurd (let e : false ≡ true = is in cc)

true_none : (fault : Option LratWhy) → fault ≡ None → is_none fault ≡ true
true_none fault is = ap is_none is

-- ---- additions

accepted : (fault : Option LratWhy) (known : Known) → unless_why fault known ≡ Ok known → fault ≡ None
accepted None known is = refl
accepted (Some f) known is = absurd cc

parts : (first second : Option LratWhy) → or_else first second ≡ None → (first ≡ None) × (second ≡ None)
parts None second is = (refl, is)
parts (Some f) second is = absurd (no_fault f is)

onward : (vars : ℕ) (known : Known) (id : ℕ) (lits hints : List Signed) (clauses : List Clause) (places : List ℕ) → AreSome lits → NamesClauses clauses known.found places hints
    → addition_fault vars known id lits hints ≡ None → (known.last < id) × StepHolds vars clauses (clause_of lits) places
unfolding StepHolds
onward vars known id lits hints clauses places some names is = elim (leb_tells (suc known.last) id) [
  | inr t ↦ absurd (no_fault why.Id (rw t.0 at is))
  | inl t ↦
      let lt = t.1 in
      let two = parts (range_fault vars lits) _ (rw t.0 at is) in
      let over = range_over vars lits some two.0 in
      elim (cases_Bool (is_tautology (clause_of lits))) [
        | inl e ↦ absurd (no_fault why.Tautology (rw e at two.1))
        | inr e ↦ (
          omega arith,
          (over, e, sym (hints_same clauses known.found places hints (is_among (clause_of lits)) names) ∙ true_none _ (rw e at two.1)),
        )
      ]
]

back : (vars : ℕ) (known : Known) (id : ℕ) (lits hints : List Signed) (clauses : List Clause) (places : List ℕ) → NamesClauses clauses known.found places hints
    → (known.last < id) × StepHolds vars clauses (clause_of lits) places → addition_fault vars known id lits hints ≡ None
unfolding StepHolds
back vars known id lits hints clauses places names holds =
    let hinted_so : hints_fault known.found (is_among (clause_of lits)) hints ≡ None =
    none_true _ (hints_same clauses known.found places hints (is_among (clause_of lits)) names ∙ holds.1.2) in
    rw (lt-ltb known.last id holds.0, over_range vars lits holds.1.0, holds.1.1) hinted_so

pub additions_are_steps : AdditionsAreSteps
additions_are_steps vars known line id lits hints clauses places reads names =
    let some : AreSome lits = subst IsLine reads (good_line line) in
    let says : after_line vars known (line_of line) ≡ unless_why (addition_fault vars known id lits hints) (added known id (clause_of lits)) = ap (after_line vars known) reads in (
      (λ is. onward vars known id lits hints clauses places some names (accepted _ _ (sym says ∙ is))),
      (λ holds. says ∙ ap (λ (f : Option LratWhy). unless_why f (added known id (clause_of lits))) (back vars known id lits hints clauses places names holds)),
    )

-- ---- the hinted clauses

past : (clauses : List Clause) → slice_get clauses (length clauses) ≡ None
past [] = refl
past (clause ∷ clauses) = past clauses

shifted : (clause : Clause) (clauses : List Clause) (found : Found) (places : List ℕ) (hints : List Signed) → NamesClauses clauses found places hints
    → NamesClauses (clause ∷ clauses) found (map suc places) hints
shifted clause clauses found [] [] names = tt
shifted clause clauses found [] (hint ∷ hints) names = absurd names
shifted clause clauses found (place ∷ places) [] names = absurd names
shifted clause clauses found (place ∷ places) (hint ∷ hints) names = (names.0, shifted clause clauses found places hints names.1)

abbrev Named : Found → List Signed → Type 0
Named found hints = (clauses : List Clause) × (places : List ℕ) × NamesClauses clauses found places hints

one_named : (found : Found) (hint : Signed) (hints : List Signed) (clause : Option Clause) → hinted found hint ≡ clause → Named found hints → Named found (hint ∷ hints)
one_named found hint hints None is named = (named.0, length named.0 ∷ named.1, (past named.0 ∙ sym is, named.2))
one_named found hint hints (Some clause) is named = (clause ∷ named.0, 0 ∷ map suc named.1, (sym is, shifted clause named.0 found named.1 hints named.2))

pub hints_name_clauses : HintsNameClauses
hints_name_clauses found [] = ([], [], tt)
hints_name_clauses found (hint ∷ hints) = one_named found hint hints (hinted found hint) refl (hints_name_clauses found hints)
