-- A proof with no fault refutes its formula.
use Rattle.std.proofs.Common.{◌≡◌, ◌+◌, ℕ, Bool, true, false, zero, suc, refl, subst, List, [], ◌∷◌, inl, inr, Option, Some, None, Result, Ok, Err}
use Rattle.std.specs.Prelude.{◌==◌, nat_lt}
use Rattle.std.specs.List.{All, list_any}
use Rattle.std.proofs.lemmas.Bool.{cases_Bool}
use Rattle.std.proofs.lemmas.Option.{slice_get_within, get_or_from_slice_get}
use Rattle.rsfq_ids.specs.Formula.{Clause, opposite, value_of, Satisfies, HasSolution}
use Rattle.rsfq_ids.specs.declared.circuit.Cnf.{Cnf}
use Rattle.proof_arena.specs.Step.{is_among, makes_false, reading, is_tautology}
use Rattle.proof_arena.specs.Laws.{Agrees, IsTrueReading, ReadingsAreSound, DenialsAreSound}
use Rattle.proof_arena.specs.declared.hint.HintReading.{HintReading}
use Rattle.proof_arena.specs.declared.hint.HintReading.TheVariants.{Conflict, Passed, Unit as UnitLit, NotUnit}
use Rattle.dimacs_text.specs.Parts.{Part, lines, is_empty}
use Rattle.dimacs_text.specs.declared.number.Signed.{Signed}
use Rattle.lrat_check.specs.declared.fault.LratFault.{LratFault}
use Rattle.lrat_check.specs.declared.fault.LratWhy.{LratWhy}
use Rattle.lrat_check.specs.declared.fault.LratWhy.TheVariants as why
use Rattle.lrat_lines.specs.Lines.{Line, skipped, broken, addition, deletion, line_of}
use Rattle.lrat_table.specs.Found.{Found, given_at, with_clause, without_clause}
use Rattle.lrat_check.specs.Check.{Known, known_at_first, at_reading, at_clause, hints_fault, range_fault, clause_of, or_else, addition_fault, added, unless_why, deleted, deleted_if, keeps, after_line, on_from, lines_fault, text_fault}

no_fault : {A : Type 0} (f : A) → Some f ≡ None → ⊥
no_fault f e = cc

no_ok : {A B : Type 0} (f : B) (x : A) → Err f ≡ Ok x → ⊥
no_ok f x e = cc

same_ok : {A B : Type 0} (x y : A) → ◌≡◌ {A = Result A B} (Ok x) (Ok y) → x ≡ y
same_ok x y e = cc

same_some : {A : Type 0} (x y : A) → Some x ≡ Some y → x ≡ y
same_some x y e = cc

nothing_some : {A : Type 0} (x : A) → None ≡ Some x → ⊥
nothing_some x e = cc

-- the clauses that are found are satisfied
abbrev AllFound : (ℕ → Bool) → Found → Type 0
AllFound values found = (id : ℕ) (clause : Clause) → found id ≡ Some clause → Satisfies values clause

module _ (readings : ReadingsAreSound) (denials : DenialsAreSound) (values : ℕ → Bool) where
  on_reading : (id : ℕ) (falses : ℕ → Bool) (rest : (ℕ → Bool) → Option LratWhy) (said : HintReading) → Agrees values falses → IsTrueReading values falses said
      → ((next : ℕ → Bool) → Agrees values next → rest next ≡ None → ⊥) → at_reading id falses rest said ≡ None → ⊥
  on_reading id falses rest Conflict agrees told onward is = told
  on_reading id falses rest Passed agrees told onward is = onward falses agrees is
  on_reading id falses rest (UnitLit lit) agrees told onward is = onward (makes_false falses (opposite lit)) told is
  on_reading id falses rest NotUnit agrees told onward is = no_fault (why.NotUnit id) is

  on_clause : (id : ℕ) (falses : ℕ → Bool) (rest : (ℕ → Bool) → Option LratWhy) (clause : Option Clause) → ((c : Clause) → clause ≡ Some c → Satisfies values c) → Agrees values falses
      → ((next : ℕ → Bool) → Agrees values next → rest next ≡ None → ⊥) → at_clause id falses rest clause ≡ None → ⊥
  on_clause id falses rest None all agrees onward is = no_fault (why.NoClause id) is
  on_clause id falses rest (Some clause) all agrees onward is =
      on_reading id falses rest (reading falses clause) agrees (readings values falses clause (all clause refl) agrees) onward is

  -- hints over satisfied clauses come to no conflict
  no_conflict : (found : Found) → AllFound values found → (hints : List Signed) (falses : ℕ → Bool) → Agrees values falses → hints_fault found falses hints ≡ None → ⊥
  no_conflict found all [] falses agrees is = no_fault why.NoConflict is
  no_conflict found all (hint ∷ hints) falses agrees is = elim (cases_Bool hint.negative) [
    | inl e ↦ no_fault why.Rat (rw e at is)
    | inr e ↦ on_clause hint.size falses (λ next. hints_fault found next hints) (found hint.size) (λ c at. all hint.size c at) agrees
        (λ next agreed more. no_conflict found all hints next agreed more) (rw e at is)
  ]

  part_none : (first second : Option LratWhy) → or_else first second ≡ None → second ≡ None
  part_none None second is = is
  part_none (Some f) second is = absurd (no_fault f is)

  -- a clause that is added follows
  follows : (vars : ℕ) (known : Known) (id : ℕ) (lits hints : List Signed) → AllFound values known.found → addition_fault vars known id lits hints ≡ None → Satisfies values (clause_of lits)
  follows vars known id lits hints all is = elim (cases_Bool (list_any (value_of values) (clause_of lits))) [
    | inl so ↦ so
    | inr none ↦ elim (cases_Bool (nat_lt known.last id)) [
      | inr e ↦ absurd (no_fault why.Id (rw e at is))
      | inl e ↦
          let rest = part_none (range_fault vars lits) _ (rw e at is) in
          elim (cases_Bool (is_tautology (clause_of lits))) [
            | inl t ↦ absurd (no_fault why.Tautology (rw t at rest))
            | inr t ↦ absurd (no_conflict known.found all hints (is_among (clause_of lits)) (denials values (clause_of lits) none) (rw t at rest))
          ]
    ]
  ]

  with_all : (found : Found) (id : ℕ) (clause : Clause) → AllFound values found → Satisfies values clause → AllFound values (with_clause found id clause)
  with_all found id clause all so other c is = elim (cases_Bool (other == id)) [
    | inl e ↦ subst (Satisfies values) (same_some clause c (rw e at is)) so
    | inr e ↦ all other c (rw e at is)
  ]

  without_all : (found : Found) (id : ℕ) → AllFound values found → AllFound values (without_clause found id)
  without_all found id all other c is = elim (cases_Bool (other == id)) [
    | inl e ↦ absurd (nothing_some c (rw e at is))
    | inr e ↦ all other c (rw e at is)
  ]

  not_empty : (clause : Clause) → Satisfies values clause → is_empty clause ≡ false
  not_empty [] so = absurd (let none : false ≡ true = so in cc)
  not_empty (lit ∷ clause) so = refl

  -- what the values make of what is known: all clauses hold, so that none was empty
  record IsKept (known : Known) : Type 0 where
    pub all : AllFound values known.found
    pub none : known.refuted ≡ false

  added_kept : (vars : ℕ) (known next : Known) (id : ℕ) (lits hints : List Signed) → IsKept known
      → unless_why (addition_fault vars known id lits hints) (added known id (clause_of lits)) ≡ Ok next → IsKept next
  added_kept vars known next id lits hints kept is = by (addition_fault vars known id lits hints) refl is where
    by : (f : Option LratWhy) → addition_fault vars known id lits hints ≡ f → unless_why f (added known id (clause_of lits)) ≡ Ok next → IsKept next
    by (Some f) e is = absurd (no_ok _ _ is)
    by None e is =
        let so = follows vars known id lits hints kept.all e in
        subst IsKept (same_ok _ _ is) (record {
          all = with_all known.found id (clause_of lits) kept.all so;
          none = rw (kept.none, not_empty (clause_of lits) so) refl;
        })

  one_deleted : (id : ℕ) (next : Found) (clause : Option Clause) (rest : Result Found LratWhy) → (rest ≡ Ok next → AllFound values next) → deleted_if id clause rest ≡ Ok next → AllFound values next
  one_deleted id next None rest more is = absurd (no_ok _ _ is)
  one_deleted id next (Some clause) rest more is = more is

  deleted_kept : (found next : Found) (ids : List Signed) → AllFound values found → deleted found ids ≡ Ok next → AllFound values next
  deleted_kept found next [] all is = subst (AllFound values) (same_ok _ _ is) all
  deleted_kept found next (id ∷ ids) all is =
      one_deleted id.size next (found id.size) (deleted (without_clause found id.size) ids) (λ e. deleted_kept (without_clause found id.size) next ids (without_all found id.size all) e) is

  kept_found : (known next : Known) (r : Result Found LratWhy) → IsKept known → ((found : Found) → r ≡ Ok found → AllFound values found) → keeps known r ≡ Ok next → IsKept next
  kept_found known next (Ok found) kept all is = subst IsKept (same_ok _ _ is) (record { all = all found refl; none = kept.none })
  kept_found known next (Err f) kept all is = absurd (no_ok _ _ is)

  line_kept : (vars : ℕ) (known next : Known) (line : Line) → IsKept known → after_line vars known line ≡ Ok next → IsKept next
  line_kept vars known next skipped kept is = subst IsKept (same_ok _ _ is) kept
  line_kept vars known next broken kept is = absurd (no_ok _ _ is)
  line_kept vars known next (addition id lits hints) kept is = added_kept vars known next id lits hints kept is
  line_kept vars known next (deletion ids) kept is = kept_found known next (deleted known.found ids) kept (λ found e. deleted_kept known.found found ids kept.all e) is

  line_refutes : (line : ℕ) (rest : Known → Option LratFault) (r : Result Known LratWhy) → ((next : Known) → r ≡ Ok next → IsKept next)
      → ((next : Known) → IsKept next → rest next ≡ None → ⊥) → on_from line rest r ≡ None → ⊥
  line_refutes line rest (Ok next) kept more is = more next (kept next refl) is
  line_refutes line rest (Err f) kept more is = no_fault _ is

  -- lines behind which an empty clause was added cannot be satisfied
  lines_refute : (vars : ℕ) (known : Known) (count : ℕ) (ls : List Part) → IsKept known → lines_fault vars known count ls ≡ None → ⊥
  lines_refute vars known count [] kept is = no_fault _ (rw kept.none at is)
  lines_refute vars known count (line ∷ ls) kept is =
      line_refutes (count + 1) (λ next. lines_fault vars next (count + 1) ls) (after_line vars known (line_of line.bytes))
      (λ next e. line_kept vars known next (line_of line.bytes) kept e) (λ next k e. lines_refute vars next (count + 1) ls k e) is

  given_all : (clauses : List Clause) → All (Satisfies values) clauses → AllFound values (given_at clauses)
  given_all clauses all zero c is = absurd (nothing_some c is)
  given_all clauses all (suc place) c is =
      subst (Satisfies values) (get_or_from_slice_get clauses place c c is) (all place c (slice_get_within clauses place c is))

pub refutes : ReadingsAreSound → DenialsAreSound → (cnf : Cnf) (text : List ℕ) → text_fault cnf text ≡ None → HasSolution cnf.clauses → ⊥
refutes readings denials cnf text is solution =
    lines_refute readings denials solution.0 cnf.vars (known_at_first cnf) 0 (lines 0 text)
    (record { all = given_all readings denials solution.0 cnf.clauses solution.1; none = refl }) is
