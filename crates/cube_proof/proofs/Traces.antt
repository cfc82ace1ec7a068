-- Reasons that lead from some false literals to others, and the way back from a conflict.
use Rattle.std.proofs.Common.{◌≡◌, ◌∙◌, ◌<◌, ◌≢◌, ℕ, Bool, true, false, zero, suc, refl, sym, ap, subst, arith, List, [], ◌∷◌, ◌++◌, length, reverse, Some, ◌⊎◌, inl, inr}
use Rattle.std.specs.Prelude.{◌==◌, ◌||◌, not, IsTrue, slice_get, slice_index_or}
use Rattle.std.specs.List.{All, Contains, list_any, list_all, filter}
use Rattle.std.proofs.lemmas.Bool.{cases_Bool, eq-eqb}
use Rattle.std.proofs.lemmas.Bool.Decides.{eqb_tells}
use Rattle.std.proofs.lemmas.List.{reverse-append}
use Rattle.std.proofs.lemmas.List.Elements.{All-cons}
use Rattle.std.proofs.lemmas.Option.{slice_get_within}
use Rattle.rsfq_ids.specs.Formula.{Clause, opposite}
use Rattle.proof_arena.specs.Step.{reading, reading_of_rest, is_among, makes_false, ends_in_conflict}
use Rattle.proof_arena.specs.declared.hint.HintReading.TheVariants.{Conflict, Passed, Unit as UnitLit, NotUnit}
use Rattle.cube_proof.specs.declared.search.Reason.{Reason}
use Rattle.cube_proof.specs.Search.{IsReason, IsTrace, IsAsked, IsNeeded, AreNeeded, Serves, IsGoingBack, AreHints}
use Rattle.cube_proof.proofs.Clauses.{no_true, not_both, any_more, or_right, by_unit, opposite-opposite}
use Rattle.cube_proof.proofs.Lists.{same_item}

-- ---- one reason more, and one less

pub trace_push : (clauses : List Clause) (before middle : ℕ → Bool) (reasons : List Reason) (reason : Reason) → IsTrace clauses before reasons middle
    → IsReason clauses middle reason → IsTrace clauses before (reasons ++ reason ∷ []) (makes_false middle reason.lit)
trace_push clauses before middle [] reason traced one = (subst (λ (f : ℕ → Bool). IsReason clauses f reason) traced one, ap (λ (f : ℕ → Bool). makes_false f reason.lit) traced)
trace_push clauses before middle (first ∷ reasons) reason traced one = (traced.0, trace_push clauses (makes_false before first.lit) middle reasons reason traced.1 one)

-- a trace to its last reason
pub record IsTraceTo (clauses : List Clause) (before : ℕ → Bool) (reasons : List Reason) (reason : Reason) (after : ℕ → Bool) : Type 0 where
  pub middle : ℕ → Bool
  pub traced : IsTrace clauses before reasons middle
  pub last : IsReason clauses middle reason
  pub made : after ≡ makes_false middle reason.lit

pub trace_pop : (clauses : List Clause) (before after : ℕ → Bool) (reasons : List Reason) (reason : Reason) → IsTrace clauses before (reasons ++ reason ∷ []) after
    → IsTraceTo clauses before reasons reason after
trace_pop clauses before after [] reason traced = record { middle = before; traced = refl; last = traced.0; made = traced.1 }
trace_pop clauses before after (first ∷ reasons) reason traced =
    let rest = trace_pop clauses (makes_false before first.lit) after reasons reason traced.1 in
    record { middle = rest.middle; traced = (traced.0, rest.traced); last = rest.last; made = rest.made }

pub reason_within : (clauses : List Clause) (falses : ℕ → Bool) (reason : Reason) → IsReason clauses falses reason → reason.clause < length clauses
reason_within clauses falses reason is = slice_get_within clauses reason.clause is.said is.there

-- ---- fewer false literals

-- where fewer literals are false, but those of a clause that were, its open ones are the same
filter_same : (falses some : ℕ → Bool) (clause : Clause) → ((lit : ℕ) → some lit ≡ true → falses lit ≡ true) → ((lit : ℕ) → is_among clause lit ≡ true → falses lit ≡ true → some lit ≡ true)
    → filter (λ lit. not (some lit)) clause ≡ filter (λ lit. not (falses lit)) clause
filter_same falses some [] fewer all = refl
filter_same falses some (x ∷ clause) fewer all =
    let rest = filter_same falses some clause fewer (λ lit among is. all lit (later lit among) is) in
    elim (cases_Bool (falses x)) [
      | inl so ↦ rw (so, all x here so) rest
      | inr not_so ↦ elim (cases_Bool (some x)) [
        | inl is ↦ not_both (falses x) (fewer x is) not_so
        | inr is_not ↦ rw (not_so, is_not) (ap (λ (l : List ℕ). x ∷ l) rest)
      ]
    ]
  where
    here : is_among (x ∷ clause) x ≡ true
    here = rw (eq-eqb x x refl) refl

    later : (lit : ℕ) → is_among clause lit ≡ true → is_among (x ∷ clause) lit ≡ true
    later lit among = elim (cases_Bool (lit == x)) [ inl e ↦ rw e refl | inr e ↦ rw e among ]

rest_conflict : (falses some : ℕ → Bool) (rest : Clause) → reading_of_rest falses rest ≡ Conflict → reading_of_rest some rest ≡ Conflict
rest_conflict falses some [] is = refl
rest_conflict falses some (x ∷ rest) is = elim (cases_Bool (list_any (λ l. falses (opposite l)) (x ∷ rest))) [
  | inl so ↦ (let no : Passed ≡ Conflict = rw so at is in cc)
  | inr not_so ↦ elim (cases_Bool (list_all (λ other. x == other) rest)) [
    | inl same ↦ (let no : UnitLit x ≡ Conflict = rw (not_so, same) at is in cc)
    | inr more ↦ (let no : NotUnit ≡ Conflict = rw (not_so, more) at is in cc)
  ]
]

rest_unit : (falses some : ℕ → Bool) (rest : Clause) (lit : ℕ) → ((other : ℕ) → some other ≡ true → falses other ≡ true) → reading_of_rest falses rest ≡ UnitLit lit → reading_of_rest some rest ≡ UnitLit lit
rest_unit falses some [] lit fewer is = cc
rest_unit falses some (x ∷ rest) lit fewer is = elim (cases_Bool (list_any (λ l. falses (opposite l)) (x ∷ rest))) [
  | inl so ↦ (let no : Passed ≡ UnitLit lit = rw so at is in cc)
  | inr not_so ↦ elim (cases_Bool (list_any (λ l. some (opposite l)) (x ∷ rest))) [
    | inl also ↦ not_both (list_any (λ l. falses (opposite l)) (x ∷ rest)) (any_more (λ l. some (opposite l)) (λ l. falses (opposite l)) (λ l. fewer (opposite l)) (x ∷ rest) also) not_so
    | inr nay ↦ elim (cases_Bool (list_all (λ other. x == other) rest)) [
      | inl same ↦ (let here : UnitLit x ≡ UnitLit lit = rw (not_so, same) at is in rw (nay, same) here)
      | inr more ↦ (let no : NotUnit ≡ UnitLit lit = rw (not_so, more) at is in cc)
    ]
  ]
]

still_conflict : (falses some : ℕ → Bool) (clause : Clause) → ((lit : ℕ) → some lit ≡ true → falses lit ≡ true) → ((lit : ℕ) → is_among clause lit ≡ true → falses lit ≡ true → some lit ≡ true)
    → reading falses clause ≡ Conflict → reading some clause ≡ Conflict
still_conflict falses some clause fewer all is =
    ap (reading_of_rest some) (filter_same falses some clause fewer all) ∙ rest_conflict falses some (filter (λ lit. not (falses lit)) clause) is

still_unit : (falses some : ℕ → Bool) (clause : Clause) (lit : ℕ) → ((other : ℕ) → some other ≡ true → falses other ≡ true) → ((other : ℕ) → is_among clause other ≡ true → falses other ≡ true → some other ≡ true)
    → reading falses clause ≡ UnitLit lit → reading some clause ≡ UnitLit lit
still_unit falses some clause lit fewer all is =
    ap (reading_of_rest some) (filter_same falses some clause fewer all) ∙ rest_unit falses some (filter (λ lit. not (falses lit)) clause) lit fewer is

-- ---- the way back

serves_last : (clauses : List Clause) (place : ℕ) (clause : Clause) (falses needed : ℕ → Bool) → slice_get clauses place ≡ Some clause → reading falses clause ≡ Conflict
    → ((lit : ℕ) → is_among clause lit ≡ true → needed lit ≡ true) → Serves clauses falses needed (place ∷ [])
serves_last clauses place clause falses needed there is asks some fewer all =
    let said = still_conflict falses some clause fewer (λ lit among so. all lit (asks lit among) so) is in
    rw (there, said) refl

serves_skipped : (clauses : List Clause) (falses needed : ℕ → Bool) (hints : List ℕ) (lit : ℕ) → needed lit ≡ false → Serves clauses (makes_false falses lit) needed hints → Serves clauses falses needed hints
serves_skipped clauses falses needed hints lit free serves some fewer all =
    serves some (λ l is. more l (fewer l is))
    (λ l need is. elim (eqb_tells l lit) [ inl t ↦ not_both (needed l) need (ap needed t.1 ∙ free) | inr t ↦ all l need (rw t.0 at is) ])
  where
    more : (l : ℕ) → falses l ≡ true → makes_false falses lit l ≡ true
    more l is = elim (cases_Bool (l == lit)) [ inl e ↦ rw e refl | inr e ↦ rw e is ]

made_more : (some falses : ℕ → Bool) (lit l : ℕ) → (some l ≡ true → falses l ≡ true) → makes_false some lit l ≡ true → makes_false falses lit l ≡ true
made_more some falses lit l more is = elim (cases_Bool (l == lit)) [ inl e ↦ rw e refl | inr e ↦ rw e (more (rw e at is)) ]

serves_kept : (clauses : List Clause) (falses needed wanted : ℕ → Bool) (hints : List ℕ) (reason : Reason) (is : IsReason clauses falses reason)
    → ((lit : ℕ) → needed lit ≡ true → wanted lit ≡ true) → ((lit : ℕ) → is_among is.said lit ≡ true → wanted lit ≡ true)
    → Serves clauses (makes_false falses reason.lit) needed hints → Serves clauses falses wanted (reason.clause ∷ hints)
serves_kept clauses falses needed wanted hints reason is more asks serves some fewer all =
    let said = still_unit falses some is.said is.literal fewer (λ lit among so. all lit (asks lit among) so) is.unit in
    let on = serves (makes_false some reason.lit) (λ l. made_more some falses reason.lit l (fewer l)) (λ l need. made_more falses some reason.lit l (all l (more l need))) in
    rw (is.there, said) (ap (λ lit. ends_in_conflict clauses (makes_false some lit) hints) (sym is.made) ∙ on)

-- ---- what is asked for

asked_later : (clauses : List Clause) (hint : ℕ) (hints : List ℕ) (lit : ℕ) → IsAsked clauses hints lit → IsAsked clauses (hint ∷ hints) lit
asked_later clauses hint hints lit asked =
    (asked.0, (suc asked.1.0, (let lt = asked.1.1 in omega arith), asked.1.2), asked.2)

asked_here : (clauses : List Clause) (hint : ℕ) (hints : List ℕ) (lit : ℕ) → is_among (slice_index_or clauses hint []) lit ≡ true → IsAsked clauses (hint ∷ hints) lit
asked_here clauses hint hints lit among = (hint, (zero, omega arith, refl), among)

asked_more : (clauses : List Clause) (hint : ℕ) (hints : List ℕ) (needed : ℕ → Bool) (lit : ℕ) → (needed lit ≡ true → IsAsked clauses hints lit)
    → (is_among (slice_index_or clauses hint []) lit || needed lit) ≡ true → IsAsked clauses (hint ∷ hints) lit
asked_more clauses hint hints needed lit asked is = elim (cases_Bool (is_among (slice_index_or clauses hint []) lit)) [
  | inl among ↦ asked_here clauses hint hints lit among
  | inr free ↦ asked_later clauses hint hints lit (asked (or_right _ _ free is))
]

needed_by : (clauses : List Clause) (hint : ℕ) (hints : List ℕ) (lit : ℕ) → is_among (slice_index_or clauses hint []) lit ≡ true → IsAsked clauses hints (opposite lit) → IsNeeded clauses hint hints
needed_by clauses hint [] lit among asked = tt
needed_by clauses hint (next ∷ later) lit among asked = (lit, among, asked)

-- ---- steps of the way back

item_here : (clauses : List Clause) (place : ℕ) (clause : Clause) → slice_get clauses place ≡ Some clause → slice_index_or clauses place [] ≡ clause
item_here [] place clause is = cc
item_here (c ∷ clauses) zero clause is = cc
item_here (c ∷ clauses) (suc k) clause is = item_here clauses k clause is

here_item : (clauses : List Clause) (place : ℕ) → place < length clauses → slice_get clauses place ≡ Some (slice_index_or clauses place [])
here_item [] place lt = absurd (omega arith)
here_item (c ∷ clauses) zero lt = refl
here_item (c ∷ clauses) (suc k) lt = here_item clauses k (omega arith)

last_first : (old hints : List ℕ) (hint : ℕ) → hints ≡ old ++ hint ∷ [] → reverse hints ≡ hint ∷ reverse old
last_first old hints hint is = ap reverse is ∙ reverse-append old (hint ∷ [])

or_first : (b c : Bool) → b ≡ true → (b || c) ≡ true
or_first b c e = rw e refl

or_second : (b c : Bool) → c ≡ true → (b || c) ≡ true
or_second true c e = refl
or_second false c e = e

pub back_first : (clauses : List Clause) (word : List ℕ) (reasons : List Reason) (place : ℕ) (falses cleared needed : ℕ → Bool) (old hints : List ℕ)
    → IsTrace clauses (is_among word) reasons falses → place < length clauses → reading falses (slice_index_or clauses place []) ≡ Conflict
    → cleared ≡ (λ _. false) → needed ≡ (λ lit. is_among (slice_index_or clauses place []) lit || cleared lit) → old ≡ [] → hints ≡ old ++ place ∷ []
    → IsGoingBack clauses word reasons needed hints
back_first clauses word reasons place falses cleared needed old hints traced lt is none asks no_old more =
    let only : reverse hints ≡ place ∷ [] = last_first old hints place more ∙ ap (λ (l : List ℕ). place ∷ reverse l) no_old in
    let told : (lit : ℕ) → needed lit ≡ (is_among (slice_index_or clauses place []) lit || cleared lit) = λ (lit : ℕ). ap (λ (f : ℕ → Bool). f lit) asks in
    record {
      falses = falses;
      traced = traced;
      serves = subst (Serves clauses falses needed) (sym only)
          (serves_last clauses place (slice_index_or clauses place []) falses needed (here_item clauses place lt) is (λ lit among. told lit ∙ or_first _ (cleared lit) among));
      asked = λ lit need. subst (λ (l : List ℕ). IsAsked clauses l lit) (sym only)
          (asked_more clauses place [] cleared lit (λ so. no_true (sym (ap (λ (f : ℕ → Bool). f lit) none) ∙ so)) (sym (told lit) ∙ need));
      kept = subst (AreNeeded clauses) (sym only) (tt, tt);
      within = subst (All (λ hint. hint < length clauses)) (sym only) (All-cons (λ hint. hint < length clauses) place [] lt (λ k d below. absurd (omega arith)));
    }

pub back_last : (clauses : List Clause) (word : List ℕ) (all reasons : List Reason) (reason : Reason) (needed : ℕ → Bool) (hints : List ℕ) → all ≡ reasons ++ reason ∷ []
    → (on : IsGoingBack clauses word all needed hints) → IsTraceTo clauses (is_among word) reasons reason on.falses
back_last clauses word all reasons reason needed hints is on =
    trace_pop clauses (is_among word) on.falses reasons reason (subst (λ (l : List Reason). IsTrace clauses (is_among word) l on.falses) is on.traced)

pub back_skipped : (clauses : List Clause) (word : List ℕ) (all reasons : List Reason) (reason : Reason) (needed : ℕ → Bool) (hints : List ℕ) → all ≡ reasons ++ reason ∷ []
    → needed reason.lit ≡ false → IsGoingBack clauses word all needed hints → IsGoingBack clauses word reasons needed hints
back_skipped clauses word all reasons reason needed hints is free on =
    let last = back_last clauses word all reasons reason needed hints is on in
    record {
      falses = last.middle;
      traced = last.traced;
      serves = serves_skipped clauses last.middle needed (reverse hints) reason.lit free (subst (λ (f : ℕ → Bool). Serves clauses f needed (reverse hints)) last.made on.serves);
      asked = on.asked;
      kept = on.kept;
      within = on.within;
    }

pub back_kept : (clauses : List Clause) (word : List ℕ) (all reasons : List Reason) (reason : Reason) (needed wanted : ℕ → Bool) (hints more : List ℕ) → all ≡ reasons ++ reason ∷ []
    → needed reason.lit ≡ true → wanted ≡ (λ lit. is_among (slice_index_or clauses reason.clause []) lit || needed lit) → more ≡ hints ++ reason.clause ∷ []
    → IsGoingBack clauses word all needed hints → IsGoingBack clauses word reasons wanted more
back_kept clauses word all reasons reason needed wanted hints more is need asks pushed on =
    let last = back_last clauses word all reasons reason needed hints is on in
    let order = last_first hints more reason.clause pushed in
    let here = item_here clauses reason.clause last.last.said last.last.there in
    let told : (lit : ℕ) → wanted lit ≡ (is_among (slice_index_or clauses reason.clause []) lit || needed lit) = λ (lit : ℕ). ap (λ (f : ℕ → Bool). f lit) asks in
    let unit = by_unit last.middle last.last.said last.last.literal last.last.unit in
    let among : is_among (slice_index_or clauses reason.clause []) last.last.literal ≡ true = ap (λ (l : Clause). is_among l last.last.literal) here ∙ unit.among in
    record {
      falses = last.middle;
      traced = last.traced;
      serves = subst (Serves clauses last.middle wanted) (sym order)
          (serves_kept clauses last.middle needed wanted (reverse hints) reason last.last (λ lit so. told lit ∙ or_second _ _ so)
          (λ lit has. told lit ∙ or_first _ _ (ap (λ (l : Clause). is_among l lit) here ∙ has))
          (subst (λ (f : ℕ → Bool). Serves clauses f needed (reverse hints)) last.made on.serves));
      asked = λ lit so. subst (λ (l : List ℕ). IsAsked clauses l lit) (sym order) (asked_more clauses reason.clause (reverse hints) needed lit (on.asked lit) (sym (told lit) ∙ so));
      kept = subst (AreNeeded clauses) (sym order)
          (needed_by clauses reason.clause (reverse hints) last.last.literal among (subst (IsAsked clauses (reverse hints)) last.last.made (on.asked reason.lit need)), on.kept);
      within = subst (All (λ hint. hint < length clauses)) (sym order) (All-cons (λ hint. hint < length clauses) reason.clause (reverse hints) (reason_within clauses last.middle reason last.last) on.within);
    }

pub back_done : (clauses : List Clause) (word : List ℕ) (reasons : List Reason) (needed : ℕ → Bool) (hints kept : List ℕ) → reasons ≡ [] → kept ≡ reverse hints
    → IsGoingBack clauses word reasons needed hints → AreHints clauses word kept
back_done clauses word reasons needed hints kept none is on =
    let traced : on.falses ≡ is_among word = subst (λ (l : List Reason). IsTrace clauses (is_among word) l on.falses) none on.traced in
    let same : (lit : ℕ) → on.falses lit ≡ is_among word lit = λ (lit : ℕ). ap (λ (f : ℕ → Bool). f lit) traced in
    record {
      ends = ap (ends_in_conflict clauses (is_among word)) is ∙ on.serves (is_among word) (λ lit so. same lit ∙ so) (λ lit need so. sym (same lit) ∙ so);
      kept = subst (AreNeeded clauses) (sym is) on.kept;
      within = subst (All (λ hint. hint < length clauses)) (sym is) on.within;
    }
