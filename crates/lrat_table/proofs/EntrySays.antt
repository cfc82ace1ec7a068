-- Entries of a table whose ids rise: a search, one entry more, and one without its clause.
use Rattle.std.proofs.Common.{◌≡◌, ◌∙◌, ◌<◌, ◌≤◌, ℕ, zero, suc, refl, sym, ap, arith, set, List, [], ◌∷◌, ◌++◌, map, length, get_or, inl, inr, Option, Some, None, Result, Ok, Err, subst}
use Rattle.std.specs.Prelude.{◌-◌, is_some, option_map, slice_get, MatchOption, MatchResult}
use Rattle.std.specs.Result.{result_ok}
use Rattle.std.specs.List.Sorted.{IsSearchInRange, IsBinarySearchResult, IsNonDecreasingBy}
use Rattle.std.specs.Ordering.{nat_cmp, ordering_index}
use Rattle.std.proofs.Math.Path.{fun_ext}
use Rattle.std.proofs.lemmas.Bool.{eq-eqb}
use Rattle.std.proofs.lemmas.Bool.Decides.{eqb_tells, nat_tests}
use Rattle.std.proofs.lemmas.Cmp.{ranked}
use Rattle.std.proofs.lemmas.List.{get_or-map, length-map, map-append}
use Rattle.std.proofs.lemmas.Option.{slice_get-get_or}
use Rattle.rsfq_ids.specs.Formula.{Clause}
use Rattle.lrat_table.specs.Found.{Found, with_clause, without_clause}
use Rattle.lrat_table.specs.Entries.{TableEntry, found_of, last_of, AreRising, id_at, IsAt, IsAbsent}
use Rattle.lrat_table.specs.Held.{entry_of}
use Rattle.lrat_table.specs.declared.table.Entry.{Entry}

abbrev pub no_entry : TableEntry
no_entry = record { id = 0; clause = None }

abbrev pub entry : ℕ → Option Clause → TableEntry
entry id clause = record { id = id; clause = clause }

-- ---- ids that rise

last_above : (last : ℕ) (entries : List TableEntry) → AreRising last entries → last ≤ last_of last entries
last_above last [] rising = omega arith
last_above last (e ∷ entries) rising = omega (arith, rising.0, last_above e.id entries rising.1)

id_above : (last : ℕ) (entries : List TableEntry) → AreRising last entries → (place : ℕ) → place < length entries → last < id_at entries place
id_above last [] rising place lt = absurd (omega arith)
id_above last (e ∷ entries) rising zero lt = rising.0
id_above last (e ∷ entries) rising (suc place) lt = omega (arith, rising.0, id_above e.id entries rising.1 place (omega arith))

ids_rise : (last : ℕ) (entries : List TableEntry) → AreRising last entries → (i j : ℕ) → i ≤ j → j < length entries → id_at entries i ≤ id_at entries j
ids_rise last [] rising i j le lt = absurd (omega arith)
ids_rise last (e ∷ entries) rising zero zero le lt = omega arith
ids_rise last (e ∷ entries) rising zero (suc j) le lt = omega (arith, id_above e.id entries rising.1 j (omega arith))
ids_rise last (e ∷ entries) rising (suc i) zero le lt = absurd (omega arith)
ids_rise last (e ∷ entries) rising (suc i) (suc j) le lt = ids_rise e.id entries rising.1 i j (omega arith) (omega arith)

-- ---- what is found

pub found_at : (last : ℕ) (entries : List TableEntry) → AreRising last entries → (id place : ℕ) → IsAt entries id place → found_of entries id ≡ (get_or entries place no_entry).clause
found_at last [] rising id place at = absurd (omega (arith, at.within))
found_at last (e ∷ entries) rising id zero at = rw (eq-eqb id e.id (sym at.same)) refl
found_at last (e ∷ entries) rising id (suc place) at =
    let within = at.within in
    let behind : IsAt entries id place = record { within = omega arith; same = at.same } in
    elim (eqb_tells id e.id) [
      | inl t ↦ absurd (omega (arith, t.1, at.same, id_above e.id entries rising.1 place (omega arith)))
      | inr t ↦ rw t.0 (found_at e.id entries rising.1 id place behind)
    ]

pub found_nowhere : (entries : List TableEntry) (id : ℕ) → IsAbsent entries id → found_of entries id ≡ None
found_nowhere [] id absent = refl
found_nowhere (e ∷ entries) id absent = elim (eqb_tells id e.id) [
  | inl t ↦ absurd (absent zero (omega arith) (sym t.1))
  | inr t ↦ rw t.0 (found_nowhere entries id (λ place lt. absent (suc place) (omega arith)))
]

-- ---- a binary search

module _ (items : List Entry) (rising : AreRising 0 (map entry_of items)) (id : ℕ) where
  id_of : (place : ℕ) (d : Entry) → place < length items → id_at (map entry_of items) place ≡ (get_or items place d).id
  id_of place d lt = ap (λ (e : TableEntry). e.id) (get_or-map entry_of items place d no_entry lt)

  comparisons_rise : IsNonDecreasingBy (λ (e : Entry). ordering_index (nat_cmp e.id id)) items
  comparisons_rise = λ i j d le lt.
      let size = length-map items entry_of in
      let one = id_of i d (omega arith) in
      let other = id_of j d lt in
      let up : (get_or items i d).id ≤ (get_or items j d).id = omega (arith, ids_rise 0 (map entry_of items) rising i j le (omega arith)) in
      grind (arith, nat_tests)

  -- it ends at the id, or no entry has it
  pub searched : (r : Result ℕ ℕ) → IsSearchInRange r (length items) → IsBinarySearchResult (λ (e : Entry). nat_cmp e.id id) items r
      → MatchResult r (IsAt (map entry_of items) id) (λ _. IsAbsent (map entry_of items) id)
  searched (Ok place) within equal =
      let size = length-map items entry_of in
      let none : Entry = record { id = 0; clause = None } in record {
        within = omega arith;
        same = id_of place none within ∙ ranked _ id _ (sym (equal none));
      }
  searched (Err gap) within parted = λ place lt same.
      let size = length-map items entry_of in
      let none : Entry = record { id = 0; clause = None } in
      let here = id_of place none (omega arith) in
      let below : place < gap → (get_or items place none).id < id = λ under. ranked _ id _ (sym ((parted comparisons_rise).0 place none (omega arith) under)) in
      let above : gap ≤ place → id < (get_or items place none).id = λ over. ranked _ id _ (sym ((parted comparisons_rise).1 place none over (omega arith))) in
      grind (arith, below, above)

-- ---- one entry more

pub added_rising : (last : ℕ) (entries : List TableEntry) (id : ℕ) (clause : Option Clause) → AreRising last entries → last_of last entries < id → AreRising last (entries ++ entry id clause ∷ [])
added_rising last [] id clause rising lt = (lt, tt)
added_rising last (e ∷ entries) id clause rising lt = (rising.0, added_rising e.id entries id clause rising.1 lt)

pub added_last : (last : ℕ) (entries : List TableEntry) (id : ℕ) (clause : Option Clause) → last_of last (entries ++ entry id clause ∷ []) ≡ id
added_last last [] id clause = refl
added_last last (e ∷ entries) id clause = added_last e.id entries id clause

added_at : (last : ℕ) (entries : List TableEntry) (id : ℕ) (clause : Clause) → AreRising last entries → last_of last entries < id → (other : ℕ)
    → found_of (entries ++ entry id (Some clause) ∷ []) other ≡ with_clause (found_of entries) id clause other
added_at last [] id clause rising lt other = refl
added_at last (e ∷ entries) id clause rising lt other = elim (eqb_tells other e.id) [
  | inl t ↦ elim (eqb_tells other id) [
    | inl u ↦ absurd (omega (arith, t.1, u.1, last_above e.id entries rising.1))
    | inr u ↦ rw (t.0, u.0) refl
  ]
  | inr t ↦ rw t.0 (added_at e.id entries id clause rising.1 lt other)
]

pub added_found : (last : ℕ) (entries : List TableEntry) (id : ℕ) (clause : Clause) → AreRising last entries → last_of last entries < id
    → found_of (entries ++ entry id (Some clause) ∷ []) ≡ with_clause (found_of entries) id clause
added_found last entries id clause rising lt = fun_ext (added_at last entries id clause rising lt)

-- ---- one entry without its clause

pub emptied_rising : (last : ℕ) (entries : List TableEntry) (id place : ℕ) → AreRising last entries → IsAt entries id place → AreRising last (set entries place (entry id None))
emptied_rising last [] id place rising at = absurd (omega (arith, at.within))
emptied_rising last (e ∷ entries) id zero rising at = subst (λ n. (last < n) × AreRising n entries) at.same rising
emptied_rising last (e ∷ entries) id (suc place) rising at =
    let within = at.within in (rising.0, emptied_rising e.id entries id place rising.1 (record { within = omega arith; same = at.same }))

pub emptied_last : (last : ℕ) (entries : List TableEntry) (id place : ℕ) → IsAt entries id place → last_of last (set entries place (entry id None)) ≡ last_of last entries
emptied_last last [] id place at = absurd (omega (arith, at.within))
emptied_last last (e ∷ entries) id zero at = ap (λ n. last_of n entries) (sym at.same)
emptied_last last (e ∷ entries) id (suc place) at =
    let within = at.within in emptied_last e.id entries id place (record { within = omega arith; same = at.same })

emptied_at : (last : ℕ) (entries : List TableEntry) (id place : ℕ) → AreRising last entries → IsAt entries id place → (other : ℕ)
    → found_of (set entries place (entry id None)) other ≡ without_clause (found_of entries) id other
emptied_at last [] id place rising at other = absurd (omega (arith, at.within))
emptied_at last (e ∷ entries) id zero rising at other = elim (eqb_tells other id) [
  | inl t ↦ rw t.0 refl
  | inr t ↦ elim (eqb_tells other e.id) [
    | inl u ↦ absurd (t.1 (u.1 ∙ at.same))
    | inr u ↦ rw (t.0, u.0) refl
  ]
]
emptied_at last (e ∷ entries) id (suc place) rising at other =
    let within = at.within in
    let behind : IsAt entries id place = record { within = omega arith; same = at.same } in
    elim (eqb_tells other e.id) [
      | inl t ↦ elim (eqb_tells other id) [
        | inl u ↦ absurd (omega (arith, t.1, u.1, at.same, id_above e.id entries rising.1 place (omega arith)))
        | inr u ↦ rw (t.0, u.0) refl
      ]
      | inr t ↦ rw t.0 (emptied_at e.id entries id place rising.1 behind other)
    ]

pub emptied_found : (last : ℕ) (entries : List TableEntry) (id place : ℕ) → AreRising last entries → IsAt entries id place
    → found_of (set entries place (entry id None)) ≡ without_clause (found_of entries) id
emptied_found last entries id place rising at = fun_ext (emptied_at last entries id place rising at)

-- ---- a place

pub place_from : (P : ℕ → Type 0) (Q : Type 0) (r : Result ℕ ℕ) → MatchResult r P (λ _. Q) → MatchOption (result_ok r) Q P
place_from P Q (Ok place) is = is
place_from P Q (Err gap) is = is

-- ---- the entries that are stored

pub stored : (items : List Entry) → AreRising 0 (map entry_of items) → (id place : ℕ) (e : Entry) → IsAt (map entry_of items) id place → e ≡ get_or items place e
    → found_of (map entry_of items) id ≡ (entry_of e).clause
stored items rising id place e at is =
    let size = length-map items entry_of in
    let within = at.within in
    let lt : place < length items = omega arith in
    found_at 0 (map entry_of items) rising id place at ∙ ap (λ (x : TableEntry). x.clause) (get_or-map entry_of items place e no_entry lt) ∙ ap (λ (x : Entry). (entry_of x).clause) (sym is)

pub pushed : (old new : List Entry) (e : Entry) → new ≡ old ++ e ∷ [] → map entry_of new ≡ map entry_of old ++ entry_of e ∷ []
pushed old new e is = ap (map entry_of) is ∙ map-append entry_of old (e ∷ [])

pub last_stored : (last : ℕ) (items : List Entry) (e : Entry) → Some e ≡ slice_get items (length items - 1) → e.id ≡ last_of last (map entry_of items)
last_stored last [] e is = absurd cc
last_stored last (x ∷ []) e is = let same : e ≡ x = cc in ap (λ (y : Entry). y.id) same
last_stored last (x ∷ y ∷ items) e is =
    let place : length (x ∷ y ∷ items) - 1 ≡ suc (length (y ∷ items) - 1) = omega arith in
    last_stored x.id (y ∷ items) e (is ∙ ap (slice_get (x ∷ y ∷ items)) place)

pub none_stored : (items : List Entry) → None ≡ slice_get items (length items - 1) → 0 ≡ last_of 0 (map entry_of items)
none_stored [] is = refl
none_stored (x ∷ items) is =
    let some : slice_get (x ∷ items) (length (x ∷ items) - 1) ≡ Some (get_or (x ∷ items) (length (x ∷ items) - 1) x) = slice_get-get_or (x ∷ items) (length (x ∷ items) - 1) x (omega arith) in
    absurd (let e : ◌≡◌ {A = Option Entry} None (Some (get_or (x ∷ items) (length (x ∷ items) - 1) x)) = is ∙ some in cc)

pub still_some : {X Y : Type 0} (f : X → Y) (o : Option X) → is_some o ≡ is_some (option_map f o)
still_some f None = refl
still_some f (Some x) = refl

pub without_none : (found : Found) (id : ℕ) → found id ≡ None → found ≡ without_clause found id
without_none found id none = fun_ext (λ other. elim (eqb_tells other id) [
  | inl t ↦ rw t.0 (ap found t.1 ∙ none)
  | inr t ↦ rw t.0 refl
])
