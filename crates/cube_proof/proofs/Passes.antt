-- Passes over clauses.
use Rattle.std.proofs.Common.{◌≡◌, ◌∙◌, ◌<◌, ◌≤◌, ◌*◌, ℕ, Bool, true, false, zero, suc, refl, sym, ap, subst, arith, List, [], ◌∷◌, ◌++◌, length, get_or, ◌⊎◌, inl, inr}
use Rattle.std.specs.Prelude.{◌==◌, ◌||◌, slice_index_or}
use Rattle.std.specs.List.{All, Contains}
use Rattle.std.proofs.lemmas.Bool.{cases_Bool, eq-eqb}
use Rattle.std.proofs.lemmas.Bool.Decides.{eqb_tells}
use Rattle.rsfq_ids.specs.Formula.{Clause, IsFormula, IsOver, opposite}
use Rattle.rsfq_ids.specs.declared.circuit.Cnf.{Cnf}
use Rattle.proof_arena.specs.Step.{reading, is_among, is_tautology}
use Rattle.proof_arena.specs.Table.{falses_of}
use Rattle.cube_proof.specs.Search.{point_of, waits, count_of, sizes_of, IsWatchedAt, AreWatched, IsVisit, IsUnderWay, IsPass, IsBegun, IsClosed, HasTables, work_of}
use Rattle.proof_arena.specs.declared.hint.HintReading.TheVariants.{Passed, NotUnit}
use Rattle.cube_proof.specs.declared.search.Search.{Search}
use Rattle.cube_proof.proofs.Clauses.{no_true, or_right, among_any}
use Rattle.std.specs.declared.vec.Vec.{Vec}
use Rattle.std.specs.declared.alloc.Global.{Global}
use Rattle.proof_arena.proofs.Readings.{denied}
use Rattle.cube_proof.specs.Users.{lists_of}
use Rattle.cube_proof.proofs.Lists.{same_item, first_items, last_item}
use Rattle.cube_proof.proofs.Watching.{watched_first, watched_free, watched_none, bound_on, counted_all}

-- ---- members, by place and by test

pub among_of : (clause : Clause) (lit : ℕ) → Contains clause lit → is_among clause lit ≡ true
among_of [] lit has = absurd (let lt = has.1 in omega arith)
among_of (x ∷ clause) lit (zero, lt, is) = rw (eq-eqb lit x (sym is)) refl
among_of (x ∷ clause) lit (suc k, lt, is) = elim (cases_Bool (lit == x)) [
  | inl e ↦ rw e refl
  | inr e ↦ rw e (among_of clause lit (k, omega arith, is))
]

pub of_among : (clause : Clause) (lit : ℕ) → is_among clause lit ≡ true → Contains clause lit
of_among [] lit among = no_true among
of_among (x ∷ clause) lit among = elim (eqb_tells lit x) [
  | inl t ↦ (zero, omega arith, sym t.1)
  | inr t ↦ (let rest = of_among clause lit (or_right _ _ t.0 among) in (suc rest.0, (let lt = rest.1 in omega arith), rest.2))
]

-- ---- all clauses of a literal

pub pass_done : (vars : ℕ) (cnf : Cnf) (word : List ℕ) (lit : ℕ) (places : List ℕ) (before after : Search) → IsFormula cnf
    → ((place : ℕ) → place < length cnf.clauses → Contains (slice_index_or cnf.clauses place []) lit → Contains places place)
    → IsUnderWay cnf.vars cnf.clauses word after → AreWatched cnf.clauses (length cnf.clauses) (lit ∷ after.stack.items) after
    → ((k : ℕ) → k < length places → IsWatchedAt cnf.clauses after.stack.items after (get_or places k 0))
    → work_of cnf.vars after ≤ work_of cnf.vars before → IsPass cnf.vars cnf.clauses word before after
pass_done vars cnf word lit places before after formula listed on watched done work = record {
  under_way = on;
  watched = λ place lt. elim (cases_Bool (is_among (slice_index_or cnf.clauses place []) lit)) [
    | inr free ↦ watched_free (falses_of after.marks) after.stack.items lit (slice_index_or cnf.clauses place []) (get_or after.left.items place 0) free (watched place lt)
    | inl among ↦
        let has = listed place lt (of_among (slice_index_or cnf.clauses place []) lit among) in
        subst (IsWatchedAt cnf.clauses after.stack.items after) (same_item places has.0 0 place has.1 ∙ has.2) (done has.0 has.1)
  ];
  work = work;
}

-- ---- with nothing on the stack

pub closed_by : (cnf : Cnf) (word : List ℕ) (search : Search) → IsFormula cnf → IsUnderWay cnf.vars cnf.clauses word search
    → AreWatched cnf.clauses (length cnf.clauses) [] search → IsClosed cnf.clauses word (falses_of search.marks)
closed_by cnf word search formula on watched = record {
  begun = on.begun;
  apart = on.apart;
  over = λ clause place lt is. subst (λ (c : Clause). (reading (falses_of search.marks) c ≡ Passed) ⊎ (reading (falses_of search.marks) c ≡ NotUnit)) is
      (watched_none (falses_of search.marks) (slice_index_or cnf.clauses place []) (get_or search.left.items place 0) (formula.once place [] lt) (watched place lt));
}

-- ---- short clauses

pub size_at : (clauses : List Clause) (k : ℕ) → k < length clauses → get_or (sizes_of clauses) k 0 ≡ length (slice_index_or clauses k [])
size_at [] k lt = absurd (omega arith)
size_at (clause ∷ clauses) zero lt = refl
size_at (clause ∷ clauses) (suc k) lt = size_at clauses k (omega arith)

pub first_bounds : (cnf : Cnf) (word : List ℕ) (search : Search) → IsBegun cnf.vars cnf.clauses word search → (k : ℕ) → k < length cnf.clauses
    → get_or search.left.items k 0 ≤ count_of (waits (falses_of search.marks) search.stack.items) (slice_index_or cnf.clauses k [])
first_bounds cnf word search begun k lt =
    let size : get_or search.left.items k 0 ≡ length (slice_index_or cnf.clauses k []) = ap (λ (l : List ℕ). get_or l k 0) begun.left ∙ size_at cnf.clauses k lt in
    let all = counted_all word (slice_index_or cnf.clauses k []) in
    rw (begun.falses, begun.stack) (omega (arith, size, all))

pub visit_bounds : (cnf : Cnf) (place k : ℕ) (before after : Search) (conflict : Bool)
    → IsVisit (reading (falses_of before.marks) (slice_index_or cnf.clauses place [])) place (point_of before) conflict (point_of after)
    → after.left ≡ before.left
    → get_or before.left.items k 0 ≤ count_of (waits (falses_of before.marks) before.stack.items) (slice_index_or cnf.clauses k [])
    → get_or after.left.items k 0 ≤ count_of (waits (falses_of after.marks) after.stack.items) (slice_index_or cnf.clauses k [])
visit_bounds cnf place k before after conflict visit left bound =
    let more = bound_on (reading (falses_of before.marks) (slice_index_or cnf.clauses place [])) place (point_of before) (point_of after) conflict (slice_index_or cnf.clauses k []) (get_or before.left.items k 0) visit bound in
    rw left more

-- ---- the end of the stack is taken

pub popped_on : (vars : ℕ) (clauses : List Clause) (word : List ℕ) (search : Search) (stack : Vec ℕ Global) (lit : ℕ)
    → search.stack.items ≡ stack.items ++ lit ∷ [] → IsUnderWay vars clauses word search → IsUnderWay vars clauses word (record search { stack = stack })
popped_on vars clauses word search stack lit is on = record {
  traced = on.traced;
  begun = on.begun;
  apart = on.apart;
  stacked = first_items (λ l. l < 2 * vars) stack.items lit (subst (All (λ l. l < 2 * vars)) is on.stacked);
  table = on.table;
  needed = on.needed;
  many = on.many;
}

pub popped_small : (vars : ℕ) (clauses : List Clause) (word : List ℕ) (search : Search) (stack : Vec ℕ Global) (lit : ℕ)
    → search.stack.items ≡ stack.items ++ lit ∷ [] → IsUnderWay vars clauses word search → lit < 2 * vars
popped_small vars clauses word search stack lit is on = last_item (λ l. l < 2 * vars) stack.items lit (subst (All (λ l. l < 2 * vars)) is on.stacked)

pub popped_watched : (clauses : List Clause) (search : Search) (stack : Vec ℕ Global) (lit : ℕ) → search.stack.items ≡ stack.items ++ lit ∷ []
    → AreWatched clauses (length clauses) search.stack.items search → AreWatched clauses (length clauses) (lit ∷ stack.items) search
popped_watched clauses search stack lit is watched place lt =
    watched_first (falses_of search.marks) stack.items lit (slice_index_or clauses place []) (get_or search.left.items place 0)
    (subst (λ (s : List ℕ). IsWatchedAt clauses s search place) is (watched place lt))

pub lists_many : (xs : List (Vec ℕ Global)) → length (lists_of xs) ≡ length xs
lists_many [] = refl
lists_many (x ∷ xs) = ap suc (lists_many xs)

pub lists_get : (xs : List (Vec ℕ Global)) (i : ℕ) (u : Vec ℕ Global) → i < length xs → u ≡ get_or xs i u → u.items ≡ slice_index_or (lists_of xs) i []
lists_get [] i u lt e = absurd (omega arith)
lists_get (x ∷ xs) zero u lt e = ap (λ (v : Vec ℕ Global). v.items) e
lists_get (x ∷ xs) (suc i) u lt e = lists_get xs i u (omega arith) e

-- ---- the begin

no_stack : (stack : List ℕ) → stack ≡ [] → (word : List ℕ) → stack ++ word ≡ word
no_stack stack none word = rw none refl

-- what a clearing, a denial and the other steps leave
pub begun_by : (cnf : Cnf) (word : List ℕ) (search : Search) (cleared : ℕ → Bool) → IsOver cnf.vars word → is_tautology word ≡ false
    → cleared ≡ (λ _. false) → falses_of search.marks ≡ (λ lit. is_among word lit || cleared lit) → HasTables cnf.vars search
    → search.stack.items ≡ word → search.reasons.items ≡ [] → search.left.items ≡ sizes_of cnf.clauses → IsBegun cnf.vars cnf.clauses word search
begun_by cnf word found cleared over apart none falses tables stack reasons left =
    let same = denied word (falses_of found.marks) cleared falses none in
    record {
      under_way = record {
        traced = rw reasons same;
        begun = λ lit is. ap (λ (f : ℕ → Bool). f lit) same ∙ is;
        apart = λ lit is. ap (λ (f : ℕ → Bool). f (opposite lit)) same ∙ word_apart word lit apart (sym (ap (λ (f : ℕ → Bool). f lit) same) ∙ is);
        stacked = rw stack over;
        table = tables.marks;
        needed = tables.needed;
        many = rw left (many_sizes cnf.clauses);
      };
      falses = same;
      stack = stack;
      left = left;
    }
  where
    many_sizes : (clauses : List Clause) → length (sizes_of clauses) ≡ length clauses
    many_sizes [] = refl
    many_sizes (c ∷ clauses) = ap suc (many_sizes clauses)

    word_apart : (word : List ℕ) (lit : ℕ) → is_tautology word ≡ false → is_among word lit ≡ true → is_among word (opposite lit) ≡ false
    word_apart word lit apart is = elim (cases_Bool (is_among word (opposite lit))) [
      | inr free ↦ free
      | inl both ↦ no_true (sym apart ∙ among_any (λ l. is_among word (opposite l)) word lit is both)
    ]
