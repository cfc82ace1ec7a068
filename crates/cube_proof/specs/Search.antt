-- What propagation from a word has found so far.
use Rattle.std.specs.Prelude.{◌≡◌, ℕ, ◌+◌, ◌*◌, ◌-◌, ◌^◌, ◌<◌, ◌≤◌, ◌||◌, Bool, true, false, not, if◌then◌else◌, List, [], ◌∷◌, ◌++◌, length, map, reverse, zero, suc, IsTrue, slice_index_or, slice_get, Some, ◌⊎◌}
use Rattle.std.specs.List.{All, Contains, filter}
use Rattle.rsfq_ids.specs.Formula.{Clause, opposite}
use Rattle.proof_arena.specs.Step.{is_among, makes_false, reading, ends_in_conflict}
use Rattle.proof_arena.specs.Table.{falses_of}
use Rattle.proof_arena.specs.declared.hint.HintReading.{HintReading}
use Rattle.proof_arena.specs.declared.hint.HintReading.TheVariants.{Conflict, Passed, Unit as UnitLit, NotUnit}
use Rattle.cube_proof.specs.declared.search.Search.{Search}
use Rattle.cube_proof.specs.declared.search.Reason.{Reason}

-- Which literals are false, those of them whose clauses were not looked at yet, and the clauses by which literals became false.
pub record Point : Type 0 where
  pub falses : ℕ → Bool
  pub stack : List ℕ
  pub reasons : List Reason

abbrev pub point_of : Search → Point
point_of search = record { falses = falses_of search.marks; stack = search.stack.items; reasons = search.reasons.items }

-- what the reading of a clause changes, and whether it is a conflict
abbrev pub IsVisit : HintReading → ℕ → Point → Bool → Point → Type 0
IsVisit Conflict id before conflict after = (conflict ≡ true) × (after ≡ record before { reasons = after.reasons })
IsVisit Passed id before conflict after = (conflict ≡ false) × (after ≡ before)
IsVisit (UnitLit lit) id before conflict after =
    (conflict ≡ false) × (after ≡ record { falses = makes_false before.falses (opposite lit); stack = before.stack ++ opposite lit ∷ []; reasons = before.reasons ++ record { clause = id; lit = opposite lit } ∷ [] })
IsVisit NotUnit id before conflict after = (conflict ≡ false) × (after ≡ before)

-- a literal counts for its clauses until it is false and they were looked at
abbrev pub waits : (ℕ → Bool) → List ℕ → ℕ → Bool
waits falses stack lit = not (falses lit) || is_among stack lit

-- how many literals pass a test
abbrev pub count_of : (ℕ → Bool) → Clause → ℕ
count_of test clause = length (filter test clause)

-- The number kept for a clause is at most that of its literals that count. They are two, or one of its literals is true.
pub record IsWatched (falses : ℕ → Bool) (stack : List ℕ) (clause : Clause) (left : ℕ) : Type 0 where
  pub bound : left ≤ count_of (waits falses stack) clause
  pub settled : (reading falses clause ≡ Passed) ⊎ (2 ≤ count_of (waits falses stack) clause)

-- where these literals are false, a clause has one open literal, and a reason makes its opposite false
pub record IsReason (clauses : List Clause) (falses : ℕ → Bool) (reason : Reason) : Type 0 where
  pub said : Clause
  pub there : slice_get clauses reason.clause ≡ Some said
  pub literal : ℕ
  pub unit : reading falses said ≡ UnitLit literal
  pub made : reason.lit ≡ opposite literal

-- reasons lead, one by one, from some false literals to others
abbrev pub IsTrace : List Clause → (ℕ → Bool) → List Reason → (ℕ → Bool) → Type 0
IsTrace clauses before [] after = after ≡ before
IsTrace clauses before (reason ∷ reasons) after = IsReason clauses before reason × IsTrace clauses (makes_false before reason.lit) reasons after

-- the clause of some hint has the literal
abbrev pub IsAsked : List Clause → List ℕ → ℕ → Type 0
IsAsked clauses hints lit = (hint : ℕ) × Contains hints hint × (is_among (slice_index_or clauses hint []) lit ≡ true)

-- a hint's clause has a literal whose opposite a later one has, unless it is the last
abbrev pub IsNeeded : List Clause → ℕ → List ℕ → Type 0
IsNeeded clauses hint [] = Unit {0}
IsNeeded clauses hint (next ∷ later) = (lit : ℕ) × (is_among (slice_index_or clauses hint []) lit ≡ true) × IsAsked clauses (next ∷ later) (opposite lit)

-- no hint is there for nothing
abbrev pub AreNeeded : List Clause → List ℕ → Type 0
AreNeeded clauses [] = Unit {0}
AreNeeded clauses (hint ∷ later) = IsNeeded clauses hint later × AreNeeded clauses later

-- the hints end in a conflict wherever those of the false literals are false that are asked for, and no others than the false ones
abbrev pub Serves : List Clause → (ℕ → Bool) → (ℕ → Bool) → List ℕ → Type 0
Serves clauses falses needed hints =
    (some : ℕ → Bool) → ((lit : ℕ) → some lit ≡ true → falses lit ≡ true) → ((lit : ℕ) → needed lit ≡ true → falses lit ≡ true → some lit ≡ true)
    → IsTrue (ends_in_conflict clauses some hints)

-- what holds on the way back from a conflict: the reasons that are left, and the hints kept so far, the last one first
pub record IsGoingBack (clauses : List Clause) (word : List ℕ) (reasons : List Reason) (needed : ℕ → Bool) (hints : List ℕ) : Type 0 where
  pub falses : ℕ → Bool
  pub traced : IsTrace clauses (is_among word) reasons falses
  pub serves : Serves clauses falses needed (reverse hints)
  pub asked : (lit : ℕ) → needed lit ≡ true → IsAsked clauses (reverse hints) lit
  pub kept : AreNeeded clauses (reverse hints)
  pub within : All (λ hint. hint < length clauses) (reverse hints)

-- what holds while a word is propagated
pub record IsUnderWay (vars : ℕ) (clauses : List Clause) (word : List ℕ) (search : Search) : Type 0 where
  pub traced : IsTrace clauses (is_among word) search.reasons.items (falses_of search.marks)
  pub begun : (lit : ℕ) → is_among word lit ≡ true → falses_of search.marks lit ≡ true
  pub apart : (lit : ℕ) → falses_of search.marks lit ≡ true → falses_of search.marks (opposite lit) ≡ false
  pub stacked : All (λ lit. lit < 2 * vars) search.stack.items
  pub table : length search.marks.table ≡ 2 * vars
  pub needed : length search.needed.table ≡ 2 * vars
  pub many : length search.left.items ≡ length clauses

-- the clause at a place is watched, with these literals still counting
abbrev pub IsWatchedAt : List Clause → List ℕ → Search → ℕ → Type 0
IsWatchedAt clauses stack search place = IsWatched (falses_of search.marks) stack (slice_index_or clauses place []) (slice_index_or search.left.items place 0)

-- each clause below a place is watched
abbrev pub AreWatched : List Clause → ℕ → List ℕ → Search → Type 0
AreWatched clauses count stack search = (place : ℕ) → place < count → IsWatchedAt clauses stack search place

-- how many of the first literals are not false
abbrev pub open_literals : (ℕ → Bool) → ℕ → ℕ
open_literals falses zero = 0
open_literals falses (suc n) = (if falses n then 0 else 1) + open_literals falses n

-- how much is left to do
abbrev pub work_of : ℕ → Search → ℕ
work_of vars search = open_literals (falses_of search.marks) (2 * vars) + length search.stack.items

-- what stays and what changes where a clause is looked at without a conflict, one of whose literals has left the stack
pub record IsLook (vars : ℕ) (clauses : List Clause) (word : List ℕ) (lit place : ℕ) (before after : Search) : Type 0 where
  pub under_way : IsUnderWay vars clauses word after
  pub watched : AreWatched clauses (length clauses) (lit ∷ after.stack.items) after
  pub here : IsWatchedAt clauses after.stack.items after place
  pub others : (other : ℕ) → other < length clauses → IsWatchedAt clauses before.stack.items before other → IsWatchedAt clauses after.stack.items after other
  pub work : work_of vars after ≤ work_of vars before

-- what stays and what changes where all clauses of a literal are looked at without a conflict
pub record IsPass (vars : ℕ) (clauses : List Clause) (word : List ℕ) (before after : Search) : Type 0 where
  pub under_way : IsUnderWay vars clauses word after
  pub watched : AreWatched clauses (length clauses) after.stack.items after
  pub work : work_of vars after ≤ work_of vars before

-- how many literals each clause has
abbrev pub sizes_of : List Clause → List ℕ
sizes_of clauses = map (λ (clause : Clause). length clause) clauses

-- nothing is looked at yet
pub record IsBegun (vars : ℕ) (clauses : List Clause) (word : List ℕ) (search : Search) : Type 0 where
  pub under_way : IsUnderWay vars clauses word search
  pub falses : falses_of search.marks ≡ is_among word
  pub stack : search.stack.items ≡ word
  pub left : search.left.items ≡ sizes_of clauses

-- both tables have room for a formula of so many variables
pub record HasTables (vars : ℕ) (search : Search) : Type 0 where
  pub marks : length search.marks.table ≡ 2 * vars
  pub needed : length search.needed.table ≡ 2 * vars

-- hints that end in a conflict, each of them needed
pub record AreHints (clauses : List Clause) (word hints : List ℕ) : Type 0 where
  pub ends : IsTrue (ends_in_conflict clauses (is_among word) hints)
  pub kept : AreNeeded clauses hints
  pub within : All (λ hint. hint < length clauses) hints

-- the hints end in a conflict
pub record IsRefuted (vars : ℕ) (clauses : List Clause) (word : List ℕ) (search : Search) : Type 0 where
  pub hints : AreHints clauses word search.hints.items
  pub tables : HasTables vars search

-- Nothing more follows: the word's literals are false, no literal is false together with its opposite, and no clause is false or unit.
pub record IsClosed (clauses : List Clause) (word : List ℕ) (falses : ℕ → Bool) : Type 0 where
  pub begun : (lit : ℕ) → is_among word lit ≡ true → falses lit ≡ true
  pub apart : (lit : ℕ) → falses lit ≡ true → falses (opposite lit) ≡ false
  pub over : (clause : Clause) (place : ℕ) → place < length clauses → slice_index_or clauses place [] ≡ clause
      → (reading falses clause ≡ Passed) ⊎ (reading falses clause ≡ NotUnit)
