-- The clauses that watch a literal, linked through their nodes. Each clause has two nodes: node 2i and node 2i + 1 are those of clause i.
use Rattle.std.specs.Prelude.{◌≡◌, ◌≢◌, ◌⊎◌, ℕ, ◌*◌, ◌/◌, ◌<◌, ◌≤◌, true, false, List, [], ◌∷◌, length, Option, Some, None}
use Rattle.std.specs.List.{slice_index_or}
use Rattle.rsfq_ids.specs.declared.limits.TheConstants.{FORMULA_LIMIT}
use Rattle.rsfq_ids.specs.Formula.{Clause, opposite}
use Rattle.proof_arena.specs.Step.{is_among}
use Rattle.cdcl_core.specs.declared.trail.TrueLit.{TrueLit}
use Rattle.cdcl_core.specs.declared.watches.Node.{Node}
use Rattle.cdcl_core.specs.Trail.{level_in, level_of, up_to, IsFree, IsTrail, clause_at}
use Rattle.cdcl_core.specs.Oldest.{oldest, AreOnce}
use Rattle.cdcl_core.specs.Search.{IsConflict}

abbrev pub node_at : List Node → ℕ → Node
node_at nodes n = slice_index_or nodes n (record { lit = 0; next = None })

abbrev pub head_at : List (Option ℕ) → ℕ → Option ℕ
head_at heads lit = slice_index_or heads lit None

-- the nodes of a list that begins here and watches a literal
abbrev pub IsChain : List Node → ℕ → Option ℕ → List ℕ → Type 0
IsChain nodes lit start [] = start ≡ None
IsChain nodes lit start (n ∷ rest) = (start ≡ Some n) × (((node_at nodes n).lit ≡ lit) × IsChain nodes lit (node_at nodes n).next rest)

-- a node of a clause of two or more literals
pub record IsUsed (clauses : List Clause) (used n : ℕ) : Type 0 where
  pub below : n < used
  pub long : 2 ≤ length (clause_at clauses (n / 2))

-- each node in use is in the list of its literal, or among those that were taken out
pub record IsLinked (clauses : List Clause) (used : ℕ) (heads : List (Option ℕ)) (nodes : List Node) (chains : ℕ → List ℕ) (loose : List ℕ) : Type 0 where
  pub chain : (lit : ℕ) → IsChain nodes lit (head_at heads lit) (chains lit)
  pub member : (lit n : ℕ) → is_among (chains lit) n ≡ true → IsUsed clauses used n
  pub once : (lit : ℕ) → AreOnce (chains lit)
  pub every : (n : ℕ) → IsUsed clauses used n → (is_among loose n ≡ true) ⊎ (is_among (chains (node_at nodes n).lit) n ≡ true)
  pub loose_once : AreOnce loose
  pub loose_member : (n : ℕ) → is_among loose n ≡ true → IsUsed clauses used n
  pub apart : (n lit : ℕ) → is_among loose n ≡ true → is_among (chains lit) n ≡ false

-- where a watched literal is false, as far as was looked, the other one became true no later
abbrev pub IsGuarded : List TrueLit → List TrueLit → ℕ → ℕ → Type 0
IsGuarded trail looked lit other = (k : ℕ) → level_in looked (opposite lit) ≡ Some k → (j : ℕ) × ((level_in trail other ≡ Some j) × (j ≤ k))

abbrev pub IsGuardedNode : List TrueLit → List TrueLit → List Node → ℕ → Type 0
IsGuardedNode trail looked nodes n = IsGuarded trail looked (node_at nodes n).lit (node_at nodes (opposite n)).lit

-- each clause of two or more literals watches two of its literals
pub record AreWatches (clauses : List Clause) (used : ℕ) (nodes : List Node) : Type 0 where
  pub has : (n : ℕ) → IsUsed clauses used n → is_among (clause_at clauses (n / 2)) (node_at nodes n).lit ≡ true
  pub differ : (n : ℕ) → IsUsed clauses used n → (node_at nodes n).lit ≢ (node_at nodes (opposite n)).lit

abbrev pub AreGuarded : List Clause → ℕ → List TrueLit → List TrueLit → List Node → List ℕ → Type 0
AreGuarded clauses used trail looked nodes loose = (n : ℕ) → IsUsed clauses used n → is_among loose n ≡ false → IsGuardedNode trail looked nodes n

-- a clause of at most one literal: it has one, which is true since the beginning
abbrev pub IsShort : List TrueLit → Clause → Type 0
IsShort trail clause = (lit : ℕ) × ((clause ≡ lit ∷ []) × (level_in trail lit ≡ Some 0))

-- what holds of lists and watches
pub record IsWatched (clauses : List Clause) (trail looked : List TrueLit) (heads : List (Option ℕ)) (nodes : List Node) (chains : ℕ → List ℕ) (loose : List ℕ) : Type 0 where
  pub linked : IsLinked clauses (2 * length clauses) heads nodes chains loose
  pub watches : AreWatches clauses (2 * length clauses) nodes
  pub guarded : AreGuarded clauses (2 * length clauses) trail looked nodes loose

-- what a core keeps
pub record IsCore (vars : ℕ) (clauses : List Clause) (given : ℕ) (trail : List TrueLit) (done fresh : ℕ) (heads : List (Option ℕ)) (nodes : List Node) : Type 0 where
  pub few : vars ≤ FORMULA_LIMIT
  pub trail_is : IsTrail vars clauses trail
  pub given_in : given ≤ length clauses
  pub fresh_in : fresh ≤ given
  pub done_in : done ≤ length trail
  pub behind : (k : ℕ) → k < level_of trail → length (up_to k trail) ≤ done
  pub heads_len : length heads ≡ 2 * vars
  pub nodes_len : 2 * length clauses ≤ length nodes
  pub over : (n : ℕ) → n < length nodes → 0 < vars → (node_at nodes n).lit < 2 * vars
  pub shorts : (id : ℕ) → id < length clauses → (id < fresh) ⊎ (given ≤ id) → length (clause_at clauses id) < 2 → IsShort trail (clause_at clauses id)
  pub watched : (chains : ℕ → List ℕ) × IsWatched clauses trail (oldest done trail) heads nodes chains []

-- what holds while the nodes of a literal that became false are looked at: those from the cursor on are not yet
pub record IsVisit (vars : ℕ) (clauses : List Clause) (trail older : List TrueLit) (entry : TrueLit) (heads : List (Option ℕ)) (nodes : List Node) (gone : ℕ) (cursor : Option ℕ) (left : ℕ) (found : Option ℕ) (chains : ℕ → List ℕ) (loose : List ℕ) : Type 0 where
  pub trail_is : IsTrail vars clauses trail
  pub heads_len : length heads ≡ 2 * vars
  pub nodes_len : 2 * length clauses ≤ length nodes
  pub over : (n : ℕ) → n < length nodes → 0 < vars → (node_at nodes n).lit < 2 * vars
  pub turned : entry.lit ≡ opposite gone
  pub open_level : entry.level ≡ level_of trail
  pub part : (lit k : ℕ) → level_in (entry ∷ older) lit ≡ Some k → level_in trail lit ≡ Some k
  pub not_before : IsFree older entry.lit
  pub row : IsChain nodes gone cursor loose
  pub few : length loose ≤ left
  pub watched : IsWatched clauses trail older heads nodes chains loose
  pub ahead : found ≡ None → AreGuarded clauses (2 * length clauses) trail (entry ∷ older) nodes loose
  pub conflict : (id : ℕ) → found ≡ Some id → IsConflict clauses trail id

abbrev pub Visits : ℕ → List Clause → List TrueLit → List TrueLit → TrueLit → List (Option ℕ) → List Node → ℕ → Option ℕ → ℕ → Option ℕ → Type 0
Visits vars clauses trail older entry heads nodes gone cursor left found =
    (chains : ℕ → List ℕ) × ((loose : List ℕ) × IsVisit vars clauses trail older entry heads nodes gone cursor left found chains loose)

-- a node that may be looked at
abbrev pub CanVisit : ℕ → List Clause → List TrueLit → List (Option ℕ) → List Node → ℕ → ℕ → Option ℕ → Type 0
CanVisit vars clauses trail heads nodes gone n was = (older : List TrueLit) × ((entry : TrueLit) × ((left : ℕ) × Visits vars clauses trail older entry heads nodes gone (Some n) left was))

-- a literal was true, or it had no value and a clause made it true
abbrev pub IsMadeTrue : List TrueLit → List TrueLit → ℕ → ℕ → Type 0
IsMadeTrue old new lit id =
    (((k : ℕ) × (level_in old lit ≡ Some k)) × (new ≡ old)) ⊎ (IsFree old lit × (new ≡ record { lit = lit; level = level_of old; reason = Some id } ∷ old))

-- the clauses below a number are in the lists, each by two of its literals
abbrev pub IsWired : List Clause → ℕ → List (Option ℕ) → List Node → Type 0
IsWired clauses count heads nodes = (chains : ℕ → List ℕ) × (IsLinked clauses (2 * count) heads nodes chains [] × AreWatches clauses (2 * count) nodes)
