-- Marks of the nodes that edges lead to, and the nodes without a mark.
use Rattle.std.proofs.Common.{◌≡◌, ◌≢◌, ◌∙◌, ◌<◌, ◌≤◌, ◌+◌, ◌⊎◌, ◌↔◌, inl, inr, ℕ, Bool, true, false, List, [], ◌∷◌, ◌++◌, Result, Ok, Err, length, take, refl, sym, ap, subst, arith, get_or, set}
use Rattle.std.specs.Prelude.{MatchResult}
use Rattle.std.specs.List.{Contains}
use Rattle.std.proofs.Math.ListN.{get_or-eq_default}
use Rattle.std.proofs.lemmas.Bool.{cases_lt, cases_eq, cases_Bool}
use Rattle.std.proofs.lemmas.Grind.{get_or-set_at}
use Rattle.std.proofs.lemmas.List.{get_or-set_other, take_more}
use Rattle.std.proofs.lemmas.List.Elements.{Contains-append_left, Contains-push, Contains-push_cases}
use Rattle.verilog_tree.specs.Trees.{Module}
use Rattle.graph_rings.specs.Graph.{edges_of, HasEdge}
use Rattle.bind_hierarchy.specs.declared.top.TopFault.{TopFault}
use Rattle.bind_hierarchy.specs.declared.top.TopFault.TheVariants as fault
use Rattle.bind_hierarchy.specs.Graph.{IsModuleGraph}
use Rattle.bind_hierarchy.specs.Top.{IsFree, IsOnlyFree, IsFreeFault, IsRoot, IsOnlyRoot, IsRootFault}

pub set_kept : (marks : List Bool) (x node : ℕ) → x < length marks → get_or marks node false ≡ true → get_or (set marks x true) node false ≡ true
set_kept marks x node below e = elim (cases_eq node x) [
  | inl same ↦ get_or-set_at marks x node true false same below
  | inr other ↦ get_or-set_other marks x node true false other ∙ e
]

pub set_marked : (marks : List Bool) (edges : List ℕ) (i : ℕ) → i < length edges → get_or edges i 0 < length marks → ((node : ℕ) → Contains (take i edges) node → get_or marks node false ≡ true) → (node : ℕ) → Contains (take (i + 1) edges) node → get_or (set marks (get_or edges i 0) true) node false ≡ true
set_marked marks edges i l below old node c =
    elim (Contains-push_cases (take i edges) (get_or edges i 0) node (subst (λ (xs : List ℕ). Contains xs node) (take_more edges i 0 l) c)) [
      | inl before ↦ set_kept marks (get_or edges i 0) node below (old node before)
      | inr here ↦ get_or-set_at marks (get_or edges i 0) node true false (sym here) below
    ]

pub set_only : (marks first : List Bool) (edges : List ℕ) (i : ℕ) → i < length edges → ((node : ℕ) → get_or marks node false ≡ true → (get_or first node false ≡ true) ⊎ Contains (take i edges) node) →
    (node : ℕ) → get_or (set marks (get_or edges i 0) true) node false ≡ true → (get_or first node false ≡ true) ⊎ Contains (take (i + 1) edges) node
set_only marks first edges i l old node e = elim (cases_eq node (get_or edges i 0)) [
  | inl same ↦ inr (subst (λ (xs : List ℕ). Contains xs node) (sym (take_more edges i 0 l)) (subst (λ (n : ℕ). Contains (take i edges ++ get_or edges i 0 ∷ []) n) (sym same) (Contains-push (take i edges) (get_or edges i 0))))
  | inr other ↦ elim (old node (sym (get_or-set_other marks (get_or edges i 0) node true false other) ∙ e)) [
    | inl was ↦ inl was
    | inr before ↦ inr (subst (λ (xs : List ℕ). Contains xs node) (sym (take_more edges i 0 l)) (Contains-append_left (take i edges) (get_or edges i 0 ∷ []) node before))
  ]
]

pub edge_inside : (g : List (List ℕ)) (outer node : ℕ) → HasEdge g outer node → outer < length g
edge_inside g outer node edge = elim (cases_lt outer (length g)) [
  | inl l ↦ l
  | inr past ↦
      let c : Contains [] node = subst (λ (xs : List ℕ). Contains xs node) (get_or-eq_default g [] past) edge in
      let l : c.0 < length {A = ℕ} [] = c.1 in absurd (omega (arith, l))
]

-- ---- nodes without a mark

module _ (g : List (List ℕ)) (marks slice : List Bool) (same : slice ≡ marks) (len : length marks ≡ length g) (is : (node : ℕ) → (get_or marks node false ≡ true) ↔ ((outer : ℕ) × HasEdge g outer node)) where
  size : length slice ≡ length g
  size = ap (λ (l : List Bool). length l) same ∙ len

  rootless : (at : ℕ) → get_or slice at false ≡ true → IsRoot g at → ⊥
  rootless at e r = let p = (is at).0 (subst (λ (l : List Bool). get_or l at false ≡ true) same e) in r.1 p.0 p.1

  rooted : (at : ℕ) → at < length slice → get_or slice at false ≡ false → IsRoot g at
  rooted at l e = (omega (arith, l, size), λ outer edge. let no : true ≡ false = sym ((is at).1 (outer, edge)) ∙ subst (λ (m : List Bool). get_or m at false ≡ false) same e in cc)

  pub no_root : ((place : ℕ) → 0 ≤ place → place < length slice → get_or slice place false ≡ true) → (at : ℕ) → IsRoot g at → ⊥
  no_root all at r = rootless at (all at (omega arith) (let l : at < length g = r.0 in omega (arith, l, size))) r

  pub one_root : (first : ℕ) → first < length slice → get_or slice first false ≡ false → ((place : ℕ) → 0 ≤ place → place < first → get_or slice place false ≡ true) → ((place : ℕ) → first + 1 ≤ place → place < length slice → get_or slice place false ≡ true) → IsOnlyRoot g first
  one_root first l e before behind = (
    rooted first l e,
    λ other r. elim (cases_lt other first) [
      | inl low ↦ absurd (rootless other (before other (omega arith) low) r)
      | inr high ↦ elim (cases_eq other first) [
        | inl is_first ↦ is_first
        | inr apart ↦ absurd (rootless other (behind other (omega (arith, high, apart)) (let i : other < length g = r.0 in omega (arith, i, size))) r)
      ]
    ],
  )

  pub two_roots : (first second : ℕ) → first < length slice → get_or slice first false ≡ false → ((place : ℕ) → 0 ≤ place → place < first → get_or slice place false ≡ true) → first + 1 ≤ second → second < length slice → get_or slice second false ≡ false →
      ((place : ℕ) → first + 1 ≤ place → place < second → get_or slice place false ≡ true) → IsRootFault g (fault.TwoTops first second)
  two_roots first second l e before apart l2 e2 between = (
    rooted first l e,
    rooted second l2 e2,
    omega (arith, apart),
    λ other r. elim (cases_lt other second) [
      | inr high ↦ inr high
      | inl low ↦ elim (cases_lt other first) [
        | inl under ↦ absurd (rootless other (before other (omega arith) under) r)
        | inr over ↦ elim (cases_eq other first) [
          | inl is_first ↦ inl is_first
          | inr apart_too ↦ absurd (rootless other (between other (omega (arith, over, apart_too)) low) r)
        ]
      ]
    ],
  )

-- ---- modules that no module instantiates

module _ (modules : List Module) (g : List (List ℕ)) (m : IsModuleGraph modules g) where
  free_root : (at : ℕ) → IsFree modules at → IsRoot g at
  free_root at f = (let l : at < length modules = f.0 in omega (arith, l, m.nodes), λ outer edge. f.1 outer ((m.edges outer at).0 edge))

  root_free : (at : ℕ) → IsRoot g at → IsFree modules at
  root_free at r = (let l : at < length g = r.0 in omega (arith, l, m.nodes), λ outer i. r.1 outer ((m.edges outer at).1 i))

  pub tops_of : (r : Result ℕ TopFault) → MatchResult r (IsOnlyRoot g) (IsRootFault g) → MatchResult r (IsOnlyFree modules) (IsFreeFault modules)
  tops_of (Ok at) o = (root_free at o.0, λ other f. o.1 other (free_root other f))
  tops_of (Err fault.NoTop) o = λ at f. o at (free_root at f)
  tops_of (Err (fault.TwoTops first second)) o = (root_free first o.0, root_free second o.1, o.2, λ other f. o.3 other (free_root other f))
  tops_of (Err fault.Memory) o = tt
