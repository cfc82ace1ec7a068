-- One step of a search, by what is known of the node that an edge leads to.
use Rattle.std.proofs.Common.{◌≡◌, ◌∙◌, ◌<◌, ◌≤◌, ◌-◌, ◌↔◌, inl, inr, ℕ, Bool, List, [], ◌∷◌, ◌++◌, Some, length, refl, sym, subst, ap, arith, get_or, set}
use Rattle.std.specs.Prelude.{slice_get}
use Rattle.std.specs.List.{Contains}
use Rattle.std.proofs.Math.ListN.{get_or-append}
use Rattle.std.proofs.lemmas.Bool.{cases_eq, cases_lt}
use Rattle.std.proofs.lemmas.Grind.{get_or-set_at}
use Rattle.std.proofs.lemmas.List.Elements.{Contains-append_left}
use Rattle.graph_rings.specs.declared.search.Mark.{Mark}
use Rattle.graph_rings.specs.declared.search.Mark.TheVariants as mark
use Rattle.graph_rings.specs.Graph.{edges_of, HasEdge, Leads, Reaches}
use Rattle.graph_rings.specs.Search.{mark_of, HasNoBase, IsLooked, Rises, IsSearch}
use Rattle.graph_rings.proofs.Lists.{at_in}
use Rattle.graph_rings.proofs.Entering.{entered}
use Rattle.graph_rings.proofs.Looking.{looked_one, joined}
use Rattle.graph_rings.proofs.Tops.{top_in, top_of}
use Rattle.graph_rings.proofs.Walks.{edge_leads, leads_on, reaches_edge}

module _ (g : List (List ℕ)) (start : ℕ) (left : List ℕ) (marks : List Mark) (path bases stack order : List ℕ) (s : IsSearch g start left marks path bases stack order) (w node n to : ℕ) (last : slice_get stack (length stack - 1) ≡ Some w)
    (node_is : get_or path w 0 ≡ node) (n_is : get_or left node 0 ≡ n) (some : 0 < n) (to_is : get_or (edges_of g node) (n - 1) 0 ≡ to) where
  on : Contains stack w
  on = top_in stack w last

  top : (k : ℕ) → Contains stack k → k ≤ w
  top k c = top_of stack w last s.stack_rises k c

  inside : w < length path
  inside = s.stack_in w on

  edge : HasEdge g node to
  edge = at_in (edges_of g node) (n - 1) to (let few : get_or left node 0 ≤ length (edges_of g node) = s.few node in omega (arith, few, n_is, some)) to_is

  leads_there : (k : ℕ) → k < length path → Leads g (get_or path k 0) to
  leads_there k kl = elim (cases_lt k w) [
    | inl low ↦ leads_on g (get_or path k 0) node to (subst (λ (x : ℕ). Leads g (get_or path k 0) x) node_is (s.forward k w low inside)) (edge_leads g node to edge)
    | inr high ↦ elim (cases_eq k w) [
      | inl same ↦ subst (λ (x : ℕ). Leads g x to) (sym (ap (λ (x : ℕ). get_or path x 0) same ∙ node_is)) (edge_leads g node to edge)
      | inr other ↦
          let free : HasNoBase bases w k = λ (base : ℕ) (c : Contains bases base) (lo : w < base) (hi : base ≤ k). let t : base ≤ w = top base (s.bases_in base c) in omega (arith, t, lo) in
          leads_on g (get_or path k 0) node to (subst (λ (x : ℕ). Leads g (get_or path k 0) x) node_is (s.back w k (omega (arith, high, other)) kl free)) (edge_leads g node to edge)
    ]
  ]

  -- the same facts, as `looked_one` has them
  looked : (marks' : List Mark) (path' bases' stack' : List ℕ) → IsSearch g start left marks' path' bases' stack' order → Contains stack' w → get_or path' w 0 ≡ node → IsLooked marks' bases' w to → IsSearch g start (set left node (n - 1)) marks' path' bases' stack' order
  looked marks' path' bases' stack' s' on' at k =
      let here : get_or left (get_or path' w 0) 0 ≡ n = ap (λ (x : ℕ). get_or left x 0) at ∙ n_is in
      let target : get_or (edges_of g (get_or path' w 0)) (get_or left (get_or path' w 0) 0 - 1) 0 ≡ to =
      ap (λ (x : ℕ). get_or (edges_of g (get_or path' w 0)) (x - 1) 0) here ∙ (ap (λ (x : ℕ). get_or (edges_of g x) (n - 1) 0) at ∙ to_is) in
      let after : IsSearch g start (set left (get_or path' w 0) (get_or left (get_or path' w 0) 0 - 1)) marks' path' bases' stack' order =
      looked_one g start left marks' path' bases' stack' order s' w on' (omega (arith, here, some)) (subst (λ (x : ℕ). IsLooked marks' bases' w x) (sym target) k) in
      subst (λ (x : ℕ). IsSearch g start (set left x (n - 1)) marks' path' bases' stack' order) at (subst (λ (x : ℕ). IsSearch g start (set left (get_or path' w 0) (x - 1)) marks' path' bases' stack' order) here after)

  pub stepped_done : (f : Bool) → mark_of marks to ≡ mark.Done f → IsSearch g start (set left node (n - 1)) marks path bases stack order
  stepped_done f e = looked marks path bases stack s on node_is (inl (f, e))

  pub stepped_back : (met : ℕ) → mark_of marks to ≡ mark.OnPath met → (fewer : List ℕ) → Rises fewer → ((base : ℕ) → Contains fewer base ↔ (Contains bases base × (base ≤ met))) → IsSearch g start (set left node (n - 1)) marks path fewer stack order
  stepped_back met e fewer rise kept =
      let at = s.path_of to met e in
      looked marks path fewer stack
      (joined g start left marks path bases stack order s w met on top at.0 (subst (λ (x : ℕ). HasEdge g x (get_or path met 0)) (sym node_is) (subst (λ (x : ℕ). HasEdge g node x) (sym at.1) edge)) fewer rise kept)
      on node_is (inr (met, e, λ base c lo hi. let t : base ≤ met = ((kept base).0 c).1 in omega (arith, t, lo)))

  pub stepped_on : to < length marks → mark_of marks to ≡ mark.Unseen → IsSearch g start (set left node (n - 1)) (set marks to (mark.OnPath (length path))) (path ++ to ∷ []) (bases ++ length path ∷ []) (stack ++ length path ∷ []) order
  stepped_on below e =
      looked (set marks to (mark.OnPath (length path))) (path ++ to ∷ []) (bases ++ length path ∷ []) (stack ++ length path ∷ [])
      (entered g start left marks path bases stack order s to below e leads_there (inr (reaches_edge g start node to (subst (λ (x : ℕ). Reaches g start x) node_is (s.path_reached w inside)) edge)))
      (Contains-append_left stack (length path ∷ []) w on)
      (get_or-append path (to ∷ []) 0 w inside ∙ node_is)
      (inr (length path, get_or-set_at marks to to (mark.OnPath (length path)) mark.Unseen refl below, λ base c lo hi. let i : w < length path = inside in omega (arith, lo, hi, i)))
