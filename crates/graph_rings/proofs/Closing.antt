-- A group none of whose nodes has edges left is closed.
use Rattle.std.proofs.Common.{◌≡◌, ◌∙◌, ◌<◌, ◌≤◌, ◌+◌, ◌-◌, ◌⊎◌, inl, inr, ℕ, Bool, true, false, List, [], ◌∷◌, ◌++◌, length, take, drop, refl, sym, subst, ap, arith, get_or, length-append, length-drop}
use Rattle.std.specs.List.{Contains}
use Rattle.std.proofs.Math.ListN.{get_or-append}
use Rattle.std.proofs.Math.Seq.{take-length, get_or-append_right}
use Rattle.std.proofs.lemmas.Bool.{cases_eq, cases_lt}
use Rattle.std.proofs.lemmas.List.{get_or-take, get_or-drop, length-take-le, take-append-le}
use Rattle.std.proofs.lemmas.List.Elements.{Contains-get_or, Contains-append_left, Contains-append_right, Contains-append_cases, Contains-push, Contains-push_cases}
use Rattle.graph_rings.specs.declared.search.Mark.{Mark}
use Rattle.graph_rings.specs.declared.search.Mark.TheVariants as mark
use Rattle.graph_rings.specs.Graph.{edges_of, HasEdge, Leads, Reaches}
use Rattle.graph_rings.specs.Search.{mark_of, HasNoBase, IsLooked, Rises, IsSearch}
use Rattle.graph_rings.proofs.Lists.{in_at, at_in, rises_popped, below_last, to_last}
use Rattle.graph_rings.proofs.Entering.{on_unseen, done_unseen, on_done, on_place}
use Rattle.graph_rings.proofs.Looking.{one_place}
use Rattle.graph_rings.proofs.Walks.{edge_leads, leads_on, leads_first, reaches_stays}

done_same : (a b : Bool) → mark.Done a ≡ mark.Done b → a ≡ b
done_same a b e = cc

-- What closing a group takes: it begins at the last base, its first node is the last of the stack, and the marks of its nodes are set.
pub record Closes (g : List (List ℕ)) (left : List ℕ) (marks : List Mark) (path bases stack : List ℕ) (w : ℕ) (f : Bool) (settled : List Mark) (fewer rest : List ℕ) : Type 0 where
  pub base : bases ≡ fewer ++ w ∷ []
  pub last : stack ≡ rest ++ w ∷ []
  pub spent : get_or left (get_or path w 0) 0 ≡ 0
  pub settled_len : length settled ≡ length marks
  pub within : (k : ℕ) → w ≤ k → k < length path → mark_of settled (get_or path k 0) ≡ mark.Done f
  pub without : (n : ℕ) → ((k : ℕ) → w ≤ k → k < length path → get_or path k 0 ≡ n → ⊥) → mark_of settled n ≡ mark_of marks n
  pub yes : f ≡ true → (w + 1 < length path) ⊎ HasEdge g (get_or path w 0) (get_or path w 0)
  pub no : f ≡ false → (length path ≤ w + 1) × (HasEdge g (get_or path w 0) (get_or path w 0) → ⊥)

-- a member of the rest of the path, by its place on the path
in_rest : (path : List ℕ) (w x : ℕ) → w ≤ length path → Contains (drop w path) x → (k : ℕ) × (w ≤ k) × (k < length path) × (get_or path k 0 ≡ x)
in_rest path w x wl c =
    let place = in_at (drop w path) x c in
    let near : place.0 < length (drop w path) = place.1 in
    (w + place.0, omega arith, omega (arith, near, length-drop w path), sym (get_or-drop w path place.0 0) ∙ place.2)

rest_in : (path : List ℕ) (w k x : ℕ) → w ≤ k → k < length path → get_or path k 0 ≡ x → Contains (drop w path) x
rest_in path w k x wk kl e =
    let sum : w + (k - w) ≡ k = omega arith in
    at_in (drop w path) (k - w) x (omega (arith, length-drop w path)) (get_or-drop w path (k - w) 0 ∙ (ap (λ (n : ℕ). get_or path n 0) sum ∙ e))

module _ (g : List (List ℕ)) (start : ℕ) (left : List ℕ) (marks : List Mark) (path bases stack order : List ℕ) (s : IsSearch g start left marks path bases stack order) (w : ℕ) (f : Bool) (settled : List Mark) (fewer rest : List ℕ) (h : Closes g left marks path bases stack w f settled fewer rest) where
  has_base : Contains bases w
  has_base = subst (λ (l : List ℕ). Contains l w) (sym h.base) (Contains-push fewer w)

  inside : w < length path
  inside = s.stack_in w (s.bases_in w has_base)

  top : (k : ℕ) → Contains stack k → k ≤ w
  top k c = to_last rest w (subst Rises h.last s.stack_rises) k (subst (λ (l : List ℕ). Contains l k) h.last c)

  base_below : (b : ℕ) → Contains fewer b → b < w
  base_below b c = below_last fewer w (subst Rises h.base s.bases_rise) b c

  base_up : (b : ℕ) → Contains fewer b → Contains bases b
  base_up b c = subst (λ (l : List ℕ). Contains l b) (sym h.base) (Contains-append_left fewer (w ∷ []) b c)

  base_down : (b : ℕ) → Contains bases b → Contains fewer b ⊎ (w ≡ b)
  base_down b c = Contains-push_cases fewer w b (subst (λ (l : List ℕ). Contains l b) h.base c)

  stack_up : (b : ℕ) → Contains rest b → Contains stack b
  stack_up b c = subst (λ (l : List ℕ). Contains l b) (sym h.last) (Contains-append_left rest (w ∷ []) b c)

  stack_down : (b : ℕ) → Contains stack b → Contains rest b ⊎ (w ≡ b)
  stack_down b c = Contains-push_cases rest w b (subst (λ (l : List ℕ). Contains l b) h.last c)

  none_left : (k : ℕ) → w ≤ k → k < length path → get_or left (get_or path k 0) 0 ≡ 0
  none_left k wk kl = elim (cases_eq k w) [
    | inl same ↦ subst (λ (x : ℕ). get_or left (get_or path x 0) 0 ≡ 0) (sym same) h.spent
    | inr other ↦ elim (s.spent k kl) [ inl c ↦ absurd (other (let t : k ≤ w = top k c in omega (arith, t, wk))) | inr z ↦ z ]
  ]

  -- the edges of a group lead to closed groups or to the group
  edges : (k to : ℕ) → w ≤ k → k < length path → HasEdge g (get_or path k 0) to → Contains order to ⊎ ((p : ℕ) × (w ≤ p) × (p < length path) × (get_or path p 0 ≡ to))
  edges k to wk kl e =
      let at = in_at (edges_of g (get_or path k 0)) to e in
      elim (s.looked k at.0 kl at.1 (let z : get_or left (get_or path k 0) 0 ≡ 0 = none_left k wk kl in omega (arith, z))) [
        | inl d ↦ inl (s.done_in to d.0 (ap (mark_of marks) (sym at.2) ∙ d.1))
        | inr p ↦
            let on = s.path_of to p.0 (ap (mark_of marks) (sym at.2) ∙ p.1) in
            elim (cases_lt p.0 w) [
              | inl low ↦ absurd (p.2 w has_base low wk)
              | inr high ↦ inr (p.0, high, on.0, on.1)
            ]
      ]

  of_order : (n : ℕ) → Contains order n → mark_of settled n ≡ mark_of marks n
  of_order n c = h.without n (λ k wk kl e. on_done k (s.in_done n c).0 (sym (s.on_path k kl) ∙ (ap (mark_of marks) e ∙ (s.in_done n c).1)))

  of_path : (k : ℕ) → k < w → mark_of settled (get_or path k 0) ≡ mark.OnPath k
  of_path k kw = h.without (get_or path k 0) (λ q wq ql e. let same : q ≡ k = one_place g start left marks path bases stack order s q k ql (let i : w < length path = inside in omega (arith, i, kw)) e in omega (arith, same, wq, kw)) ∙ s.on_path k (let i : w < length path = inside in omega (arith, i, kw))

  group_or : (n : ℕ) → ((k : ℕ) × (w ≤ k) × (k < length path) × (get_or path k 0 ≡ n)) ⊎ (mark_of settled n ≡ mark_of marks n)
  group_or n = go (mark_of marks n) refl where
    go : (m : Mark) → mark_of marks n ≡ m → ((k : ℕ) × (w ≤ k) × (k < length path) × (get_or path k 0 ≡ n)) ⊎ (mark_of settled n ≡ mark_of marks n)
    go mark.Unseen e = inr (h.without n (λ k wk kl q. on_unseen k (sym (s.on_path k kl) ∙ (ap (mark_of marks) q ∙ e))))
    go (mark.Done d) e = inr (h.without n (λ k wk kl q. on_done k d (sym (s.on_path k kl) ∙ (ap (mark_of marks) q ∙ e))))
    go (mark.OnPath p) e =
        let on = s.path_of n p e in
        elim (cases_lt p w) [
          | inl low ↦ inr (h.without n (λ k wk kl q. let same : k ≡ p = on_place k p (sym (s.on_path k kl) ∙ (ap (mark_of marks) q ∙ e)) in omega (arith, same, wk, low)))
          | inr high ↦ inl (p, high, on.0, on.1)
        ]

  -- the first node of the group and another lead to each other
  both : (k : ℕ) → w < k → k < length path → Leads g (get_or path k 0) (get_or path k 0)
  both k wk kl =
      let free : HasNoBase bases w k = λ (base : ℕ) (c : Contains bases base) (lo : w < base) (hi : base ≤ k). let t : base ≤ w = top base (s.bases_in base c) in omega (arith, t, lo) in
      leads_on g (get_or path k 0) (get_or path w 0) (get_or path k 0) (s.back w k wk kl free) (s.forward w k wk kl)

  first_both : w + 1 < length path → Leads g (get_or path w 0) (get_or path w 0)
  first_both two =
      let free : HasNoBase bases w (w + 1) = λ (base : ℕ) (c : Contains bases base) (lo : w < base) (hi : base ≤ w + 1). let t : base ≤ w = top base (s.bases_in base c) in omega (arith, t, lo) in
      leads_on g (get_or path w 0) (get_or path (w + 1) 0) (get_or path w 0) (s.forward w (w + 1) (omega arith) two) (s.back w (w + 1) (omega arith) two free)

  rings : (k : ℕ) → w ≤ k → k < length path → f ≡ true → Leads g (get_or path k 0) (get_or path k 0)
  rings k wk kl true_is = elim (cases_lt w k) [
    | inl above ↦ both k above kl
    | inr same ↦
        let is : k ≡ w = omega (arith, same, wk) in
        subst (λ (x : ℕ). Leads g (get_or path x 0) (get_or path x 0)) (sym is) (elim (h.yes true_is) [ inl two ↦ first_both two | inr self ↦ edge_leads g (get_or path w 0) (get_or path w 0) self ])
  ]

  -- where the group has one node that is on no ring, its edges lead to closed groups
  outward : (k to : ℕ) → w ≤ k → k < length path → f ≡ false → HasEdge g (get_or path k 0) to → Contains order to
  outward k to wk kl false_is e = elim (edges k to wk kl e) [
    | inl c ↦ c
    | inr p ↦
        let one : length path ≤ w + 1 = (h.no false_is).0 in
        let is : k ≡ w = omega (arith, one, wk, kl) in
        let at : p.0 ≡ w = let low : w ≤ p.0 = p.1 in let high : p.0 < length path = p.2 in omega (arith, one, low, high) in
        let self : to ≡ get_or path w 0 = sym p.3 ∙ ap (λ (x : ℕ). get_or path x 0) at in
        absurd ((h.no false_is).1 (subst (λ (x : ℕ). HasEdge g (get_or path w 0) x) self (subst (λ (x : ℕ). HasEdge g (get_or path x 0) to) is e)))
  ]

  no_rings : (k : ℕ) → w ≤ k → k < length path → f ≡ false → Leads g (get_or path k 0) (get_or path k 0) → ⊥
  no_rings k wk kl false_is lead =
      let first = leads_first g (get_or path k 0) (get_or path k 0) lead in
      let there : Contains order first.0 = outward k first.0 wk kl false_is first.1 in
      let back : Contains order (get_or path k 0) = reaches_stays g (λ n. Contains order n) s.closed first.0 (get_or path k 0) there first.2 in
      let d = s.in_done (get_or path k 0) back in
      on_done k d.0 (sym (s.on_path k kl) ∙ d.1)

  -- a place of the new order: an old one, or one of the group
  at_order : (k : ℕ) → k < length (order ++ drop w path) → ((k < length order) × (get_or (order ++ drop w path) k 0 ≡ get_or order k 0)) ⊎ ((q : ℕ) × (w ≤ q) × (q < length path) × (k + w ≡ length order + q) × (get_or (order ++ drop w path) k 0 ≡ get_or path q 0))
  at_order k kl = elim (cases_lt k (length order)) [
    | inl low ↦ inl (low, get_or-append order (drop w path) 0 k low)
    | inr high ↦
        let size : length (order ++ drop w path) ≡ length order + length (drop w path) = length-append order (drop w path) in
        let cut : length (drop w path) ≡ length path - w = length-drop w path in
        inr (w + (k - length order), omega arith, omega (arith, kl, size, cut, high), omega (arith, high), get_or-append_right order (drop w path) k 0 high ∙ get_or-drop w path (k - length order) 0)
  ]

  take_old : (k : ℕ) → k ≤ length order → take k (order ++ drop w path) ≡ take k order
  take_old k low = take-append-le k order (drop w path) low

  short : length (take w path) ≡ w
  short = length-take-le w path (let i : w < length path = inside in omega (arith, i))

  kept_at : (k : ℕ) → k < length (take w path) → (k < w) × (get_or (take w path) k 0 ≡ get_or path k 0)
  kept_at k kl = let low : k < w = omega (arith, kl, short) in (low, get_or-take w path k 0 low)

  pub group_closed : IsSearch g start left settled (take w path) fewer rest (order ++ drop w path)
  group_closed = record {
    left_len = s.left_len;
    marks_len = h.settled_len ∙ s.marks_len;
    few = s.few;
    fresh = λ n e. elim (group_or n) [
      | inl k ↦ absurd (done_unseen f (sym (h.within k.0 k.1 k.2) ∙ (ap (mark_of settled) k.3 ∙ e)))
      | inr same ↦ s.fresh n (sym same ∙ e)
    ];
    on_path = λ k kl. let at = kept_at k kl in subst (λ (x : ℕ). mark_of settled x ≡ mark.OnPath k) (sym at.1) (of_path k at.0);
    path_of = λ n p e. elim (group_or n) [
      | inl k ↦ absurd (on_done p f (sym e ∙ (ap (mark_of settled) (sym k.3) ∙ h.within k.0 k.1 k.2)))
      | inr same ↦
          let on = s.path_of n p (sym same ∙ e) in
          elim (cases_lt p w) [
            | inl low ↦ (omega (arith, short, low), get_or-take w path p 0 low ∙ on.1)
            | inr high ↦ absurd (on_done p f (sym e ∙ (ap (mark_of settled) (sym on.1) ∙ h.within p high on.0)))
          ]
    ];
    done_in = λ n b e. elim (group_or n) [
      | inl k ↦ Contains-append_right order (drop w path) n (rest_in path w k.0 n k.1 k.2 k.3)
      | inr same ↦ Contains-append_left order (drop w path) n (s.done_in n b (sym same ∙ e))
    ];
    in_done = λ n c. elim (Contains-append_cases order (drop w path) n c) [
      | inl old ↦ let d = s.in_done n old in (d.0, of_order n old ∙ d.1)
      | inr new ↦ let k = in_rest path w n (let i : w < length path = inside in omega (arith, i)) new in (f, ap (mark_of settled) (sym k.3) ∙ h.within k.0 k.1 k.2)
    ];
    forward = λ i k l kl.
        let at = kept_at k kl in
        let low : i < length (take w path) = omega (arith, l, kl) in
        let first = kept_at i low in
        let far : k < length path = let i : w < length path = inside in let kw : k < w = at.0 in omega (arith, i, kw) in
        subst (λ (x : ℕ). Leads g x (get_or (take w path) k 0)) (sym first.1) (subst (λ (y : ℕ). Leads g (get_or path i 0) y) (sym at.1) (s.forward i k l far));
    back = λ i k l kl free.
        let at = kept_at k kl in
        let low : i < length (take w path) = omega (arith, l, kl) in
        let first = kept_at i low in
        let kw : k < w = at.0 in
        let far : k < length path = let i : w < length path = inside in omega (arith, i, kw) in
        let none : HasNoBase bases i k = λ (base : ℕ) (c : Contains bases base) (lo : i < base) (hi : base ≤ k). elim (base_down base c) [ inl old ↦ free base old lo hi | inr same ↦ omega (arith, same, hi, kw) ] in
        subst (λ (x : ℕ). Leads g (get_or (take w path) k 0) x) (sym first.1) (subst (λ (y : ℕ). Leads g y (get_or path i 0)) (sym at.1) (s.back i k l far none));
    stack_in = λ k c. let low : k < w = below_last rest w (subst Rises h.last s.stack_rises) k c in omega (arith, low, short);
    stack_rises = rises_popped rest w (subst Rises h.last s.stack_rises);
    bases_rise = rises_popped fewer w (subst Rises h.base s.bases_rise);
    bases_in = λ b c. elim (stack_down b (s.bases_in b (base_up b c))) [
      | inl kept ↦ kept
      | inr same ↦ absurd (let low : b < w = base_below b c in omega (arith, low, same))
    ];
    based = λ some. elim (base_down 0 (s.based (let i : w < length path = inside in omega (arith, i)))) [
      | inl kept ↦ kept
      | inr same ↦ absurd (omega (arith, same, short, some))
    ];
    spent = λ k kl.
        let at = kept_at k kl in
        let kw : k < w = at.0 in
        let far : k < length path = let i : w < length path = inside in omega (arith, i, kw) in
        elim (s.spent k far) [
          | inl c ↦ elim (stack_down k c) [ inl kept ↦ inl kept | inr same ↦ absurd (omega (arith, same, kw)) ]
          | inr z ↦ inr (subst (λ (x : ℕ). get_or left x 0 ≡ 0) (sym at.1) z)
        ];
    looked = λ k edge kl el le.
        let at = kept_at k kl in
        let kw : k < w = at.0 in
        let far : k < length path = let i : w < length path = inside in omega (arith, i, kw) in
        subst (λ (x : ℕ). edge < length (edges_of g x) → get_or left x 0 ≤ edge → IsLooked settled fewer k (get_or (edges_of g x) edge 0)) (sym at.1)
        (λ el le. elim (s.looked k edge far el le) [
          | inl d ↦ inl (d.0, of_order (get_or (edges_of g (get_or path k 0)) edge 0) (s.done_in (get_or (edges_of g (get_or path k 0)) edge 0) d.0 d.1) ∙ d.1)
          | inr p ↦
              let on = s.path_of (get_or (edges_of g (get_or path k 0)) edge 0) p.0 p.1 in
              elim (cases_lt p.0 w) [
                | inl low ↦ inr (p.0, ap (mark_of settled) (sym on.1) ∙ of_path p.0 low, λ base c lo hi. p.2 base (base_up base c) lo hi)
                | inr high ↦ inl (f, ap (mark_of settled) (sym on.1) ∙ h.within p.0 high on.0)
              ]
        ]) el le;
    closed = λ n to c e. elim (Contains-append_cases order (drop w path) n c) [
      | inl old ↦ Contains-append_left order (drop w path) to (s.closed n to old e)
      | inr new ↦
          let k = in_rest path w n (let i : w < length path = inside in omega (arith, i)) new in
          elim (edges k.0 to k.1 k.2 (subst (λ (x : ℕ). HasEdge g x to) (sym k.3) e)) [
            | inl done ↦ Contains-append_left order (drop w path) to done
            | inr p ↦ Contains-append_right order (drop w path) to (rest_in path w p.0 to p.1 p.2 p.3)
          ]
    ];
    on_ring = λ n e. elim (group_or n) [
      | inl k ↦ subst (λ (x : ℕ). Leads g x x) k.3 (rings k.0 k.1 k.2 (done_same f true (sym (h.within k.0 k.1 k.2) ∙ (ap (mark_of settled) k.3 ∙ e))))
      | inr same ↦ s.on_ring n (sym same ∙ e)
    ];
    off_ring = λ n e lead. elim (group_or n) [
      | inl k ↦ no_rings k.0 k.1 k.2 (done_same f false (sym (h.within k.0 k.1 k.2) ∙ (ap (mark_of settled) k.3 ∙ e))) (subst (λ (x : ℕ). Leads g x x) (sym k.3) lead)
      | inr same ↦ s.off_ring n (sym same ∙ e) lead
    ];
    once = λ i k l kl e. elim (at_order k kl) [
      | inl old ↦
          let near : i < length order = omega (arith, l, old.0) in
          s.once i k l old.0 (sym (get_or-append order (drop w path) 0 i near) ∙ (e ∙ old.1))
      | inr new ↦ elim (at_order i (omega (arith, l, kl))) [
        | inl first ↦
            let d = s.in_done (get_or order i 0) (Contains-get_or order i 0 first.0) in
            on_done new.0 d.0 (sym (s.on_path new.0 new.2) ∙ (ap (mark_of marks) (sym new.4 ∙ (sym e ∙ first.1)) ∙ d.1))
        | inr first ↦
            let same : first.0 ≡ new.0 = one_place g start left marks path bases stack order s first.0 new.0 first.2 new.2 (sym first.4 ∙ (e ∙ new.4)) in
            let a : i + w ≡ length order + first.0 = first.3 in
            let b : k + w ≡ length order + new.0 = new.3 in
            omega (arith, same, a, b, l)
      ]
    ];
    after = λ k to kl e edge. elim (at_order k kl) [
      | inl old ↦
          subst (λ (l : List ℕ). Contains l to) (sym (take_old k (let o : k < length order = old.0 in omega (arith, o))))
          (s.after k to old.0 (sym (of_order (get_or order k 0) (Contains-get_or order k 0 old.0)) ∙ (ap (mark_of settled) (sym old.1) ∙ e)) (subst (λ (x : ℕ). HasEdge g x to) old.1 edge))
      | inr new ↦
          let false_is : f ≡ false = done_same f false (sym (h.within new.0 new.1 new.2) ∙ (ap (mark_of settled) (sym new.4) ∙ e)) in
          let there : Contains order to = outward new.0 to new.1 new.2 false_is (subst (λ (x : ℕ). HasEdge g x to) new.4 edge) in
          let one : length path ≤ w + 1 = (h.no false_is).0 in
          let low : w ≤ new.0 = new.1 in
          let high : new.0 < length path = new.2 in
          let sum : k + w ≡ length order + new.0 = new.3 in
          let end : k ≡ length order = omega (arith, one, low, high, sum) in
          subst (λ (l : List ℕ). Contains l to) (sym (ap (λ (x : ℕ). take x (order ++ drop w path)) end ∙ (take_old (length order) (omega arith) ∙ take-length order))) there
    ];
    path_reached = λ k kl.
        let at = kept_at k kl in
        let kw : k < w = at.0 in
        subst (λ (x : ℕ). Reaches g start x) (sym at.1) (s.path_reached k (let i : w < length path = inside in omega (arith, i, kw)));
    order_reached = λ n c. elim (Contains-append_cases order (drop w path) n c) [
      | inl old ↦ s.order_reached n old
      | inr new ↦
          let k = in_rest path w n (let i : w < length path = inside in omega (arith, i)) new in
          subst (λ (x : ℕ). Reaches g start x) k.3 (s.path_reached k.0 k.2)
    ];
  }

-- the same, by the list of the nodes of the group
pub closed_by_list : (g : List (List ℕ)) (start : ℕ) (left : List ℕ) (marks : List Mark) (path bases stack order : List ℕ) → IsSearch g start left marks path bases stack order → (w : ℕ) (f : Bool) (settled : List Mark) (fewer rest group : List ℕ) → w < length path → group ≡ drop w path →
    bases ≡ fewer ++ w ∷ [] → stack ≡ rest ++ w ∷ [] → get_or left (get_or path w 0) 0 ≡ 0 → length settled ≡ length marks → ((n : ℕ) → Contains group n → mark_of settled n ≡ mark.Done f) → ((n : ℕ) → (Contains group n → ⊥) → mark_of settled n ≡ mark_of marks n) →
    (f ≡ true → (w + 1 < length path) ⊎ HasEdge g (get_or path w 0) (get_or path w 0)) → (f ≡ false → (length path ≤ w + 1) × (HasEdge g (get_or path w 0) (get_or path w 0) → ⊥)) →
    IsSearch g start left settled (take w path) fewer rest (order ++ group)
closed_by_list g start left marks path bases stack order s w f settled fewer rest group wl is base last spent len within without true_is false_is =
    let closes : Closes g left marks path bases stack w f settled fewer rest = record {
      base = base;
      last = last;
      spent = spent;
      settled_len = len;
      within = λ k wk kl. within (get_or path k 0) (subst (λ (l : List ℕ). Contains l (get_or path k 0)) (sym is) (rest_in path w k (get_or path k 0) wk kl refl));
      without = λ n none. without n (λ c. let k = in_rest path w n (omega (arith, wl)) (subst (λ (l : List ℕ). Contains l n) is c) in none k.0 k.1 k.2 k.3);
      yes = true_is;
      no = false_is;
    } in
    subst (λ (l : List ℕ). IsSearch g start left settled (take w path) fewer rest (order ++ l)) (sym is) (group_closed g start left marks path bases stack order s w f settled fewer rest closes)
