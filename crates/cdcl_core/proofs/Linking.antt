-- A clause is put into the lists of two of its literals.
use Rattle.std.proofs.Common.{◌≡◌, ◌∙◌, ◌<◌, ◌≤◌, ◌+◌, ◌*◌, ◌/◌, ◌%◌, ◌⊎◌, inl, inr, zero, suc, ℕ, true, refl, sym, ap, subst, arith, List, [], ◌∷◌, length, set, replicate}
use Rattle.std.specs.Prelude.{◌≢◌, Option, Some, None}
use Rattle.std.proofs.Math.ListN.{length-set}
use Rattle.std.proofs.lemmas.Bool.{cases_lt, cases_eq, false_from_ne_true}
use Rattle.std.proofs.lemmas.List.{get_or-set_same, get_or-set_other}
use Rattle.rsfq_ids.specs.Formula.{Clause, opposite}
use Rattle.proof_arena.specs.Step.{is_among}
use Rattle.cdcl_core.specs.declared.watches.Node.{Node}
use Rattle.cdcl_core.specs.Trail.{clause_at}
use Rattle.cdcl_core.specs.Watch.{node_at, head_at, IsChain, IsUsed, IsLinked, AreWatches, IsWired}
use Rattle.cdcl_core.proofs.Opposites.{opp_lt, opp_even, opp_odd}
use Rattle.cdcl_core.proofs.Chains.{differ_bools, among_cases, has_head, has_tail, not_among, attached, with_first}

-- the nodes in use and their clauses are the same elsewhere
pub record IsSame (clauses new : List Clause) (used : ℕ) (nodes nodes_new : List Node) : Type 0 where
  pub clause : (n : ℕ) → n < used → clause_at new (n / 2) ≡ clause_at clauses (n / 2)
  pub node : (n : ℕ) → n < used → node_at nodes_new n ≡ node_at nodes n

used_there : (clauses new : List Clause) (used : ℕ) (nodes nodes_new : List Node) (n : ℕ) → IsSame clauses new used nodes nodes_new → IsUsed clauses used n → IsUsed new used n
used_there clauses new used nodes nodes_new n s u = record { below = u.below; long = subst (λ (c : Clause). 2 ≤ length c) (sym (s.clause n u.below)) u.long }

used_here : (clauses new : List Clause) (used : ℕ) (nodes nodes_new : List Node) (n : ℕ) → IsSame clauses new used nodes nodes_new → IsUsed new used n → IsUsed clauses used n
used_here clauses new used nodes nodes_new n s u = record { below = u.below; long = subst (λ (c : Clause). 2 ≤ length c) (s.clause n u.below) u.long }

chain_same : (nodes nodes_new : List Node) (lit : ℕ) (start : Option ℕ) (ns : List ℕ) → ((n : ℕ) → is_among ns n ≡ true → node_at nodes_new n ≡ node_at nodes n) → IsChain nodes lit start ns → IsChain nodes_new lit start ns
chain_same nodes nodes_new lit start [] same c = c
chain_same nodes nodes_new lit start (n ∷ ns) same c =
    let here = same n (has_head n ns) in (
      c.0,
      (
        ap (λ (x : Node). x.lit) here ∙ c.1.0,
        subst (λ (s : Option ℕ). IsChain nodes_new lit s ns) (sym (ap (λ (x : Node). x.next) here)) (chain_same nodes nodes_new lit (node_at nodes n).next ns (λ m h. same m (has_tail n m ns h)) c.1.1),
      ),
    )

pub linked_same : (clauses new : List Clause) (used : ℕ) (heads : List (Option ℕ)) (nodes nodes_new : List Node) (chains : ℕ → List ℕ) → IsSame clauses new used nodes nodes_new → IsLinked clauses used heads nodes chains [] → IsLinked new used heads nodes_new chains []
linked_same clauses new used heads nodes nodes_new chains s l = record {
  chain = λ lit. chain_same nodes nodes_new lit (head_at heads lit) (chains lit) (λ n h. s.node n (l.member lit n h).below) (l.chain lit);
  member = λ lit n h. used_there clauses new used nodes nodes_new n s (l.member lit n h);
  once = l.once;
  every = λ n u. elim (l.every n (used_here clauses new used nodes nodes_new n s u)) [
    | inl none ↦ inl none
    | inr there ↦ inr (subst (λ (x : Node). is_among (chains x.lit) n ≡ true) (sym (s.node n u.below)) there)
  ];
  loose_once = tt;
  loose_member = λ n h. absurd (differ_bools (sym h));
  apart = λ n lit h. absurd (differ_bools (sym h));
}

pub watches_same : (clauses new : List Clause) (count : ℕ) (nodes nodes_new : List Node) → IsSame clauses new (2 * count) nodes nodes_new → AreWatches clauses (2 * count) nodes → AreWatches new (2 * count) nodes_new
watches_same clauses new count nodes nodes_new s w = record {
  has = λ n u.
      let here : (node_at nodes_new n).lit ≡ (node_at nodes n).lit = ap (λ (x : Node). x.lit) (s.node n u.below) in
      let old = w.has n (used_here clauses new (2 * count) nodes nodes_new n s u) in
      subst (λ (c : Clause). is_among c (node_at nodes_new n).lit ≡ true) (sym (s.clause n u.below)) (subst (λ l. is_among (clause_at clauses (n / 2)) l ≡ true) (sym here) old);
  differ = λ n u same.
      let here : (node_at nodes_new n).lit ≡ (node_at nodes n).lit = ap (λ (x : Node). x.lit) (s.node n u.below) in
      let there : (node_at nodes_new (opposite n)).lit ≡ (node_at nodes (opposite n)).lit = ap (λ (x : Node). x.lit) (s.node (opposite n) (opp_lt n count u.below)) in
      w.differ n (used_here clauses new (2 * count) nodes nodes_new n s u) (sym here ∙ (same ∙ there));
}

pub wired_same : (clauses new : List Clause) (count : ℕ) (heads : List (Option ℕ)) (nodes nodes_new : List Node) → IsSame clauses new (2 * count) nodes nodes_new → IsWired clauses count heads nodes → IsWired new count heads nodes_new
wired_same clauses new count heads nodes nodes_new s w = (w.0, (linked_same clauses new (2 * count) heads nodes nodes_new w.0 s w.1.0, watches_same clauses new count nodes nodes_new s w.1.1))

none_at : (size lit : ℕ) → head_at (replicate size None) lit ≡ None
none_at zero lit = refl
none_at (suc size) zero = refl
none_at (suc size) (suc lit) = none_at size lit

no_head : (heads : List (Option ℕ)) (size lit : ℕ) → heads ≡ replicate size None → head_at heads lit ≡ None
no_head heads size lit e = ap (λ (hs : List (Option ℕ)). head_at hs lit) e ∙ none_at size lit

-- no clause yet
pub none_wired : (clauses : List Clause) (heads : List (Option ℕ)) (nodes : List Node) (size : ℕ) → heads ≡ replicate size None → IsWired clauses 0 heads nodes
none_wired clauses heads nodes size e = (
  λ _. [],
  (
    record {
      chain = λ lit. no_head heads size lit e;
      member = λ lit n h. absurd (differ_bools (sym h));
      once = λ lit. tt;
      every = λ n u. let l : n < 2 * 0 = u.below in absurd (omega arith);
      loose_once = tt;
      loose_member = λ n h. absurd (differ_bools (sym h));
      apart = λ n lit h. refl;
    },
    record {
      has = λ n u. let l : n < 2 * 0 = u.below in absurd (omega arith);
      differ = λ n u. let l : n < 2 * 0 = u.below in absurd (omega arith);
    },
  ),
)

-- which nodes a clause has
node_cases : (n i : ℕ) → n < 2 * (i + 1) → (n < 2 * i) ⊎ ((n ≡ 2 * i) ⊎ (n ≡ 2 * i + 1))
node_cases n i l = elim (cases_lt n (2 * i)) [
  | inl low ↦ inl low
  | inr high ↦ elim (cases_eq n (2 * i)) [ inl e ↦ inr (inl e) | inr d ↦ inr (inr (omega arith)) ]
]

-- a clause of less than two literals is in no list
pub short_wired : (clauses : List Clause) (i : ℕ) (heads : List (Option ℕ)) (nodes : List Node) → length (clause_at clauses i) < 2 → IsWired clauses i heads nodes → IsWired clauses (i + 1) heads nodes
short_wired clauses i heads nodes short w =
    let old : (n : ℕ) → IsUsed clauses (2 * (i + 1)) n → IsUsed clauses (2 * i) n = λ n u. record {
      below = elim (cases_lt n (2 * i)) [
        | inl low ↦ low
        | inr high ↦
            let b : n < 2 * (i + 1) = u.below in
            let half : n / 2 ≡ i = omega arith in
            let long : 2 ≤ length (clause_at clauses i) = subst (λ k. 2 ≤ length (clause_at clauses k)) half u.long in
            absurd (omega arith)
      ];
      long = u.long;
    } in (
      w.0,
      (
        record {
          chain = w.1.0.chain;
          member = λ lit n h. let u = w.1.0.member lit n h in record { below = let b : n < 2 * i = u.below in omega arith; long = u.long };
          once = w.1.0.once;
          every = λ n u. w.1.0.every n (old n u);
          loose_once = tt;
          loose_member = λ n h. absurd (differ_bools (sym h));
          apart = λ n lit h. absurd (differ_bools (sym h));
        },
        record {
          has = λ n u. w.1.1.has n (old n u);
          differ = λ n u. w.1.1.differ n (old n u);
        },
      ),
    )

-- its two nodes, before they are in lists
pub pair_loose : (clauses : List Clause) (i : ℕ) (heads : List (Option ℕ)) (nodes : List Node) (chains : ℕ → List ℕ) → 2 ≤ length (clause_at clauses i) → IsLinked clauses (2 * i) heads nodes chains []
    → IsLinked clauses (2 * (i + 1)) heads nodes chains ((2 * i) ∷ ((2 * i + 1) ∷ []))
pair_loose clauses i heads nodes chains long l =
    let loose = (2 * i) ∷ ((2 * i + 1) ∷ []) in
    let which : (n : ℕ) → is_among loose n ≡ true → (n ≡ 2 * i) ⊎ (n ≡ 2 * i + 1) = λ n h. elim (among_cases (2 * i) n ((2 * i + 1) ∷ []) h) [
      | inl e ↦ inl e
      | inr r ↦ elim (among_cases (2 * i + 1) n [] r) [ inl e ↦ inr e | inr none ↦ absurd (differ_bools (sym none)) ]
    ] in
    let new : (n : ℕ) → is_among loose n ≡ true → IsUsed clauses (2 * (i + 1)) n = λ n h.
    let both = which n h in
    let half : n / 2 ≡ i = elim both [ inl e ↦ omega arith | inr e ↦ omega arith ] in
    record { below = elim both [ inl e ↦ omega arith | inr e ↦ omega arith ]; long = subst (λ k. 2 ≤ length (clause_at clauses k)) (sym half) long } in
    record {
      chain = l.chain;
      member = λ lit n h. let u = l.member lit n h in record { below = let b : n < 2 * i = u.below in omega arith; long = u.long };
      once = l.once;
      every = λ n u. elim (node_cases n i u.below) [
        | inl low ↦ elim (l.every n (record { below = low; long = u.long })) [ inl none ↦ absurd (differ_bools (sym none)) | inr there ↦ inr there ]
        | inr more ↦ elim more [
          | inl e ↦ inl (subst (λ k. is_among loose k ≡ true) (sym e) (has_head (2 * i) ((2 * i + 1) ∷ [])))
          | inr e ↦ inl (subst (λ k. is_among loose k ≡ true) (sym e) (has_tail (2 * i) (2 * i + 1) ((2 * i + 1) ∷ []) (has_head (2 * i + 1) [])))
        ]
      ];
      loose_once = (not_among (2 * i + 1) (2 * i) [] (λ e. omega arith) refl, (refl, tt));
      loose_member = new;
      apart = λ n lit h. false_from_ne_true (is_among (chains lit) n) (λ there.
          let b : n < 2 * i = (l.member lit n there).below in
          elim (which n h) [ inl e ↦ omega arith | inr e ↦ omega arith ]);
    }

-- what the nodes are after both are put into lists
pub record IsPaired (nodes nodes_new : List Node) (i a b : ℕ) : Type 0 where
  pub first : (node_at nodes_new (2 * i)).lit ≡ a
  pub second : (node_at nodes_new (2 * i + 1)).lit ≡ b
  pub others : (n : ℕ) → n < 2 * i → node_at nodes_new n ≡ node_at nodes n

pub paired : (nodes : List Node) (i : ℕ) (v w : Node) → 2 * i + 2 ≤ length nodes → IsPaired nodes (set (set nodes (2 * i) v) (2 * i + 1) w) i v.lit w.lit
paired nodes i v w room =
    let size : length (set nodes (2 * i) v) ≡ length nodes = length-set nodes (2 * i) v in
    record {
      first = ap (λ (x : Node). x.lit) (get_or-set_other (set nodes (2 * i) v) (2 * i + 1) (2 * i) w _ (λ e. omega arith) ∙ get_or-set_same nodes (2 * i) v _ (omega arith));
      second = ap (λ (x : Node). x.lit) (get_or-set_same (set nodes (2 * i) v) (2 * i + 1) w _ (omega arith));
      others = λ n l. get_or-set_other (set nodes (2 * i) v) (2 * i + 1) n w _ (λ e. omega arith) ∙ get_or-set_other nodes (2 * i) n v _ (λ e. omega arith);
    }

pair_watches : (clauses : List Clause) (i a b : ℕ) (nodes nodes_new : List Node) → IsPaired nodes nodes_new i a b → is_among (clause_at clauses i) a ≡ true → is_among (clause_at clauses i) b ≡ true → a ≢ b
    → AreWatches clauses (2 * i) nodes → AreWatches clauses (2 * (i + 1)) nodes_new
pair_watches clauses i a b nodes nodes_new p has_a has_b differ w =
    let even : (2 * i) % 2 ≡ 0 = omega arith in
    let up : opposite (2 * i) ≡ 2 * i + 1 = opp_even (2 * i) even in
    let down : opposite (2 * i + 1) ≡ 2 * i = opp_odd (2 * i + 1) (λ e. omega arith) ∙ omega arith in
    record {
      has = λ n u. elim (node_cases n i u.below) [
        | inl low ↦ subst (λ (x : Node). is_among (clause_at clauses (n / 2)) x.lit ≡ true) (sym (p.others n low)) (w.has n (record { below = low; long = u.long }))
        | inr more ↦ elim more [
          | inl e ↦
              let half : n / 2 ≡ i = omega arith in
              let lit : (node_at nodes_new n).lit ≡ a = ap (λ k. (node_at nodes_new k).lit) e ∙ p.first in
              subst (λ k. is_among (clause_at clauses k) (node_at nodes_new n).lit ≡ true) (sym half) (subst (λ l. is_among (clause_at clauses i) l ≡ true) (sym lit) has_a)
          | inr e ↦
              let half : n / 2 ≡ i = omega arith in
              let lit : (node_at nodes_new n).lit ≡ b = ap (λ k. (node_at nodes_new k).lit) e ∙ p.second in
              subst (λ k. is_among (clause_at clauses k) (node_at nodes_new n).lit ≡ true) (sym half) (subst (λ l. is_among (clause_at clauses i) l ≡ true) (sym lit) has_b)
        ]
      ];
      differ = λ n u same. elim (node_cases n i u.below) [
        | inl low ↦
            let here : (node_at nodes_new n).lit ≡ (node_at nodes n).lit = ap (λ (x : Node). x.lit) (p.others n low) in
            let there : (node_at nodes_new (opposite n)).lit ≡ (node_at nodes (opposite n)).lit = ap (λ (x : Node). x.lit) (p.others (opposite n) (opp_lt n i low)) in
            w.differ n (record { below = low; long = u.long }) (sym here ∙ (same ∙ there))
        | inr more ↦ elim more [
          | inl e ↦
              let one : (node_at nodes_new n).lit ≡ a = ap (λ k. (node_at nodes_new k).lit) e ∙ p.first in
              let other : (node_at nodes_new (opposite n)).lit ≡ b = ap (λ k. (node_at nodes_new k).lit) (ap opposite e ∙ up) ∙ p.second in
              differ (sym one ∙ (same ∙ other))
          | inr e ↦
              let one : (node_at nodes_new n).lit ≡ b = ap (λ k. (node_at nodes_new k).lit) e ∙ p.second in
              let other : (node_at nodes_new (opposite n)).lit ≡ a = ap (λ k. (node_at nodes_new k).lit) (ap opposite e ∙ down) ∙ p.first in
              differ (sym other ∙ (sym same ∙ one))
        ]
      ];
    }

-- both are put into lists
pub pair_wired : (clauses : List Clause) (i a b : ℕ) (heads : List (Option ℕ)) (nodes : List Node) → 2 ≤ length (clause_at clauses i) → is_among (clause_at clauses i) a ≡ true → is_among (clause_at clauses i) b ≡ true → a ≢ b
    → a < length heads → b < length heads → 2 * i + 2 ≤ length nodes → IsWired clauses i heads nodes
    → IsWired clauses (i + 1) (set (set heads a (Some (2 * i))) b (Some (2 * i + 1)))
    (set (set nodes (2 * i) (record { lit = a; next = head_at heads a })) (2 * i + 1) (record { lit = b; next = head_at (set heads a (Some (2 * i))) b }))
pair_wired clauses i a b heads nodes long has_a has_b differ below_a below_b room w =
    let v : Node = record { lit = a; next = head_at heads a } in
    let x : Node = record { lit = b; next = head_at (set heads a (Some (2 * i))) b } in
    let heads_size : length (set heads a (Some (2 * i))) ≡ length heads = length-set heads a (Some (2 * i)) in
    let nodes_size : length (set nodes (2 * i) v) ≡ length nodes = length-set nodes (2 * i) v in
    let one = attached clauses (2 * (i + 1)) heads nodes w.0 (2 * i) ((2 * i + 1) ∷ []) a (pair_loose clauses i heads nodes w.0 long w.1.0) below_a (omega arith) in
    let two = attached clauses (2 * (i + 1)) (set heads a (Some (2 * i))) (set nodes (2 * i) v) (with_first w.0 a (2 * i)) (2 * i + 1) [] b one (omega arith) (omega arith) in
    (with_first (with_first w.0 a (2 * i)) b (2 * i + 1), (two, pair_watches clauses i a b nodes (set (set nodes (2 * i) v) (2 * i + 1) x) (paired nodes i v x room) has_a has_b differ w.1.1))

-- all nodes watch literals below a bound
pub bounded_set : (nodes : List Node) (bound k : ℕ) (v : Node) → ((n : ℕ) → n < length nodes → (node_at nodes n).lit < bound) → v.lit < bound → (n : ℕ) → n < length (set nodes k v) → (node_at (set nodes k v) n).lit < bound
bounded_set nodes bound k v old small n l =
    let size : length (set nodes k v) ≡ length nodes = length-set nodes k v in
    elim (cases_eq n k) [
      | inl e ↦
          let here : node_at (set nodes k v) k ≡ v = get_or-set_same nodes k v _ (omega arith) in
          let at : (node_at (set nodes k v) n).lit ≡ v.lit = ap (λ m. (node_at (set nodes k v) m).lit) e ∙ ap (λ (x : Node). x.lit) here in
          omega arith
      | inr d ↦
          let at : (node_at (set nodes k v) n).lit ≡ (node_at nodes n).lit = ap (λ (x : Node). x.lit) (get_or-set_other nodes k n v _ d) in
          let b : (node_at nodes n).lit < bound = old n (omega arith) in
          omega arith
    ]
