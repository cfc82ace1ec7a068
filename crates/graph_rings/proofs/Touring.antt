-- A search for a way back to a node: its beginning, its steps and its end.
use Rattle.std.proofs.Common.{◌≡◌, ◌≢◌, ◌∙◌, ◌<◌, ◌≤◌, ◌+◌, ◌-◌, ◌⊎◌, inl, inr, ℕ, suc, Bool, true, false, List, [], ◌∷◌, ◌++◌, Some, None, map, replicate, length, refl, sym, subst, ap, arith, get_or, set, length-append, length-set}
use Rattle.std.specs.Prelude.{slice_get}
use Rattle.std.specs.List.{Contains}
use Rattle.std.proofs.Math.ListN.{get_or-append, get_or-eq_default}
use Rattle.std.proofs.lemmas.Bool.{cases_eq, cases_lt}
use Rattle.std.proofs.lemmas.Grind.{get_or-set_at}
use Rattle.std.proofs.lemmas.List.{get_or-set_other, get_or-replicate, get_or_default, length-map, length-replicate}
use Rattle.std.proofs.lemmas.List.Elements.{Contains-append_left, Contains-push, Contains-push_cases}
use Rattle.std.proofs.lemmas.Option.{slice_get_within, get_or_from_slice_get, slice_get-get_or}
use Rattle.graph_rings.specs.declared.ring.Tour.{Tour}
use Rattle.graph_rings.specs.Graph.{edges_of, HasEdge, IsWalk, IsRing, Leads, IsRingThrough}
use Rattle.graph_rings.specs.Tour.{is_seen, IsTour, IsTourOf, IsEnd}
use Rattle.graph_rings.proofs.Lists.{in_at, at_in, at_pushed}
use Rattle.graph_rings.proofs.Tops.{top_in}
use Rattle.graph_rings.proofs.Walks.{leads_first, leads_stays}
use Rattle.graph_rings.proofs.Finishing.{all_left}

-- ---- marks

marked : (seen : List Bool) (node : ℕ) → node < length seen → (x : ℕ) → ((x ≡ node) × (is_seen (set seen node true) x ≡ true)) ⊎ ((x ≢ node) × (is_seen (set seen node true) x ≡ is_seen seen x))
marked seen node below x = elim (cases_eq x node) [
  | inl same ↦ inl (same, get_or-set_at seen node x true false same below)
  | inr other ↦ inr (other, get_or-set_other seen node x true false other)
]

stays : (seen : List Bool) (node : ℕ) → node < length seen → (x : ℕ) → is_seen seen x ≡ true → is_seen (set seen node true) x ≡ true
stays seen node below x e = elim (marked seen node below x) [ inl same ↦ same.1 | inr other ↦ other.1 ∙ e ]

-- ---- the beginning

one_place : (node k : ℕ) → k < length (node ∷ []) → k ≡ 0
one_place node k h = omega (arith, h)

pub toured : (g : List (List ℕ)) (node : ℕ) → node < length g → IsTour g node (map (λ (edges : List ℕ). length edges) g) (set (replicate (length g) false) node true) (node ∷ [])
toured g node inside =
    let below : node < length (replicate (length g) false) = omega (arith, inside, length-replicate (length g) false) in
    let none : (x : ℕ) → is_seen (replicate (length g) false) x ≡ false = λ x. elim (cases_lt x (length g)) [
      | inl l ↦ get_or-replicate (length g) x false false l
      | inr h ↦ get_or-eq_default (replicate (length g) false) false (omega (arith, length-replicate (length g) false, h))
    ] in
    let only : (x : ℕ) → is_seen (set (replicate (length g) false) node true) x ≡ true → x ≡ node = λ x e. elim (marked (replicate (length g) false) node below x) [
      | inl same ↦ same.0
      | inr other ↦ absurd (let n : false ≡ true = sym (none x) ∙ (sym other.1 ∙ e) in cc)
    ] in
    record {
      left_len = length-map g (λ (edges : List ℕ). length edges);
      seen_len = length-set (replicate (length g) false) node true ∙ length-replicate (length g) false;
      few = λ x. omega (arith, all_left g x);
      fresh = λ x _. omega (arith, all_left g x);
      node_seen = get_or-set_at (replicate (length g) false) node node true false refl below;
      path_seen = λ k h. subst (λ (n : ℕ). is_seen (set (replicate (length g) false) node true) (get_or (node ∷ []) n 0) ≡ true) (sym (one_place node k h)) (get_or-set_at (replicate (length g) false) node node true false refl below);
      first = λ _. refl;
      edges = λ k h. absurd (omega (arith, h));
      once = λ i k l h. absurd (omega (arith, l, h));
      spent = λ x e. inl (subst (λ (n : ℕ). Contains (node ∷ []) n) (sym (only x e)) (Contains-push [] node));
      looked = λ x edge e l le. absurd (omega (arith, l, le, all_left g x));
    }

-- ---- the steps

pub toured_back : (g : List (List ℕ)) (node : ℕ) (left : List ℕ) (seen : List Bool) (path ys : List ℕ) (last : ℕ) → IsTour g node left seen path → path ≡ ys ++ last ∷ [] → get_or left last 0 ≡ 0 → IsTour g node left seen ys
toured_back g node left seen path ys last t is none =
    let size : length path ≡ length ys + 1 = ap (λ (l : List ℕ). length l) is ∙ (let s : length (ys ++ last ∷ []) ≡ length ys + 1 = omega (arith, length-append ys (last ∷ [])) in s) in
    let at : (k : ℕ) → k < length ys → get_or path k 0 ≡ get_or ys k 0 = λ k h. ap (λ (l : List ℕ). get_or l k 0) is ∙ get_or-append ys (last ∷ []) 0 k h in
    record {
      left_len = t.left_len;
      seen_len = t.seen_len;
      few = t.few;
      fresh = t.fresh;
      node_seen = t.node_seen;
      path_seen = λ k h. subst (λ (x : ℕ). is_seen seen x ≡ true) (at k h) (t.path_seen k (omega (arith, size, h)));
      first = λ h. sym (at 0 h) ∙ t.first (omega (arith, size));
      edges = λ k h. subst (λ (x : ℕ). HasEdge g (get_or ys k 0) x) (at (k + 1) h) (subst (λ (x : ℕ). HasEdge g x (get_or path (k + 1) 0)) (at k (omega (arith, h))) (t.edges k (omega (arith, size, h))));
      once = λ i k l h same. t.once i k l (omega (arith, size, h)) (at i (omega (arith, l, h)) ∙ (same ∙ sym (at k h)));
      spent = λ x e. elim (t.spent x e) [
        | inl c ↦ elim (Contains-push_cases ys last x (subst (λ (l : List ℕ). Contains l x) is c)) [ inl old ↦ inl old | inr same ↦ inr (subst (λ (n : ℕ). get_or left n 0 ≡ 0) same none) ]
        | inr z ↦ inr z
      ];
      looked = t.looked;
    }

pub toured_look : (g : List (List ℕ)) (node : ℕ) (left : List ℕ) (seen : List Bool) (path : List ℕ) (last n to : ℕ) → IsTour g node left seen path → Contains path last → last < length left → get_or left last 0 ≡ n → 0 < n → get_or (edges_of g last) (n - 1) 0 ≡ to →
    is_seen seen to ≡ true → to ≢ node → IsTour g node (set left last (n - 1)) seen path
toured_look g node left seen path last n to t on below n_is some to_is to_seen other =
    let here : get_or (set left last (n - 1)) last 0 ≡ n - 1 = get_or-set_at left last last (n - 1) 0 refl below in
    let there : (x : ℕ) → x ≢ last → get_or (set left last (n - 1)) x 0 ≡ get_or left x 0 = λ x apart. get_or-set_other left last x (n - 1) 0 apart in
    let place = in_at path last on in
    let last_seen : is_seen seen last ≡ true = subst (λ (x : ℕ). is_seen seen x ≡ true) place.2 (t.path_seen place.0 place.1) in
    record {
      left_len = length-set left last (n - 1) ∙ t.left_len;
      seen_len = t.seen_len;
      few = λ x. elim (cases_eq x last) [
        | inl same ↦ subst (λ (y : ℕ). get_or (set left last (n - 1)) y 0 ≤ length (edges_of g y)) (sym same) (omega (arith, here, n_is, t.few last))
        | inr apart ↦ omega (arith, there x apart, t.few x)
      ];
      fresh = λ x e.
          let apart : x ≢ last = λ (same : x ≡ last). let no : true ≡ false = sym last_seen ∙ (ap (λ (y : ℕ). is_seen seen y) (sym same) ∙ e) in cc in
          omega (arith, there x apart, t.fresh x e);
      node_seen = t.node_seen;
      path_seen = t.path_seen;
      first = t.first;
      edges = t.edges;
      once = t.once;
      spent = λ x e. elim (cases_eq x last) [
        | inl same ↦ inl (subst (λ (y : ℕ). Contains path y) (sym same) on)
        | inr apart ↦ elim (t.spent x e) [ inl c ↦ inl c | inr z ↦ inr (there x apart ∙ z) ]
      ];
      looked = λ x edge e l le. elim (cases_eq x last) [
        | inl same ↦
            let more : n - 1 ≤ edge = let q : get_or (set left last (n - 1)) last 0 ≤ edge = subst (λ (y : ℕ). get_or (set left last (n - 1)) y 0 ≤ edge) same le in omega (arith, q, here) in
            elim (cases_eq edge (n - 1)) [
              | inl end ↦
                  let is : get_or (edges_of g x) edge 0 ≡ to = ap (λ (y : ℕ). get_or (edges_of g y) edge 0) same ∙ (ap (λ (y : ℕ). get_or (edges_of g last) y 0) end ∙ to_is) in
                  (ap (λ (y : ℕ). is_seen seen y) is ∙ to_seen, λ q. other (sym is ∙ q))
              | inr early ↦ t.looked x edge e l (subst (λ (y : ℕ). get_or left y 0 ≤ edge) (sym same) (omega (arith, more, early, n_is, some)))
            ]
        | inr apart ↦ t.looked x edge e l (omega (arith, le, there x apart))
      ];
    }

pub toured_on : (g : List (List ℕ)) (node : ℕ) (left : List ℕ) (seen : List Bool) (path : List ℕ) (last to : ℕ) → IsTour g node left seen path → slice_get path (length path - 1) ≡ Some last → HasEdge g last to → to < length seen → is_seen seen to ≡ false →
    IsTour g node left (set seen to true) (path ++ to ∷ [])
toured_on g node left seen path last to t end edge below unseen =
    let near : length path - 1 < length path = slice_get_within path (length path - 1) last end in
    let last_is : get_or path (length path - 1) 0 ≡ last = get_or_from_slice_get path (length path - 1) last 0 end in
    let old : (k : ℕ) → k < length path → get_or (path ++ to ∷ []) k 0 ≡ get_or path k 0 = λ k h. get_or-append path (to ∷ []) 0 k h in
    record {
      left_len = t.left_len;
      seen_len = length-set seen to true ∙ t.seen_len;
      few = t.few;
      fresh = λ x e. elim (marked seen to below x) [
        | inl same ↦ absurd (let no : true ≡ false = sym same.1 ∙ e in cc)
        | inr other ↦ t.fresh x (sym other.1 ∙ e)
      ];
      node_seen = stays seen to below node t.node_seen;
      path_seen = λ k h. elim (at_pushed path to k h) [
        | inl before ↦ subst (λ (x : ℕ). is_seen (set seen to true) x ≡ true) (sym before.1) (stays seen to below (get_or path k 0) (t.path_seen k before.0))
        | inr new ↦ subst (λ (x : ℕ). is_seen (set seen to true) x ≡ true) (sym new.1) (get_or-set_at seen to to true false refl below)
      ];
      first = λ _. old 0 (omega (arith, near)) ∙ t.first (omega (arith, near));
      edges = λ k h. elim (at_pushed path to (k + 1) h) [
        | inl before ↦ subst (λ (x : ℕ). HasEdge g (get_or (path ++ to ∷ []) k 0) x) (sym before.1) (subst (λ (x : ℕ). HasEdge g x (get_or path (k + 1) 0)) (sym (old k (omega (arith, before.0)))) (t.edges k before.0))
        | inr new ↦
            let place : k ≡ length path - 1 = omega (arith, new.0) in
            let is : get_or (path ++ to ∷ []) k 0 ≡ last = old k (omega (arith, place, near)) ∙ (ap (λ (n : ℕ). get_or path n 0) place ∙ last_is) in
            subst (λ (x : ℕ). HasEdge g (get_or (path ++ to ∷ []) k 0) x) (sym new.1) (subst (λ (x : ℕ). HasEdge g x to) (sym is) edge)
      ];
      once = λ i k l h same. elim (at_pushed path to k h) [
        | inl before ↦ t.once i k l before.0 (sym (old i (omega (arith, l, before.0))) ∙ (same ∙ before.1))
        | inr new ↦
            let low : i < length path = omega (arith, l, new.0) in
            let is : get_or path i 0 ≡ to = sym (old i low) ∙ (same ∙ new.1) in
            let no : true ≡ false = sym (t.path_seen i low) ∙ (ap (λ (x : ℕ). is_seen seen x) is ∙ unseen) in cc
      ];
      spent = λ x e. elim (marked seen to below x) [
        | inl same ↦ inl (subst (λ (y : ℕ). Contains (path ++ to ∷ []) y) (sym same.0) (Contains-push path to))
        | inr other ↦ elim (t.spent x (sym other.1 ∙ e)) [ inl c ↦ inl (Contains-append_left path (to ∷ []) x c) | inr z ↦ inr z ]
      ];
      looked = λ x j e l le. elim (marked seen to below x) [
        | inl same ↦ absurd (let all : length (edges_of g x) ≤ get_or left x 0 = t.fresh x (ap (λ (y : ℕ). is_seen seen y) same.0 ∙ unseen) in omega (arith, all, l, le))
        | inr other ↦ let r = t.looked x j (sym other.1 ∙ e) l le in (stays seen to below (get_or (edges_of g x) j 0) r.0, r.1)
      ];
    }

-- ---- the ring

chain : (g : List (List ℕ)) (a : ℕ) (rest : List ℕ) (b : ℕ) → ((k : ℕ) → k + 1 < length (a ∷ rest) → HasEdge g (get_or (a ∷ rest) k 0) (get_or (a ∷ rest) (k + 1) 0)) → HasEdge g (get_or (a ∷ rest) (length rest) 0) b → IsWalk g a rest b
chain g a [] b steps last = last
chain g a (x ∷ xs) b steps last =
    (steps 0 (omega arith), chain g x xs b (λ k h. subst (λ (n : ℕ). HasEdge g (get_or (x ∷ xs) k 0) (get_or (a ∷ x ∷ xs) n 0)) (let e : suc k + 1 ≡ suc (k + 1) = omega arith in e) (steps (suc k) (omega (arith, h)))) last)

ring_from : (g : List (List ℕ)) (node : ℕ) (path : List ℕ) (last : ℕ) → slice_get path (length path - 1) ≡ Some last → (0 < length path → get_or path 0 0 ≡ node) → ((k : ℕ) → k + 1 < length path → HasEdge g (get_or path k 0) (get_or path (k + 1) 0)) → HasEdge g last node → IsRing g path
ring_from g node [] last end first edges back = absurd (let l : length {A = ℕ} [] - 1 < length {A = ℕ} [] = slice_get_within [] (length {A = ℕ} [] - 1) last end in omega (arith, l))
ring_from g node (a ∷ rest) last end first edges back =
    let a_is : a ≡ node = first (omega arith) in
    let place : length (a ∷ rest) - 1 ≡ length rest = omega arith in
    let last_is : get_or (a ∷ rest) (length rest) 0 ≡ last = subst (λ (n : ℕ). get_or (a ∷ rest) n 0 ≡ last) place (get_or_from_slice_get (a ∷ rest) (length (a ∷ rest) - 1) last 0 end) in
    chain g a rest a edges (subst (λ (x : ℕ). HasEdge g x a) (sym last_is) (subst (λ (x : ℕ). HasEdge g last x) (sym a_is) back))

pub ring_found : (g : List (List ℕ)) (node : ℕ) (left : List ℕ) (seen : List Bool) (path : List ℕ) (last : ℕ) → IsTour g node left seen path → slice_get path (length path - 1) ≡ Some last → HasEdge g last node → IsRingThrough g node path
ring_found g node left seen path last t end back =
    let near : length path - 1 < length path = slice_get_within path (length path - 1) last end in
    record {
      ring_is = ring_from g node path last end t.first t.edges back;
      first = slice_get-get_or path 0 0 (omega (arith, near)) ∙ ap Some (t.first (omega (arith, near)));
      once = λ i k x l h same. t.once i k l h (get_or_default path i 0 x (omega (arith, l, h)) ∙ (same ∙ get_or_default path k x 0 h));
    }

-- with no way left, no edge leads back to the node
pub no_way : (g : List (List ℕ)) (node : ℕ) (left : List ℕ) (seen : List Bool) (path : List ℕ) → IsTour g node left seen path → length path ≡ 0 → Leads g node node → ⊥
no_way g node left seen path t empty lead =
    let next : (x to : ℕ) → is_seen seen x ≡ true → HasEdge g x to → (is_seen seen to ≡ true) × (to ≢ node) = λ x to e edge.
    let at = in_at (edges_of g x) to edge in
    let none : get_or left x 0 ≡ 0 = elim (t.spent x e) [ inl c ↦ absurd (let l : c.0 < length path = c.1 in omega (arith, l, empty)) | inr z ↦ z ] in
    subst (λ (y : ℕ). (is_seen seen y ≡ true) × (y ≢ node)) at.2 (t.looked x at.0 e at.1 (omega (arith, none))) in
    let first = leads_first g node node lead in
    let there : (is_seen seen first.0 ≡ true) × (first.0 ≢ node) = next node first.0 t.node_seen first.1 in
    elim first.2 [
      | inl same ↦ there.1 same
      | inr more ↦ (leads_stays g (λ x. (is_seen seen x ≡ true) × (x ≢ node)) (λ x to e edge. next x to e.0 edge) first.0 node there more).1 refl
    ]

-- what a step may read
pub at_end : (g : List (List ℕ)) (node : ℕ) (t : Tour) (last : ℕ) → IsTourOf g node t → slice_get t.path.items (length t.path.items - 1) ≡ Some last → IsEnd g t last
at_end g node t last h end =
    let place = in_at t.path.items last (top_in t.path.items last end) in
    let seen : is_seen t.seen.items last ≡ true = subst (λ (x : ℕ). is_seen t.seen.items x ≡ true) place.2 (h.path_seen place.0 place.1) in
    let below : last < length t.seen.items = elim (cases_lt last (length t.seen.items)) [
      | inl l ↦ l
      | inr past ↦ absurd (let no : true ≡ false = sym seen ∙ get_or-eq_default t.seen.items false past in cc)
    ] in
    record { is_last = end; inside = omega (arith, below, h.seen_len); few = h.few last; left_len = h.left_len; seen_len = h.seen_len }

pub none_last : (path : List ℕ) → None ≡ slice_get path (length path - 1) → length path ≡ 0
none_last path e = elim (cases_lt 0 (length path)) [
  | inl some ↦ absurd (let no : None ≡ Some (get_or path (length path - 1) 0) = e ∙ slice_get-get_or path (length path - 1) 0 (omega (arith, some)) in cc)
  | inr none ↦ omega (arith, none)
]

module _ (g : List (List ℕ)) (node : ℕ) (left : List ℕ) (seen : List Bool) (path : List ℕ) (last n : ℕ) (row : List ℕ) (t : IsTour g node left seen path) (end : slice_get path (length path - 1) ≡ Some last) (inside : last < length g) (n_is : get_or left last 0 ≡ n) (some : 0 < n) (row_is : edges_of g last ≡ row) where
  to_is : get_or (edges_of g last) (n - 1) 0 ≡ get_or row (n - 1) 0
  to_is = ap (λ (l : List ℕ). get_or l (n - 1) 0) row_is

  pub edge_on : HasEdge g last (get_or row (n - 1) 0)
  edge_on = at_in (edges_of g last) (n - 1) (get_or row (n - 1) 0) (let few : get_or left last 0 ≤ length (edges_of g last) = t.few last in omega (arith, few, n_is, some)) to_is

  in_left : last < length left
  in_left = omega (arith, inside, t.left_len)

  pub step_seen : is_seen seen (get_or row (n - 1) 0) ≡ true → get_or row (n - 1) 0 ≢ node → IsTour g node (set left last (n - 1)) seen path
  step_seen e other = toured_look g node left seen path last n (get_or row (n - 1) 0) t (top_in path last end) in_left n_is some to_is e other

  pub step_on : get_or row (n - 1) 0 < length seen → is_seen seen (get_or row (n - 1) 0) ≡ false → get_or row (n - 1) 0 ≢ node → IsTour g node (set left last (n - 1)) (set seen (get_or row (n - 1) 0) true) (path ++ get_or row (n - 1) 0 ∷ [])
  step_on below e other =
      toured_look g node left (set seen (get_or row (n - 1) 0) true) (path ++ get_or row (n - 1) 0 ∷ []) last n (get_or row (n - 1) 0)
      (toured_on g node left seen path last (get_or row (n - 1) 0) t end edge_on below e)
      (Contains-append_left path (get_or row (n - 1) 0 ∷ []) last (top_in path last end)) in_left n_is some to_is
      (get_or-set_at seen (get_or row (n - 1) 0) (get_or row (n - 1) 0) true false refl below) other
