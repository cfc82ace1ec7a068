-- A node that is put at the end of the path as a group of its own keeps what a search knows.
use Rattle.std.proofs.Common.{◌≡◌, ◌≢◌, ◌∙◌, ◌<◌, ◌≤◌, ◌⊎◌, inl, inr, ℕ, Bool, true, false, List, [], ◌∷◌, ◌++◌, length, refl, sym, subst, ap, arith, get_or, set, length-append, length-set}
use Rattle.std.specs.List.{Contains}
use Rattle.std.proofs.Math.ListN.{get_or-append}
use Rattle.std.proofs.Math.Seq.{get_or-append_seam}
use Rattle.std.proofs.lemmas.Bool.{cases_eq, cases_lt}
use Rattle.std.proofs.lemmas.Grind.{get_or-set_at}
use Rattle.std.proofs.lemmas.List.{get_or-set_other}
use Rattle.std.proofs.lemmas.List.Elements.{Contains-get_or, Contains-append_left, Contains-push, Contains-push_cases}
use Rattle.graph_rings.specs.declared.search.Mark.{Mark}
use Rattle.graph_rings.specs.declared.search.Mark.TheVariants as mark
use Rattle.graph_rings.specs.Graph.{edges_of, Leads, Reaches}
use Rattle.graph_rings.specs.Search.{mark_of, HasNoBase, IsLooked, IsSearch}
use Rattle.graph_rings.proofs.Lists.{at_pushed, rises_pushed}

-- the mark of each node after one was marked
marked : (marks : List Mark) (node : ℕ) (m : Mark) → node < length marks → (n : ℕ) → ((n ≡ node) × (mark_of (set marks node m) n ≡ m)) ⊎ ((n ≢ node) × (mark_of (set marks node m) n ≡ mark_of marks n))
marked marks node m below n = elim (cases_eq n node) [
  | inl same ↦ inl (same, get_or-set_at marks node n m mark.Unseen same below)
  | inr other ↦ inr (other, get_or-set_other marks node n m mark.Unseen other)
]

-- a mark that is not the one of the unseen stays
kept : (marks : List Mark) (node : ℕ) (m : Mark) → mark_of marks node ≡ mark.Unseen → (n : ℕ) (v : Mark) → mark_of marks n ≡ v → (v ≡ mark.Unseen → ⊥) → mark_of (set marks node m) n ≡ v
kept marks node m unseen n v e seen =
    let other : n ≢ node = λ (same : n ≡ node). seen (sym e ∙ (ap (mark_of marks) same ∙ unseen)) in
    get_or-set_other marks node n m mark.Unseen other ∙ e

-- a mark that the new one is not was there before
was : (marks : List Mark) (node place : ℕ) → node < length marks → (n : ℕ) (v : Mark) → mark_of (set marks node (mark.OnPath place)) n ≡ v → (mark.OnPath place ≡ v → ⊥) → mark_of marks n ≡ v
was marks node place below n v e new = elim (marked marks node (mark.OnPath place) below n) [
  | inl same ↦ absurd (new (sym same.1 ∙ e))
  | inr other ↦ sym other.1 ∙ e
]

pub on_unseen : (p : ℕ) → mark.OnPath p ≡ mark.Unseen → ⊥
on_unseen p e = cc

pub done_unseen : (f : Bool) → mark.Done f ≡ mark.Unseen → ⊥
done_unseen f e = cc

pub on_done : (p : ℕ) (f : Bool) → mark.OnPath p ≡ mark.Done f → ⊥
on_done p f e = cc

pub on_place : (p q : ℕ) → mark.OnPath p ≡ mark.OnPath q → p ≡ q
on_place p q e = cc

looked_kept : (marks : List Mark) (node last : ℕ) (bases : List ℕ) → mark_of marks node ≡ mark.Unseen → (place to : ℕ) → place < last → IsLooked marks bases place to → IsLooked (set marks node (mark.OnPath last)) (bases ++ last ∷ []) place to
looked_kept marks node last bases unseen place to near k = elim k [
  | inl d ↦ inl (d.0, kept marks node (mark.OnPath last) unseen to (mark.Done d.0) d.1 (done_unseen d.0))
  | inr p ↦ inr (
    p.0,
    kept marks node (mark.OnPath last) unseen to (mark.OnPath p.0) p.1 (on_unseen p.0),
    λ base c low high. elim (Contains-push_cases bases last base c) [
      | inl old ↦ p.2 base old low high
      | inr same ↦ absurd (omega (arith, same, high, near))
    ],
  )
]

pub entered : (g : List (List ℕ)) (start : ℕ) (left : List ℕ) (marks : List Mark) (path bases stack order : List ℕ) → IsSearch g start left marks path bases stack order → (node : ℕ) → node < length marks → mark_of marks node ≡ mark.Unseen →
    ((place : ℕ) → place < length path → Leads g (get_or path place 0) node) → Reaches g start node →
    IsSearch g start left (set marks node (mark.OnPath (length path))) (path ++ node ∷ []) (bases ++ length path ∷ []) (stack ++ length path ∷ []) order
entered g start left marks path bases stack order s node below unseen lead reach = record {
  left_len = s.left_len;
  marks_len = length-set marks node (mark.OnPath (length path)) ∙ s.marks_len;
  few = s.few;
  fresh = λ n e. s.fresh n (was marks node (length path) below n mark.Unseen e (on_unseen (length path)));
  on_path = λ k h. elim (at_pushed path node k h) [
    | inl old ↦ subst (λ (x : ℕ). mark_of (set marks node (mark.OnPath (length path))) x ≡ mark.OnPath k) (sym old.1) (kept marks node (mark.OnPath (length path)) unseen (get_or path k 0) (mark.OnPath k) (s.on_path k old.0) (on_unseen k))
    | inr new ↦ subst (λ (x : ℕ). mark_of (set marks node (mark.OnPath (length path))) x ≡ mark.OnPath k) (sym new.1) (get_or-set_at marks node node (mark.OnPath (length path)) mark.Unseen refl below ∙ ap mark.OnPath (sym new.0))
  ];
  path_of = λ n p e. elim (marked marks node (mark.OnPath (length path)) below n) [
    | inl here ↦
        let at : length path ≡ p = on_place (length path) p (sym here.1 ∙ e) in
        (omega (arith, at, length-append path (node ∷ [])), subst (λ (k : ℕ). get_or (path ++ node ∷ []) k 0 ≡ n) at (get_or-append_seam path node [] 0 ∙ sym here.0))
    | inr there ↦
        let old = s.path_of n p (sym there.1 ∙ e) in
        let near : p < length path = old.0 in
        (omega (arith, near, length-append path (node ∷ [])), get_or-append path (node ∷ []) 0 p near ∙ old.1)
  ];
  done_in = λ n f e. s.done_in n f (was marks node (length path) below n (mark.Done f) e (on_done (length path) f));
  in_done = λ n c. let d = s.in_done n c in (d.0, kept marks node (mark.OnPath (length path)) unseen n (mark.Done d.0) d.1 (done_unseen d.0));
  forward = λ i k l h. elim (at_pushed path node k h) [
    | inl old ↦
        let near : i < length path = omega (arith, l, old.0) in
        subst (λ (x : ℕ). Leads g x (get_or (path ++ node ∷ []) k 0)) (sym (get_or-append path (node ∷ []) 0 i near)) (subst (λ (y : ℕ). Leads g (get_or path i 0) y) (sym old.1) (s.forward i k l old.0))
    | inr new ↦
        let near : i < length path = omega (arith, l, new.0) in
        subst (λ (x : ℕ). Leads g x (get_or (path ++ node ∷ []) k 0)) (sym (get_or-append path (node ∷ []) 0 i near)) (subst (λ (y : ℕ). Leads g (get_or path i 0) y) (sym new.1) (lead i near))
  ];
  back = λ i k l h free. elim (at_pushed path node k h) [
    | inl old ↦
        let near : i < length path = omega (arith, l, old.0) in
        let open_old : HasNoBase bases i k = λ (base : ℕ) (c : Contains bases base) (low : i < base) (high : base ≤ k). free base (Contains-append_left bases (length path ∷ []) base c) low high in
        subst (λ (x : ℕ). Leads g (get_or (path ++ node ∷ []) k 0) x) (sym (get_or-append path (node ∷ []) 0 i near)) (subst (λ (y : ℕ). Leads g y (get_or path i 0)) (sym old.1) (s.back i k l old.0 open_old))
    | inr new ↦ absurd (free (length path) (Contains-push bases (length path)) (omega (arith, l, new.0)) (omega (arith, new.0)))
  ];
  stack_in = λ k c. elim (Contains-push_cases stack (length path) k c) [
    | inl old ↦ let near : k < length path = s.stack_in k old in omega (arith, near, length-append path (node ∷ []))
    | inr same ↦ omega (arith, same, length-append path (node ∷ []))
  ];
  stack_rises = rises_pushed stack (length path) s.stack_rises (λ k h. s.stack_in (get_or stack k 0) (Contains-get_or stack k 0 h));
  bases_rise = rises_pushed bases (length path) s.bases_rise (λ k h. s.stack_in (get_or bases k 0) (s.bases_in (get_or bases k 0) (Contains-get_or bases k 0 h)));
  bases_in = λ b c. elim (Contains-push_cases bases (length path) b c) [
    | inl old ↦ Contains-append_left stack (length path ∷ []) b (s.bases_in b old)
    | inr same ↦ subst (λ (x : ℕ). Contains (stack ++ length path ∷ []) x) same (Contains-push stack (length path))
  ];
  based = λ _. elim (cases_lt 0 (length path)) [
    | inl some ↦ Contains-append_left bases (length path ∷ []) 0 (s.based some)
    | inr none ↦ let zero_is : length path ≡ 0 = omega (arith, none) in subst (λ (x : ℕ). Contains (bases ++ length path ∷ []) x) zero_is (Contains-push bases (length path))
  ];
  spent = λ k h. elim (at_pushed path node k h) [
    | inl old ↦ elim (s.spent k old.0) [
      | inl c ↦ inl (Contains-append_left stack (length path ∷ []) k c)
      | inr z ↦ inr (subst (λ (x : ℕ). get_or left x 0 ≡ 0) (sym old.1) z)
    ]
    | inr new ↦ inl (subst (λ (x : ℕ). Contains (stack ++ length path ∷ []) x) (sym new.0) (Contains-push stack (length path)))
  ];
  looked = λ k edge h eh le. elim (at_pushed path node k h) [
    | inl old ↦
        subst (λ (x : ℕ). edge < length (edges_of g x) → get_or left x 0 ≤ edge → IsLooked (set marks node (mark.OnPath (length path))) (bases ++ length path ∷ []) k (get_or (edges_of g x) edge 0)) (sym old.1)
        (λ eh le. looked_kept marks node (length path) bases unseen k (get_or (edges_of g (get_or path k 0)) edge 0) old.0 (s.looked k edge old.0 eh le)) eh le
    | inr new ↦
        subst (λ (x : ℕ). edge < length (edges_of g x) → get_or left x 0 ≤ edge → IsLooked (set marks node (mark.OnPath (length path))) (bases ++ length path ∷ []) k (get_or (edges_of g x) edge 0)) (sym new.1)
        (λ eh le. let all : length (edges_of g node) ≤ get_or left node 0 = s.fresh node unseen in absurd (omega (arith, eh, le, all))) eh le
  ];
  closed = s.closed;
  on_ring = λ n e. s.on_ring n (was marks node (length path) below n (mark.Done true) e (on_done (length path) true));
  off_ring = λ n e. s.off_ring n (was marks node (length path) below n (mark.Done false) e (on_done (length path) false));
  once = s.once;
  after = λ k to h e edge. s.after k to h (was marks node (length path) below (get_or order k 0) (mark.Done false) e (on_done (length path) false)) edge;
  path_reached = λ k h. elim (at_pushed path node k h) [
    | inl old ↦ subst (λ (x : ℕ). Reaches g start x) (sym old.1) (s.path_reached k old.0)
    | inr new ↦ subst (λ (x : ℕ). Reaches g start x) (sym new.1) reach
  ];
  order_reached = s.order_reached;
}
