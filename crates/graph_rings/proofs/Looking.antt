-- An edge that was looked at is one fewer that is left; groups are joined; a node without edges left leaves the stack.
use Rattle.std.proofs.Common.{◌≡◌, ◌≢◌, ◌∙◌, ◌<◌, ◌≤◌, ◌-◌, ◌⊎◌, ◌↔◌, inl, inr, ℕ, List, [], ◌∷◌, ◌++◌, length, refl, sym, subst, ap, arith, get_or, set, length-set}
use Rattle.std.specs.List.{Contains}
use Rattle.std.proofs.lemmas.Bool.{cases_eq, cases_lt}
use Rattle.std.proofs.lemmas.Grind.{get_or-set_at}
use Rattle.std.proofs.lemmas.List.{get_or-set_other}
use Rattle.std.proofs.lemmas.List.Elements.{Contains-append_left, Contains-push_cases}
use Rattle.graph_rings.specs.declared.search.Mark.{Mark}
use Rattle.graph_rings.specs.declared.search.Mark.TheVariants as mark
use Rattle.graph_rings.specs.Graph.{edges_of, HasEdge, Leads}
use Rattle.graph_rings.specs.Search.{mark_of, HasNoBase, IsLooked, Rises, IsSearch}
use Rattle.graph_rings.proofs.Lists.{rises_popped}
use Rattle.graph_rings.proofs.Marks.{seen_below}
use Rattle.graph_rings.proofs.Entering.{on_unseen, on_place}
use Rattle.graph_rings.proofs.Walks.{edge_leads, leads_on}

-- two places of the path with one node are one place
pub one_place : (g : List (List ℕ)) (start : ℕ) (left : List ℕ) (marks : List Mark) (path bases stack order : List ℕ) → IsSearch g start left marks path bases stack order → (i k : ℕ) → i < length path → k < length path → get_or path i 0 ≡ get_or path k 0 → i ≡ k
one_place g start left marks path bases stack order s i k hi hk e = on_place i k (sym (s.on_path i hi) ∙ (ap (mark_of marks) e ∙ s.on_path k hk))

pub path_below : (g : List (List ℕ)) (start : ℕ) (left : List ℕ) (marks : List Mark) (path bases stack order : List ℕ) → IsSearch g start left marks path bases stack order → (i : ℕ) → i < length path → get_or path i 0 < length marks
path_below g start left marks path bases stack order s i h = seen_below marks (get_or path i 0) (λ e. on_unseen i (sym (s.on_path i h) ∙ e))

pub looked_one : (g : List (List ℕ)) (start : ℕ) (left : List ℕ) (marks : List Mark) (path bases stack order : List ℕ) → IsSearch g start left marks path bases stack order → (w : ℕ) → Contains stack w → 0 < get_or left (get_or path w 0) 0 →
    IsLooked marks bases w (get_or (edges_of g (get_or path w 0)) (get_or left (get_or path w 0) 0 - 1) 0) →
    IsSearch g start (set left (get_or path w 0) (get_or left (get_or path w 0) 0 - 1)) marks path bases stack order
looked_one g start left marks path bases stack order s w on some done =
    let wl : w < length path = s.stack_in w on in
    let mine : mark_of marks (get_or path w 0) ≡ mark.OnPath w = s.on_path w wl in
    let below : get_or path w 0 < length left = let m : get_or path w 0 < length marks = path_below g start left marks path bases stack order s w wl in omega (arith, m, s.left_len, s.marks_len) in
    let here : get_or (set left (get_or path w 0) (get_or left (get_or path w 0) 0 - 1)) (get_or path w 0) 0 ≡ get_or left (get_or path w 0) 0 - 1 = get_or-set_at left (get_or path w 0) (get_or path w 0) (get_or left (get_or path w 0) 0 - 1) 0 refl below in
    let there : (n : ℕ) → n ≢ get_or path w 0 → get_or (set left (get_or path w 0) (get_or left (get_or path w 0) 0 - 1)) n 0 ≡ get_or left n 0 = λ n other. get_or-set_other left (get_or path w 0) n (get_or left (get_or path w 0) 0 - 1) 0 other in
    record {
      left_len = length-set left (get_or path w 0) (get_or left (get_or path w 0) 0 - 1) ∙ s.left_len;
      marks_len = s.marks_len;
      few = λ n. elim (cases_eq n (get_or path w 0)) [
        | inl same ↦ subst (λ (x : ℕ). get_or (set left (get_or path w 0) (get_or left (get_or path w 0) 0 - 1)) x 0 ≤ length (edges_of g x)) (sym same) (omega (arith, here, s.few (get_or path w 0)))
        | inr other ↦ omega (arith, there n other, s.few n)
      ];
      fresh = λ n e.
          let other : n ≢ get_or path w 0 = λ (same : n ≡ get_or path w 0). on_unseen w (sym mine ∙ (ap (mark_of marks) (sym same) ∙ e)) in
          omega (arith, there n other, s.fresh n e);
      on_path = s.on_path;
      path_of = s.path_of;
      done_in = s.done_in;
      in_done = s.in_done;
      forward = s.forward;
      back = s.back;
      stack_in = s.stack_in;
      stack_rises = s.stack_rises;
      bases_rise = s.bases_rise;
      bases_in = s.bases_in;
      based = s.based;
      spent = λ k h. elim (cases_eq k w) [
        | inl same ↦ inl (subst (λ (x : ℕ). Contains stack x) (sym same) on)
        | inr other ↦ elim (s.spent k h) [
          | inl c ↦ inl c
          | inr z ↦ inr (there (get_or path k 0) (λ same. other (one_place g start left marks path bases stack order s k w h wl same)) ∙ z)
        ]
      ];
      looked = λ k edge h eh le. elim (cases_eq k w) [
        | inl same ↦
            let more : get_or left (get_or path w 0) 0 - 1 ≤ edge = let q : get_or (set left (get_or path w 0) (get_or left (get_or path w 0) 0 - 1)) (get_or path w 0) 0 ≤ edge = subst (λ (x : ℕ). get_or (set left (get_or path w 0) (get_or left (get_or path w 0) 0 - 1)) (get_or path x 0) 0 ≤ edge) same le in omega (arith, q, here) in
            elim (cases_eq edge (get_or left (get_or path w 0) 0 - 1)) [
              | inl last ↦ subst (λ (x : ℕ). IsLooked marks bases x (get_or (edges_of g (get_or path x 0)) edge 0)) (sym same) (subst (λ (x : ℕ). IsLooked marks bases w (get_or (edges_of g (get_or path w 0)) x 0)) (sym last) done)
              | inr earlier ↦ s.looked k edge h eh (subst (λ (x : ℕ). get_or left (get_or path x 0) 0 ≤ edge) (sym same) (omega (arith, more, earlier, some)))
            ]
        | inr other ↦
            let apart : get_or path k 0 ≢ get_or path w 0 = λ (e : get_or path k 0 ≡ get_or path w 0). other (one_place g start left marks path bases stack order s k w h wl e) in
            s.looked k edge h eh (omega (arith, le, there (get_or path k 0) apart))
      ];
      closed = s.closed;
      on_ring = s.on_ring;
      off_ring = s.off_ring;
      once = s.once;
      after = s.after;
      path_reached = s.path_reached;
      order_reached = s.order_reached;
    }

pub joined : (g : List (List ℕ)) (start : ℕ) (left : List ℕ) (marks : List Mark) (path bases stack order : List ℕ) → IsSearch g start left marks path bases stack order → (w met : ℕ) → Contains stack w → ((place : ℕ) → Contains stack place → place ≤ w) → met < length path →
    HasEdge g (get_or path w 0) (get_or path met 0) → (fewer : List ℕ) → Rises fewer → ((base : ℕ) → Contains fewer base ↔ (Contains bases base × (base ≤ met))) →
    IsSearch g start left marks path fewer stack order
joined g start left marks path bases stack order s w met on top ml edge fewer rise kept =
    let wl : w < length path = s.stack_in w on in
    let bring : (k : ℕ) → k < length path → Leads g (get_or path k 0) (get_or path met 0) = λ k h.
    elim (cases_lt k w) [
      | inl low ↦ leads_on g (get_or path k 0) (get_or path w 0) (get_or path met 0) (s.forward k w low wl) (edge_leads g (get_or path w 0) (get_or path met 0) edge)
      | inr high ↦ elim (cases_eq k w) [
        | inl same ↦ subst (λ (x : ℕ). Leads g (get_or path x 0) (get_or path met 0)) (sym same) (edge_leads g (get_or path w 0) (get_or path met 0) edge)
        | inr other ↦
            let free : HasNoBase bases w k = λ (base : ℕ) (c : Contains bases base) (lo : w < base) (hi : base ≤ k). let t : base ≤ w = top base (s.bases_in base c) in omega (arith, t, lo) in
            leads_on g (get_or path k 0) (get_or path w 0) (get_or path met 0) (s.back w k (omega (arith, high, other)) h free) (edge_leads g (get_or path w 0) (get_or path met 0) edge)
      ]
    ] in
    record {
      left_len = s.left_len;
      marks_len = s.marks_len;
      few = s.few;
      fresh = s.fresh;
      on_path = s.on_path;
      path_of = s.path_of;
      done_in = s.done_in;
      in_done = s.in_done;
      forward = s.forward;
      back = λ i k l h free. elim (cases_lt met k) [
        | inl above ↦ elim (cases_lt i met) [
          | inl low ↦
              let none : HasNoBase bases i met = λ (base : ℕ) (c : Contains bases base) (lo : i < base) (hi : base ≤ met). free base ((kept base).1 (c, hi)) lo (omega (arith, hi, above)) in
              leads_on g (get_or path k 0) (get_or path met 0) (get_or path i 0) (bring k h) (s.back i met low ml none)
          | inr high ↦ elim (cases_eq i met) [
            | inl same ↦ subst (λ (x : ℕ). Leads g (get_or path k 0) (get_or path x 0)) (sym same) (bring k h)
            | inr other ↦ leads_on g (get_or path k 0) (get_or path met 0) (get_or path i 0) (bring k h) (s.forward met i (omega (arith, high, other)) (omega (arith, l, h)))
          ]
        ]
        | inr under ↦
            let none : HasNoBase bases i k = λ (base : ℕ) (c : Contains bases base) (lo : i < base) (hi : base ≤ k). free base ((kept base).1 (c, omega (arith, hi, under))) lo hi in
            s.back i k l h none
      ];
      stack_in = s.stack_in;
      stack_rises = s.stack_rises;
      bases_rise = rise;
      bases_in = λ base c. s.bases_in base ((kept base).0 c).0;
      based = λ some. (kept 0).1 (s.based some, omega arith);
      spent = s.spent;
      looked = λ k edge h eh le. elim (s.looked k edge h eh le) [
        | inl d ↦ inl d
        | inr p ↦ inr (p.0, p.1, λ base c low high. p.2 base ((kept base).0 c).0 low high)
      ];
      closed = s.closed;
      on_ring = s.on_ring;
      off_ring = s.off_ring;
      once = s.once;
      after = s.after;
      path_reached = s.path_reached;
      order_reached = s.order_reached;
    }

pub left_one : (g : List (List ℕ)) (start : ℕ) (left : List ℕ) (marks : List Mark) (path bases stack order : List ℕ) → IsSearch g start left marks path bases stack order → (rest : List ℕ) (w : ℕ) → stack ≡ rest ++ w ∷ [] → (Contains bases w → ⊥) → get_or left (get_or path w 0) 0 ≡ 0 →
    IsSearch g start left marks path bases rest order
left_one g start left marks path bases stack order s rest w is none spent =
    let up : (x : ℕ) → Contains rest x → Contains stack x = λ x c. subst (λ (l : List ℕ). Contains l x) (sym is) (Contains-append_left rest (w ∷ []) x c) in
    let down : (x : ℕ) → Contains stack x → Contains rest x ⊎ (w ≡ x) = λ x c. Contains-push_cases rest w x (subst (λ (l : List ℕ). Contains l x) is c) in
    record {
      left_len = s.left_len;
      marks_len = s.marks_len;
      few = s.few;
      fresh = s.fresh;
      on_path = s.on_path;
      path_of = s.path_of;
      done_in = s.done_in;
      in_done = s.in_done;
      forward = s.forward;
      back = s.back;
      stack_in = λ x c. s.stack_in x (up x c);
      stack_rises = rises_popped rest w (subst Rises is s.stack_rises);
      bases_rise = s.bases_rise;
      bases_in = λ b c. elim (down b (s.bases_in b c)) [ inl kept ↦ kept | inr same ↦ absurd (none (subst (λ (x : ℕ). Contains bases x) (sym same) c)) ];
      based = s.based;
      spent = λ k h. elim (s.spent k h) [
        | inl c ↦ elim (down k c) [ inl kept ↦ inl kept | inr same ↦ inr (subst (λ (x : ℕ). get_or left (get_or path x 0) 0 ≡ 0) same spent) ]
        | inr z ↦ inr z
      ];
      looked = s.looked;
      closed = s.closed;
      on_ring = s.on_ring;
      off_ring = s.off_ring;
      once = s.once;
      after = s.after;
      path_reached = s.path_reached;
      order_reached = s.order_reached;
    }
