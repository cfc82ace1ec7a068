-- Lanes that are added behind others, one after the other.
use Rattle.std.proofs.Common.{◌≡◌, ◌⊎◌, inl, inr, ℕ, zero, suc, ◌+◌, ◌-◌, ◌<◌, ◌≤◌, Bool, ℤ, List, [], ◌∷◌, ◌++◌, map, length, get_or, sym, ap, ◌∙◌, subst, arith, length-append}
use Rattle.std.proofs.lemmas.List.{length_push, append-nil, append_assoc, length-map, get_or_append_left}
use Rattle.std.proofs.lemmas.List.FromFn.{length-range_with_len, map-range_with_len_more}
use Rattle.std.proofs.lemmas.Option.{slice_get_within, slice_get-get_or}
use Rattle.std.specs.Prelude.{Option, Some, None, slice_get}
use Rattle.std.specs.List.{range_with_len}
use Rattle.rsfq_ids.specs.declared.offence.PathArc.{PathArc}
use Rattle.lane_forest.specs.declared.node.LaneNode.{LaneNode}
use Rattle.lane_forest.specs.declared.node.PassedGate.{PassedGate}
use Rattle.lane_forest.specs.Gates.{gate_in, gate_after}
use Rattle.lane_forest.specs.Forest.{Grove, arcs_at, rooted, extended, AreBehind, AreGatesBehind, IsNewLane}
use Rattle.lane_forest.proofs.Grows.{at_kept, at_push, slice_get_push}

pub slice_get_append : {X : Type 0} (xs ys : List X) (x : X) (i : ℕ) → slice_get xs i ≡ Some x → slice_get (xs ++ ys) i ≡ Some x
slice_get_append [] ys x i e = cc
slice_get_append (z ∷ xs) ys x zero e = e
slice_get_append (z ∷ xs) ys x (suc i) e = slice_get_append xs ys x i e

module _ (old : Grove) (from : ℕ) (last : PathArc) (low high : ℤ) where
  abbrev pub longer : ℕ → List PathArc
  longer lane = arcs_at old.arcs lane ++ last ∷ []

  pub behind_none : AreBehind old old from from last low high
  behind_none =
      let none : from - from ≡ 0 = omega arith in
      record {
        arcs = sym (append-nil old.arcs) ∙ ap (λ (n : ℕ). old.arcs ++ map longer (range_with_len from n)) (sym none);
        many = omega arith;
        kept = λ lane node has. has;
        each = λ lane node has. inl has;
      }

  module _ (mid new : Grove) (at : ℕ) (behind : AreBehind old mid from at last low high) (l : from ≤ at) (inside : at < length old.nodes) (even : length old.arcs ≡ length old.nodes)
      (nodes : (node : LaneNode) → slice_get mid.nodes at ≡ Some node → new.nodes ≡ mid.nodes ++ extended node at last low high ∷ []) (arcs : new.arcs ≡ mid.arcs ++ (arcs_at mid.arcs at ++ last ∷ []) ∷ []) (some : LaneNode) where
    abbrev pub before_is : LaneNode
    before_is = get_or old.nodes at some

    old_has : slice_get old.nodes at ≡ Some before_is
    old_has = slice_get-get_or old.nodes at some inside

    mid_has : slice_get mid.nodes at ≡ Some before_is
    mid_has = behind.kept at before_is old_has

    new_nodes : new.nodes ≡ mid.nodes ++ extended before_is at last low high ∷ []
    new_nodes = nodes before_is mid_has

    mid_many : length mid.arcs ≡ length old.arcs + (at - from)
    mid_many =
        ap (λ (xs : List (List PathArc)). length xs) behind.arcs ∙ length-append old.arcs (map longer (range_with_len from (at - from)))
        ∙ ap (λ (n : ℕ). length old.arcs + n) (length-map (range_with_len from (at - from)) longer ∙ length-range_with_len from (at - from))

    mid_at : arcs_at mid.arcs at ≡ arcs_at old.arcs at
    mid_at = ap (λ (xs : List (List PathArc)). arcs_at xs at) behind.arcs ∙ at_kept old.arcs (map longer (range_with_len from (at - from))) at (omega arith)

    new_at : (lane : ℕ) → lane < length mid.arcs → arcs_at new.arcs lane ≡ arcs_at mid.arcs lane
    new_at lane m = ap (λ (xs : List (List PathArc)). arcs_at xs lane) arcs ∙ at_kept mid.arcs ((arcs_at mid.arcs at ++ last ∷ []) ∷ []) lane m

    new_each : (lane : ℕ) (node : LaneNode) → (slice_get mid.nodes lane ≡ Some node) ⊎ ((lane ≡ length mid.nodes) × (extended before_is at last low high ≡ node)) → (slice_get old.nodes lane ≡ Some node) ⊎ IsNewLane old new from (at + 1) last low high lane node
    new_each lane node (inl has) =
        let m = slice_get_within mid.nodes lane node has in
        let n = mid_many in
        let k = behind.many in
        elim (behind.each lane node has) [
          | inl was ↦ inl was
          | inr is ↦
              (let h = is.high_end in
              inr (record {
                parent = is.parent;
                before = is.before;
                low_end = is.low_end;
                high_end = omega arith;
                old_is = is.old_is;
                node_is = is.node_is;
                arcs_are = new_at lane (omega arith) ∙ is.arcs_are;
              }))
        ]
    new_each lane node (inr (here, same)) =
        let n = mid_many in
        let k = behind.many in
        inr (record {
          parent = at;
          before = before_is;
          low_end = l;
          high_end = omega arith;
          old_is = old_has;
          node_is = sym same;
          arcs_are = ap (λ (xs : List (List PathArc)). arcs_at xs lane) arcs ∙ at_push mid.arcs (arcs_at mid.arcs at ++ last ∷ []) lane (omega arith) ∙ ap (λ (xs : List PathArc). xs ++ last ∷ []) mid_at;
        })

    pub behind_more : AreBehind old new from (at + 1) last low high
    behind_more =
        let one : at + 1 - from ≡ (at - from) + 1 = omega arith in
        record {
          arcs = arcs ∙ ap (λ (xs : List (List PathArc)). xs ++ (arcs_at mid.arcs at ++ last ∷ []) ∷ []) behind.arcs ∙ ap (λ (ys : List PathArc). (old.arcs ++ map longer (range_with_len from (at - from))) ++ (ys ++ last ∷ []) ∷ []) mid_at
              ∙ append_assoc old.arcs (map longer (range_with_len from (at - from))) (longer at ∷ [])
              ∙ ap (λ (xs : List (List PathArc)). old.arcs ++ xs) (sym (map-range_with_len_more longer from (at - from) at (omega arith)))
              ∙ ap (λ (n : ℕ). old.arcs ++ map longer (range_with_len from n)) (sym one);
          many = (let k = behind.many in let p : length new.nodes ≡ length mid.nodes + 1 = ap (λ (xs : List LaneNode). length xs) new_nodes ∙ length_push mid.nodes (extended before_is at last low high) in omega arith);
          kept = λ lane node has. subst (λ (xs : List LaneNode). slice_get xs lane ≡ Some node) (sym new_nodes) (slice_get_append mid.nodes (extended before_is at last low high ∷ []) node lane (behind.kept lane node has));
          each = λ lane node has. new_each lane node (slice_get_push mid.nodes (extended before_is at last low high) node lane (subst (λ (xs : List LaneNode). slice_get xs lane ≡ Some node) new_nodes has));
        }

-- the same, where the parent is named by an equal number
pub behind_next : (old : Grove) (from : ℕ) (last : PathArc) (low high : ℤ) (mid new : Grove) (at parent : ℕ) → parent ≡ at → AreBehind old mid from at last low high → from ≤ at → at < length old.nodes → length old.arcs ≡ length old.nodes →
    ((node : LaneNode) → slice_get mid.nodes parent ≡ Some node → new.nodes ≡ mid.nodes ++ extended node parent last low high ∷ []) → new.arcs ≡ mid.arcs ++ (arcs_at mid.arcs parent ++ last ∷ []) ∷ [] → AreBehind old new from (at + 1) last low high
behind_next old from last low high mid new at parent same behind l inside even nodes arcs =
    behind_more old from last low high mid new at behind l inside even
    (subst (λ (p : ℕ). (node : LaneNode) → slice_get mid.nodes p ≡ Some node → new.nodes ≡ mid.nodes ++ extended node p last low high ∷ []) same nodes)
    (subst (λ (p : ℕ). new.arcs ≡ mid.arcs ++ (arcs_at mid.arcs p ++ last ∷ []) ∷ []) same arcs) (rooted last low high)

-- the gates beside
pub gates_none : (old : Grove) (from : ℕ) (last : PathArc) (gated : Bool) → AreGatesBehind old old from from last gated
gates_none old from last gated =
    let none : from - from ≡ 0 = omega arith in
    sym (append-nil old.gates) ∙ ap (λ (n : ℕ). old.gates ++ map (λ lane. gate_after gated last (gate_in old.gates lane)) (range_with_len from n)) (sym none)

pub gates_next : (old : Grove) (from : ℕ) (last : PathArc) (gated : Bool) (mid new : Grove) (at parent : ℕ) → parent ≡ at → AreGatesBehind old mid from at last gated → from ≤ at → at < length old.gates →
    new.gates ≡ mid.gates ++ gate_after gated last (gate_in mid.gates parent) ∷ [] → AreGatesBehind old new from (at + 1) last gated
gates_next old from last gated mid new at parent same behind l inside gates =
    let one : at + 1 - from ≡ (at - from) + 1 = omega arith in
    let after : ℕ → Option PassedGate = λ lane. gate_after gated last (gate_in old.gates lane) in
    let here : gate_in mid.gates parent ≡ gate_in old.gates at = ap (λ (p : ℕ). gate_in mid.gates p) same ∙ ap (λ (xs : List (Option PassedGate)). gate_in xs at) behind ∙ get_or_append_left old.gates (map after (range_with_len from (at - from))) None at inside in
    gates ∙ ap (λ (xs : List (Option PassedGate)). xs ++ gate_after gated last (gate_in mid.gates parent) ∷ []) behind
    ∙ ap (λ (gate : Option PassedGate). (old.gates ++ map after (range_with_len from (at - from))) ++ gate_after gated last gate ∷ []) here
    ∙ append_assoc old.gates (map after (range_with_len from (at - from))) (after at ∷ [])
    ∙ ap (λ (xs : List (Option PassedGate)). old.gates ++ xs) (sym (map-range_with_len_more after from (at - from) at (omega arith)))
    ∙ ap (λ (n : ℕ). old.gates ++ map after (range_with_len from n)) (sym one)
