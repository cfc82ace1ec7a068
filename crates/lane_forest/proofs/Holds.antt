-- What the fields of a forest hold.
use Rattle.std.proofs.Common.{◌≡◌, ℕ, zero, suc, ◌+◌, ◌-◌, ◌<◌, ◌^◌, List, [], ◌∷◌, ◌++◌, map, length, get_or, refl, sym, ap, ◌∙◌, subst, arith}
use Rattle.std.proofs.lemmas.List.{map_push, length_push, length-map, get_or-map}
use Rattle.std.proofs.lemmas.Option.{slice_get_read, slice_get_within}
use Rattle.std.specs.Prelude.{Some, None, slice_get}
use Rattle.rsfq_ids.specs.declared.offence.PathArc.{PathArc}
use Rattle.lane_forest.specs.declared.node.LaneNode.{LaneNode}
use Rattle.lane_forest.specs.declared.forest.Stored.{Stored}
use Rattle.lane_forest.specs.declared.forest.Forest.TheInside.{Inside}
use Rattle.lane_forest.specs.Gates.{gate_in}
use Rattle.lane_forest.specs.Forest.{Grove, AreAllLanes, IsStoredLane, IsAncestor, with_lane}
use Rattle.lane_forest.specs.Held.{arcs_behind, grove_of, AreStored, IsForest}
use Rattle.lane_forest.proofs.Grows.{arcs_behind_push, length-arcs_behind, stored_push}

found_node : (stored : List Stored) (lane : ℕ) (node : LaneNode) → lane < length stored → slice_get (map (λ (s : Stored). s.node) stored) lane ≡ Some node → (s : Stored) × (slice_get stored lane ≡ Some s) × (s.node ≡ node)
found_node [] lane node l has = cc
found_node (s ∷ stored) zero node l has = (s, refl, cc)
found_node (s ∷ stored) (suc lane) node l has = found_node stored lane node (omega arith) has

module _ (a : Inside) (g : Grove) (is : grove_of a ≡ g) where
  pub nodes_many : length a.stored.items ≡ length g.nodes
  nodes_many = sym (length-map a.stored.items (λ (s : Stored). s.node)) ∙ ap (λ (v : Grove). length v.nodes) is

  pub arcs_many : length a.stored.items ≡ length g.arcs
  arcs_many = let e = length-arcs_behind [] a.stored.items in let f : length (arcs_behind [] a.stored.items) ≡ length g.arcs = ap (λ (v : Grove). length v.arcs) is in omega arith

  pub gate_at : (lane place : ℕ) (s : Stored) → place ≡ lane → lane < length g.nodes → s ≡ get_or a.stored.items place s → s.gate ≡ gate_in g.gates lane
  gate_at lane place s at l read =
      let n = nodes_many in
      ap (λ (t : Stored). t.gate) (read ∙ ap (λ (k : ℕ). get_or a.stored.items k s) at) ∙ sym (get_or-map (λ (t : Stored). t.gate) a.stored.items lane s None (omega arith)) ∙ ap (λ (v : Grove). gate_in v.gates lane) is

  module _ (forest : IsForest a) where
    pub stored_at : (lane place : ℕ) (s : Stored) → place ≡ lane → lane < length g.nodes → s ≡ get_or a.stored.items place s → slice_get a.stored.items lane ≡ Some s
    stored_at lane place s at l read =
        subst (λ (k : ℕ). slice_get a.stored.items k ≡ Some s) at (slice_get_read a.stored.items (length a.stored.items) place s refl (let n = nodes_many in omega arith) read)

    pub lane_at : (lane place : ℕ) (s : Stored) → place ≡ lane → lane < length g.nodes → s ≡ get_or a.stored.items place s → IsStoredLane g.arcs lane s.node
    lane_at lane place s at l read = subst (λ (v : Grove). IsStoredLane v.arcs lane s.node) is (forest.stored_are.lanes lane s (stored_at lane place s at l read))

    pub jump_at : (lane place : ℕ) (s : Stored) → place ≡ lane → lane < length g.nodes → s ≡ get_or a.stored.items place s → IsAncestor g.arcs lane s.jump
    jump_at lane place s at l read = subst (λ (v : Grove). IsAncestor v.arcs lane s.jump) is (forest.stored_are.jumps lane s (stored_at lane place s at l read))

    pub all_at : AreAllLanes g
    all_at lane node has =
        let here : slice_get (map (λ (s : Stored). s.node) a.stored.items) lane ≡ Some node = subst (λ (ns : List LaneNode). slice_get ns lane ≡ Some node) (sym (ap (λ (v : Grove). v.nodes) is)) has in
        let inside : lane < length a.stored.items = (let l = slice_get_within g.nodes lane node has in let m = nodes_many in omega arith) in
        let found = found_node a.stored.items lane node inside here in
        subst (λ (n : LaneNode). IsStoredLane g.arcs lane n) found.2 (subst (λ (v : Grove). IsStoredLane v.arcs lane found.0.node) is (forest.stored_are.lanes lane found.0 found.1))

    -- with one lane more
    module _ (b : Inside) (s : Stored) (more : b.stored.items ≡ a.stored.items ++ s ∷ []) where
      pub pushed_nodes : map (λ (t : Stored). t.node) b.stored.items ≡ g.nodes ++ s.node ∷ []
      pushed_nodes = ap (λ (ts : List Stored). map (λ (t : Stored). t.node) ts) more ∙ map_push (λ (t : Stored). t.node) a.stored.items s ∙ ap (λ (v : Grove). v.nodes ++ s.node ∷ []) is

      pub pushed_gates : map (λ (t : Stored). t.gate) b.stored.items ≡ g.gates ++ s.gate ∷ []
      pushed_gates = ap (λ (ts : List Stored). map (λ (t : Stored). t.gate) ts) more ∙ map_push (λ (t : Stored). t.gate) a.stored.items s ∙ ap (λ (v : Grove). v.gates ++ s.gate ∷ []) is

      pub pushed_arcs : arcs_behind [] b.stored.items ≡ with_lane g.arcs s.node
      pushed_arcs = ap (λ (ts : List Stored). arcs_behind [] ts) more ∙ arcs_behind_push [] a.stored.items s ∙ ap (λ (v : Grove). with_lane v.arcs s.node) is

      pub pushed_is : length g.nodes < 2 ^ 32 - 1 → IsStoredLane (with_lane g.arcs s.node) (length g.nodes) s.node → IsAncestor (with_lane g.arcs s.node) (length g.nodes) s.jump → IsForest b
      pushed_is few lane jump =
          let n = nodes_many in
          let whole : with_lane g.arcs s.node ≡ arcs_behind [] (a.stored.items ++ s ∷ []) = sym pushed_arcs ∙ ap (λ (ts : List Stored). arcs_behind [] ts) more in
          let lane' = subst (λ (k : ℕ). IsStoredLane (arcs_behind [] (a.stored.items ++ s ∷ [])) k s.node) (sym n) (subst (λ (all : List (List PathArc)). IsStoredLane all (length g.nodes) s.node) whole lane) in
          let jump' = subst (λ (k : ℕ). IsAncestor (arcs_behind [] (a.stored.items ++ s ∷ [])) k s.jump) (sym n) (subst (λ (all : List (List PathArc)). IsAncestor all (length g.nodes) s.jump) whole jump) in
          record {
            few = (let l : length b.stored.items ≡ length a.stored.items + 1 = ap (λ (ts : List Stored). length ts) more ∙ length_push a.stored.items s in omega arith);
            stored_are = subst (λ (ts : List Stored). AreStored (arcs_behind [] ts) ts) (sym more) (stored_push a.stored.items s forest.stored_are lane' jump');
          }
