-- The gates that lanes pass, as they are found along their arcs.
use Rattle.std.proofs.Common.{◌≡◌, ℕ, ◌+◌, ◌-◌, ◌<◌, ◌≤◌, Bool, true, false, cond, List, [], ◌∷◌, ◌++◌, map, length, refl, sym, ap, ◌∙◌, subst, arith}
use Rattle.std.proofs.lemmas.List.{append-nil, append_assoc, get_or-map, map-append, map_push}
use Rattle.std.proofs.lemmas.List.Elements.{Contains-push, Contains-append_left}
use Rattle.std.proofs.lemmas.List.Sums.{sum_by_push}
use Rattle.std.specs.Prelude.{Option, Some, None}
use Rattle.std.specs.Option.{option_map_or}
use Rattle.std.specs.List.{count_by, range_with_len}
use Rattle.rsfq_ids.specs.declared.table.CellRow.{CellRow}
use Rattle.rsfq_ids.specs.declared.offence.PathArc.{PathArc}
use Rattle.rsfq_ids.specs.declared.offence.PathArc.TheVariants as arc
use Rattle.rsfq_ids.specs.Design.{Design}
use Rattle.rsfq_ids.specs.Circuit.{row_of, IsOf, is_gate}
use Rattle.rsfq_ids.specs.Path.{passes}
use Rattle.lane_forest.specs.declared.node.PassedGate.{PassedGate}
use Rattle.lane_forest.specs.Gates.{IsGateOf, gate_in, gate_after, gate_along}
use Rattle.lane_forest.specs.Forest.{Grove, arcs_at, AreGatesBehind}
use Rattle.lane_forest.specs.Growth.{AreGatesAlong}
use Rattle.lane_forest.proofs.Lists.{map_agree, map_twice}

module _ (design : Design) where
  pub gate_along_push : (before : Option PassedGate) (arcs : List PathArc) (a : PathArc) → gate_along design before (arcs ++ a ∷ []) ≡ gate_after (passes is_gate design a) a (gate_along design before arcs)
  gate_along_push before [] a = refl
  gate_along_push before (b ∷ arcs) a = gate_along_push (gate_after (passes is_gate design b) b before) arcs a

  -- whether an arc goes through a gate
  pub passes_row : (cell pin out : ℕ) (row : CellRow) → IsOf design cell row → passes is_gate design (arc.Through cell pin out) ≡ is_gate row.kind
  passes_row cell pin out row of = ap (λ o. option_map_or (λ (r : CellRow). is_gate r.kind) o false) of

  gate_row : (o : Option CellRow) → option_map_or (λ (r : CellRow). is_gate r.kind) o false ≡ true → (row : CellRow) × (o ≡ Some row) × (is_gate row.kind ≡ true)
  gate_row None e = cc
  gate_row (Some row) e = (row, refl, e)

  -- with one arc more
  gate_last : (b : Bool) (arcs : List PathArc) (a : PathArc) (before : Option PassedGate) → passes is_gate design a ≡ b → IsGateOf design arcs before → IsGateOf design (arcs ++ a ∷ []) (gate_after b a before)
  gate_last true arcs (arc.Port port) before e is = cc
  gate_last true arcs (arc.Through cell pin out) before e is = (Contains-push arcs (arc.Through cell pin out), gate_row (row_of design cell) e)
  gate_last false arcs a None e is = sum_by_push (λ x. cond (passes is_gate design x) 1 0) arcs a ∙ ap (λ (b : Bool). count_by (passes is_gate design) arcs + cond b 1 0) e ∙ ap (λ (n : ℕ). n + 0) is
  gate_last false arcs a (Some gate) e is = (Contains-append_left arcs (a ∷ []) (arc.Through gate.cell gate.pin gate.out) is.0, is.1)

  gate_further : (before : List PathArc) (gate : Option PassedGate) (arcs : List PathArc) → IsGateOf design before gate → IsGateOf design (before ++ arcs) (gate_along design gate arcs)
  gate_further before gate [] is = subst (λ (xs : List PathArc). IsGateOf design xs gate) (sym (append-nil before)) is
  gate_further before gate (a ∷ arcs) is =
      subst (λ (xs : List PathArc). IsGateOf design xs (gate_along design (gate_after (passes is_gate design a) a gate) arcs)) (append_assoc before (a ∷ []) arcs)
      (gate_further (before ++ a ∷ []) (gate_after (passes is_gate design a) a gate) arcs (gate_last (passes is_gate design a) before a gate refl is))

  -- the gate that is kept of a lane is that of its arcs
  pub gate_is : (grove : Grove) (lane : ℕ) → AreGatesAlong design grove → lane < length grove.arcs → IsGateOf design (arcs_at grove.arcs lane) (gate_in grove.gates lane)
  gate_is grove lane along l =
      let e : gate_in grove.gates lane ≡ gate_along design None (arcs_at grove.arcs lane) = ap (λ (gates : List (Option PassedGate)). gate_in gates lane) along ∙ get_or-map (gate_along design None) grove.arcs lane [] None l in
      subst (λ (gate : Option PassedGate). IsGateOf design (arcs_at grove.arcs lane) gate) (sym e) (gate_further [] None (arcs_at grove.arcs lane) refl)

  -- a lane from a port
  pub gates_planted : (old new : Grove) (port : ℕ) → AreGatesAlong design old → new.gates ≡ old.gates ++ None ∷ [] → new.arcs ≡ old.arcs ++ (arc.Port port ∷ []) ∷ [] → AreGatesAlong design new
  gates_planted old new port along gates arcs =
      gates ∙ ap (λ (xs : List (Option PassedGate)). xs ++ None ∷ []) along ∙ sym (map_push (gate_along design None) old.arcs (arc.Port port ∷ [])) ∙ ap (λ (xs : List (List PathArc)). map (gate_along design None) xs) (sym arcs)

  -- lanes behind those of a pin
  pub gates_behind : (old new : Grove) (from to : ℕ) (last : PathArc) (gated : Bool) → AreGatesAlong design old → passes is_gate design last ≡ gated → to ≤ length old.arcs → new.arcs ≡ old.arcs ++ map (λ lane. arcs_at old.arcs lane ++ last ∷ []) (range_with_len from (to - from)) →
      AreGatesBehind old new from to last gated → AreGatesAlong design new
  gates_behind old new from to last gated along same inside arcs gates =
      let here : (k : ℕ) → k < length old.arcs → gate_after gated last (gate_in old.gates k) ≡ gate_along design None (arcs_at old.arcs k ++ last ∷ []) = λ k l.
      ap (λ (xs : List (Option PassedGate)). gate_after gated last (gate_in xs k)) along ∙ ap (λ (gate : Option PassedGate). gate_after gated last gate) (get_or-map (gate_along design None) old.arcs k [] None l)
      ∙ ap (λ (b : Bool). gate_after b last (gate_along design None (arcs_at old.arcs k))) (sym same) ∙ sym (gate_along_push None (arcs_at old.arcs k) last) in
      gates ∙ ap (λ (xs : List (Option PassedGate)). xs ++ map (λ lane. gate_after gated last (gate_in old.gates lane)) (range_with_len from (to - from))) along
      ∙ ap (λ (xs : List (Option PassedGate)). map (gate_along design None) old.arcs ++ xs)
      (map_agree (λ lane. gate_after gated last (gate_in old.gates lane)) (λ lane. gate_along design None (arcs_at old.arcs lane ++ last ∷ [])) from (to - from) (λ k l m. here k (omega arith))
      ∙ sym (map_twice (λ lane. arcs_at old.arcs lane ++ last ∷ []) (gate_along design None) (range_with_len from (to - from))))
      ∙ sym (map-append (gate_along design None) old.arcs (map (λ lane. arcs_at old.arcs lane ++ last ∷ []) (range_with_len from (to - from)))) ∙ ap (λ (xs : List (List PathArc)). map (gate_along design None) xs) (sym arcs)
