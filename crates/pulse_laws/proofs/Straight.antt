-- Along JTLs and splitters a pulse keeps its place in the list.
use Rattle.std.proofs.Common.{not, ◌≡◌, ℕ, zero, suc, ◌+◌, Bool, true, false, cond, ℤ, List, [], ◌∷◌, length, refl, sym, ap, ◌∙◌, subst, arith}
use Rattle.std.proofs.lemmas.List.Sums.{sum_by-cons}
use Rattle.std.proofs.lemmas.List.FromFn.{length-range_with_len}
use Rattle.std.specs.Option.{option_map_or}
use Rattle.std.specs.List.{count_by, range_with_len}
use Rattle.rsfq_ids.specs.declared.table.CellRow.{CellRow}
use Rattle.rsfq_ids.specs.declared.table.Kind.{Kind}
use Rattle.rsfq_ids.specs.declared.table.Kind.TheVariants as kind
use Rattle.rsfq_ids.specs.declared.circuit.Reader.TheVariants as reader
use Rattle.rsfq_ids.specs.declared.offence.PathArc.{PathArc}
use Rattle.rsfq_ids.specs.declared.offence.PathArc.TheVariants as arc
use Rattle.rsfq_ids.specs.Circuit.{is_copying, IsOf, Reads, is_gate}
use Rattle.rsfq_ids.specs.Path.{passes}
use Rattle.rsfq_ids.specs.WellFormed.{FitsKind}
use Rattle.pulse_laws.proofs.Zips.{zip_length}
use Rattle.rsfq_ids.specs.Design.{Design}
use Rattle.pulse_laws.specs.Flows.{Causes, GoesOn, Flows}

-- a cell that does not copy: a merger or a gate
abbrev pub no_copy : Kind → Bool
no_copy k = not (is_copying k)

-- a cell that copies is no gate and has one input
pub one_input : (k : Kind) (row : CellRow) → FitsKind k row → no_copy k ≡ false → (is_gate k ≡ false) × (length row.inputs ≡ 1)
one_input kind.Jtl row fits alone = (refl, fits.0)
one_input kind.Split row fits alone = (refl, fits.0)
one_input kind.Merge row fits alone = cc
one_input kind.Gate row fits alone = cc

keeps_place : (pulses : List (List ℤ)) (row : CellRow) (nets : List ℕ) (pin out net j i : ℕ) → length nets ≡ 1 → Causes false pulses row nets pin out net j i → j ≡ i
keeps_place pulses row [] pin out net j i one causes = absurd (omega arith)
keeps_place pulses row (m ∷ nets) zero out net j i one causes = omega (arith, causes.2)
keeps_place pulses row (m ∷ nets) (suc pin) out net j i one causes = let l = causes.0 in absurd (omega arith)

module _ (design : Design) (pulses : List (List ℤ)) (fits : (cell : ℕ) (row : CellRow) → IsOf design cell row → FitsKind row.kind row) where
  goes_straight : (a : PathArc) (net j next i : ℕ) → GoesOn design pulses a net j next i → passes no_copy design a ≡ false → j ≡ i
  goes_straight (arc.Port port) net j next i on alone = absurd on
  goes_straight (arc.Through cell pin out) net j next i (row, nets, of, inputs, passed, reads, driven, causes) alone =
      let joins : no_copy row.kind ≡ false = sym (ap (λ o. option_map_or (λ (r : CellRow). no_copy r.kind) o false) of) ∙ alone in
      let shape = one_input row.kind row (fits cell row of) joins in
      let count : length (range_with_len 0 (length row.inputs)) ≡ length nets = zip_length (λ p net. Reads design.flat (reader.Pin cell p) net) (range_with_len 0 (length row.inputs)) nets inputs in
      let pins : length (range_with_len 0 (length row.inputs)) ≡ length row.inputs = length-range_with_len 0 (length row.inputs) in
      keeps_place pulses row nets pin out net j i (omega (arith, shape.1)) (subst (λ b. Causes b pulses row nets pin out net j i) shape.0 causes)

  none_joins : (b : Bool) (count : ℕ) → cond b 1 0 + count ≡ 0 → (b ≡ false) × (count ≡ 0)
  none_joins true count e = absurd (omega arith)
  none_joins false count e = (refl, omega arith)

  pub flows_straight : (net j : ℕ) (arcs : List PathArc) (ds : List ℤ) (last k : ℕ) → Flows design pulses net j arcs ds last k → count_by (passes no_copy design) arcs ≡ 0 → j ≡ k
  flows_straight net j [] [] last k flow alone = flow.1
  flows_straight net j [] (d ∷ ds) last k flow alone = absurd flow
  flows_straight net j (a ∷ arcs) [] last k flow alone = absurd flow
  flows_straight net j (a ∷ arcs) (d ∷ ds) last k (next, i, on, time, rest) alone =
      let parts = none_joins (passes no_copy design a) (count_by (passes no_copy design) arcs) (sym (sum_by-cons (λ x. cond (passes no_copy design x) 1 0) a arcs) ∙ alone) in
      goes_straight a net j next i on parts.0 ∙ flows_straight next i arcs ds last k rest parts.1
