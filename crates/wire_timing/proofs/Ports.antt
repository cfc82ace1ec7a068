-- The outputs in the order of their pins, and the pins at which no window offence can be.
use Rattle.std.proofs.Common.{◌≡◌, ℕ, zero, suc, ◌+◌, ◌<◌, ◌≤◌, Bool, true, false, cond, List, [], ◌∷◌, ◌++◌, length, get_or, take, map, refl, sym, ap, ◌∙◌, subst, arith, inl, inr}
use Rattle.std.proofs.lemmas.List.{take_all, map-append}
use Rattle.std.proofs.lemmas.List.Elements.{All-push}
use Rattle.std.proofs.lemmas.Bool.{cases_eq}
use Rattle.std.proofs.lemmas.Option.{slice_get-get_or, slice_get_within}
use Rattle.std.specs.Prelude.{slice_get, Some}
use Rattle.std.specs.List.{All, flat_map, enumerate_from, range_with_len}
use Rattle.rsfq_ids.specs.declared.circuit.PortBit.{PortBit}
use Rattle.rsfq_ids.specs.declared.circuit.Pin.{Pin}
use Rattle.rsfq_ids.specs.declared.circuit.Reader.{Reader}
use Rattle.rsfq_ids.specs.declared.circuit.Reader.TheVariants as reader
use Rattle.rsfq_ids.specs.declared.offence.Against.{Against}
use Rattle.rsfq_ids.specs.declared.offence.Against.TheVariants as against
use Rattle.rsfq_ids.specs.declared.offence.Offence.TheVariants as offence
use Rattle.rsfq_ids.specs.declared.offence.RuleFault.{RuleFault}
use Rattle.rsfq_ids.specs.declared.offence.RuleFault.TheVariants as rule_fault
use Rattle.rsfq_ids.specs.Design.{Design}
use Rattle.rsfq_ids.specs.Time.{IsInZone}
use Rattle.rsfq_ids.specs.Path.{pick_time}
use Rattle.rsfq_ids.specs.Offence.{IsHeldAgainst, HasNoWindow}
use Rattle.rsfq_ids.specs.Ready.{IsSetUp}
use Rattle.wire_timing.specs.declared.WireDepth.{WireDepth}
use Rattle.wire_timing.specs.Wires.{HasOnlyJtls, IsWireDepth, outputs_of}
use Rattle.wire_timing.specs.Window.{HasNoWindowAt, IsFirstAt, IsWindowFault, IsPinFault}
use Rattle.wire_timing.proofs.Shape.{readers_are}
use Rattle.wire_timing.proofs.Routes.{no_gate}

-- the output bits among readers
abbrev pub outputs_among : List Reader → List ℕ
outputs_among [] = []
outputs_among (reader.Pin cell at ∷ readers) = outputs_among readers
outputs_among (reader.Port port ∷ readers) = port ∷ outputs_among readers

outputs-append : (xs ys : List Reader) → outputs_among (xs ++ ys) ≡ outputs_among xs ++ outputs_among ys
outputs-append [] ys = refl
outputs-append (reader.Pin cell at ∷ xs) ys = outputs-append xs ys
outputs-append (reader.Port port ∷ xs) ys = ap (λ (zs : List ℕ). port ∷ zs) (outputs-append xs ys)

outputs_of_cells : (start count : ℕ) → outputs_among (map (λ (n : ℕ). reader.Pin n 0) (range_with_len start count)) ≡ []
outputs_of_cells start zero = refl
outputs_of_cells start (suc count) = outputs_of_cells (start + 1) count

outputs_of_ports : (start : ℕ) (ports : List PortBit) →
    outputs_among (flat_map (λ (n, port). cond port.output (reader.Port n ∷ []) []) (enumerate_from start ports)) ≡ flat_map (λ (n, port). cond port.output (n ∷ []) []) (enumerate_from start ports)
outputs_of_ports start [] = refl
outputs_of_ports start (port ∷ ports) = go port.output (flat_map (λ (n, port). cond port.output (reader.Port n ∷ []) []) (enumerate_from (start + 1) ports)) (flat_map (λ (n, port). cond port.output (n ∷ []) []) (enumerate_from (start + 1) ports)) (outputs_of_ports (start + 1) ports)
  where
    go : (b : Bool) (xs : List Reader) (ys : List ℕ) → outputs_among xs ≡ ys → outputs_among (cond b (reader.Port start ∷ []) [] ++ xs) ≡ cond b (start ∷ []) [] ++ ys
    go true xs ys e = ap (λ (zs : List ℕ). start ∷ zs) e
    go false xs ys e = e

-- the readers of pins
abbrev pub readers : List Pin → List Reader
readers pins = map (λ pin. pin.reader) pins

pub outputs_more_port : (pins : List Pin) (i port : ℕ) (d : Pin) → i < length pins → (get_or pins i d).reader ≡ reader.Port port → outputs_among (readers (take (i + 1) pins)) ≡ outputs_among (readers (take i pins)) ++ port ∷ []
outputs_more_port [] i port d l is = absurd (omega arith)
outputs_more_port (p ∷ pins) zero port d l is = go p.reader is
  where
    go : (r : Reader) → r ≡ reader.Port port → outputs_among (r ∷ []) ≡ port ∷ []
    go r e = ap (λ (x : Reader). outputs_among (x ∷ [])) e
outputs_more_port (p ∷ pins) (suc i) port d l is =
    let e : suc i + 1 ≡ suc (i + 1) = omega arith in
    ap (λ (k : ℕ). outputs_among (readers (take k (p ∷ pins)))) e ∙ go p.reader (readers (take (i + 1) pins)) (readers (take i pins)) (outputs_more_port pins i port d (omega arith) is)
  where
    go : (r : Reader) (xs ys : List Reader) → outputs_among xs ≡ outputs_among ys ++ port ∷ [] → outputs_among (r ∷ xs) ≡ outputs_among (r ∷ ys) ++ port ∷ []
    go (reader.Pin cell at) xs ys e = e
    go (reader.Port other) xs ys e = ap (λ (zs : List ℕ). other ∷ zs) e

pub outputs_more_pin : (pins : List Pin) (i cell at : ℕ) (d : Pin) → i < length pins → (get_or pins i d).reader ≡ reader.Pin cell at → outputs_among (readers (take (i + 1) pins)) ≡ outputs_among (readers (take i pins))
outputs_more_pin [] i cell at d l is = absurd (omega arith)
outputs_more_pin (p ∷ pins) zero cell at d l is = ap (λ (x : Reader). outputs_among (x ∷ [])) is
outputs_more_pin (p ∷ pins) (suc i) cell at d l is =
    let e : suc i + 1 ≡ suc (i + 1) = omega arith in
    ap (λ (k : ℕ). outputs_among (readers (take k (p ∷ pins)))) e ∙ go p.reader (readers (take (i + 1) pins)) (readers (take i pins)) (outputs_more_pin pins i cell at d (omega arith) is)
  where
    go : (r : Reader) (xs ys : List Reader) → outputs_among xs ≡ outputs_among ys → outputs_among (r ∷ xs) ≡ outputs_among (r ∷ ys)
    go (reader.Pin cell at) xs ys e = e
    go (reader.Port other) xs ys e = ap (λ (zs : List ℕ). other ∷ zs) e

-- the outputs among so many pins have been timed
pub record IsTimed (design : Design) (i : ℕ) (depths : List WireDepth) : Type 0 where
  pub no_window : (pin : ℕ) → pin < i → HasNoWindowAt design pin
  pub outputs : map (λ (found : WireDepth). found.output) depths ≡ outputs_among (readers (take i design.flat.pins))
  pub each : All (IsWireDepth design) depths

module _ (design : Design) (set_up : IsSetUp design) (jtls : HasOnlyJtls design) where
  pub outputs_all : outputs_among (readers design.flat.pins) ≡ outputs_of design.flat
  outputs_all = ap outputs_among (readers_are design set_up jtls) ∙ outputs-append (map (λ (n : ℕ). reader.Pin n 0) (range_with_len 0 (length design.flat.cells))) _
      ∙ ap (λ (xs : List ℕ). xs ++ outputs_among (flat_map (λ (n, port). cond port.output (reader.Port n ∷ []) []) (enumerate_from 0 design.flat.ports))) (outputs_of_cells 0 (length design.flat.cells)) ∙ outputs_of_ports 0 design.flat.ports

  -- no window offence is at a pin of a cell, as no cell is a gate
  pub no_window_at_cell : (pin cell at : ℕ) (end : Pin) → slice_get design.flat.pins pin ≡ Some end → end.reader ≡ reader.Pin cell at → HasNoWindowAt design pin
  no_window_at_cell pin cell at end is who pulse held shown =
      let (other, ends, by) = shown.against in
      let e : Some other ≡ Some end = sym ends ∙ is in
      let f : other ≡ end = cc in
      go held (subst (λ (r : Reader). IsHeldAgainst design r pulse held (λ setup hold number time. IsInZone setup hold time (pick_time design.bench pulse))) (ap (λ (p : Pin). p.reader) f ∙ who) by)
    where
      go : (held : Against) → IsHeldAgainst design (reader.Pin cell at) pulse held (λ setup hold number time. IsInZone setup hold time (pick_time design.bench pulse)) → ⊥
      go (against.Strobe n) by = absurd by
      go (against.Clock clock) by = let e : true ≡ false = sym by.3 ∙ no_gate design set_up jtls cell by.0 by.2 in cc

  pub no_window_past : (n : ℕ) → length design.flat.pins ≤ n → ((pin : ℕ) → pin < n → HasNoWindowAt design pin) → HasNoWindow design
  no_window_past n past none pin pulse held shown =
      let (end, ends, by) = shown.against in
      let within = slice_get_within design.flat.pins pin end ends in none pin (omega arith) pulse held shown

  -- the first offence at a pin is the first of all, where no pin before has one
  pub first_of_all : (at : ℕ) (fault : RuleFault) → ((before : ℕ) → before < at → HasNoWindowAt design before) → IsPinFault design at fault → IsWindowFault design fault
  first_of_all at (rule_fault.Offends (offence.Window pin pulse (against.Strobe n))) none (same, first) =
      record { earlier = subst (λ (p : ℕ). (before : ℕ) → before < p → HasNoWindowAt design before) (sym same) none; here = subst (λ (p : ℕ). IsFirstAt design p pulse n) (sym same) first }
  first_of_all at (rule_fault.Offends other) none fault = absurd fault
  first_of_all at rule_fault.Memory none fault = tt

  one_more : (i : ℕ) → ((pin : ℕ) → pin < i → HasNoWindowAt design pin) → HasNoWindowAt design i → (pin : ℕ) → pin < i + 1 → HasNoWindowAt design pin
  one_more i none here pin l = elim (cases_eq pin i) [ inl same ↦ subst (λ (p : ℕ). HasNoWindowAt design p) (sym same) here | inr other ↦ none pin (omega arith) ]

  pub time_output_next : (i port at : ℕ) (end : Pin) (pins : List Pin) (depths made : List WireDepth) (found : WireDepth) → IsTimed design i depths → pins ≡ design.flat.pins → i < length pins → end ≡ get_or pins i end → end.reader ≡ reader.Port port → at ≡ i →
      HasNoWindowAt design at → found.output ≡ port → IsWireDepth design found → made ≡ depths ++ found ∷ [] → IsTimed design (i + 1) made
  time_output_next i port at end pins depths made found timed all l is who same none output depth pushed =
      let within : i < length design.flat.pins = (let e = ap length all in omega arith) in
      let is' : end ≡ get_or design.flat.pins i end = is ∙ ap (λ (ps : List Pin). get_or ps i end) all in
      let more = outputs_more_port design.flat.pins i port end within (ap (λ (p : Pin). p.reader) (sym is') ∙ who) in
      record {
        no_window = one_more i timed.no_window (subst (λ (p : ℕ). HasNoWindowAt design p) same none);
        outputs = ap (map (λ (found : WireDepth). found.output)) pushed ∙ map-append (λ (found : WireDepth). found.output) depths (found ∷ []) ∙ ap (λ (x : ℕ). map (λ (found : WireDepth). found.output) depths ++ x ∷ []) output
            ∙ ap (λ (xs : List ℕ). xs ++ port ∷ []) timed.outputs ∙ sym more;
        each = subst (λ (ds : List WireDepth). All (IsWireDepth design) ds) (sym pushed) (All-push (IsWireDepth design) depths found timed.each depth);
      }

  pub time_cell_next : (i cell at : ℕ) (end : Pin) (pins : List Pin) (depths : List WireDepth) → IsTimed design i depths → pins ≡ design.flat.pins → i < length pins → end ≡ get_or pins i end → end.reader ≡ reader.Pin cell at → IsTimed design (i + 1) depths
  time_cell_next i cell at end pins depths timed all l is who =
      let within : i < length design.flat.pins = (let e = ap length all in omega arith) in
      let is' : end ≡ get_or design.flat.pins i end = is ∙ ap (λ (ps : List Pin). get_or ps i end) all in
      let here : slice_get design.flat.pins i ≡ Some end = slice_get-get_or design.flat.pins i end within ∙ ap (λ (p : Pin). Some p) (sym is') in
      record {
        no_window = one_more i timed.no_window (no_window_at_cell i cell at end here who);
        outputs = timed.outputs ∙ sym (outputs_more_pin design.flat.pins i cell at end within (ap (λ (p : Pin). p.reader) (sym is') ∙ who));
        each = timed.each;
      }

  pub timed_all : (i : ℕ) (depths : List WireDepth) → length design.flat.pins ≤ i → IsTimed design i depths → map (λ (found : WireDepth). found.output) depths ≡ outputs_of design.flat
  timed_all i depths past timed = timed.outputs ∙ ap (λ (ps : List Pin). outputs_among (readers ps)) (take_all i design.flat.pins past) ∙ outputs_all
