-- The filling values told by paths from gates.
use Rattle.std.proofs.Common.{◌≡◌, ℕ, zero, suc, ◌+◌, ◌-◌, ◌<◌, ◌≤◌, ◌↔◌, Bool, true, false, not, ◌&&◌, cond, pos, List, [], ◌∷◌, length, get_or, map, nat_lt, refl, sym, ap, ◌∙◌, subst, arith, inr}
use Rattle.std.proofs.lemmas.Bool.{false≢true}
use Rattle.std.proofs.lemmas.List.Sums.{sum_by-cons}
use Rattle.std.proofs.lemmas.List.Elements.{Contains-push, Contains-append_left}
use Rattle.std.specs.List.{AllZip, Contains, list_any}
use Rattle.rsfq_ids.specs.declared.table.CellRow.{CellRow}
use Rattle.rsfq_ids.specs.declared.circuit.Driver.{Driver}
use Rattle.rsfq_ids.specs.declared.circuit.Driver.TheVariants as driver
use Rattle.rsfq_ids.specs.declared.circuit.Reader.TheVariants as reader
use Rattle.rsfq_ids.specs.declared.offence.PathArc.{PathArc}
use Rattle.rsfq_ids.specs.declared.offence.PathArc.TheVariants as arc
use Rattle.rsfq_ids.specs.Circuit.{IsDrivenBy, IsPin, Reads, IsOf, InputNets, is_gate, clock_pin}
use Rattle.rsfq_ids.specs.Run.{truth_at}
use Rattle.rsfq_ids.specs.Path.{IsPassedFrom, ArcsLead, IsRoute, HasDepth, passes}
use Rattle.rsfq_ids.specs.Value.{value_of}
use Rattle.pulse_laws.proofs.Flows.{one_row}
use Rattle.pulse_laws.specs.Premises.{IsTimedBelow}
use Rattle.rsfq_ids.specs.Filling.{AreFilling, FillPath, IsFillBit}
use Rattle.pulse_laws.proofs.Lanes.{Lane, lane_path, lane_on, on_clock_pin, gates_in, count_first, passes_at}
use Rattle.pulse_laws.proofs.Depths.{height, lower, least, lane_at, input_count, input_net, gate_on, gate_depth, pins_of, gate_steps, sum_law, lead_rises}
use Rattle.pulse_laws.proofs.Pulses.{contains_counts}
use Rattle.pulse_laws.proofs.Spots.{bool_same, any_map, any_map_from}
use Rattle.pulse_laws.proofs.Fillings.{at_port, at_cell, at_gate, at_passive, in_time, and_at, is_covered}
use Rattle.rsfq_ids.specs.Design.{Design}
use Rattle.rsfq_ids.specs.Ready.{IsReady}
use Rattle.pulse_laws.specs.Values.{IsFillBelow}

none_at : (b : Bool) (count : ℕ) → cond b 1 0 + count ≡ 0 → (b ≡ false) × (count ≡ 0)
none_at true count e = absurd (omega arith)
none_at false count e = (refl, omega arith)

head_more : (b : Bool) (count sum : ℕ) → sum ≡ cond b 1 0 + count → b ≡ true → sum ≡ 1 + count
head_more true count sum e is = e
head_more false count sum e is = cc

tail_more : (b : Bool) (count sum : ℕ) → sum ≡ cond b 1 0 + count → count ≤ sum
tail_more true count sum e = omega arith
tail_more false count sum e = omega arith

not_early : (depth early : ℕ) (b : Bool) → (not (nat_lt depth early) && b) ≡ true → early ≤ depth
not_early depth early b is = grind arith

module _ (design : Design) where
  -- two gates on a path with at most one are one
  contains_one : (arcs : List PathArc) (k i : ℕ) (x y : PathArc) → k < length arcs → get_or arcs k x ≡ x → i < length arcs → get_or arcs i y ≡ y → passes is_gate design x ≡ true → passes is_gate design y ≡ true → gates_in design arcs ≤ 1 → x ≡ y
  contains_one [] k i x y l is m at one two few = absurd (omega arith)
  contains_one (a ∷ arcs) zero zero x y l is m at one two few = sym is ∙ at
  contains_one (a ∷ arcs) zero (suc i) x y l is m at one two few =
      let head = head_more (passes is_gate design a) (gates_in design arcs) (gates_in design (a ∷ arcs)) (sum_by-cons (λ z. cond (passes is_gate design z) 1 0) a arcs) (ap (λ (z : PathArc). passes is_gate design z) is ∙ one) in
      let tail = contains_counts design arcs i y (omega arith) at two in absurd (omega arith)
  contains_one (a ∷ arcs) (suc k) zero x y l is m at one two few =
      let head = head_more (passes is_gate design a) (gates_in design arcs) (gates_in design (a ∷ arcs)) (sum_by-cons (λ z. cond (passes is_gate design z) 1 0) a arcs) (ap (λ (z : PathArc). passes is_gate design z) at ∙ two) in
      let tail = contains_counts design arcs k x (omega arith) is one in absurd (omega arith)
  contains_one (a ∷ arcs) (suc k) (suc i) x y l is m at one two few =
      let tail = tail_more (passes is_gate design a) (gates_in design arcs) (gates_in design (a ∷ arcs)) (sum_by-cons (λ z. cond (passes is_gate design z) 1 0) a arcs) in
      contains_one arcs k i x y (omega arith) is (omega arith) at one two (omega arith)

module _ (design : Design) (rank : ℕ → ℕ) (ready : IsReady design rank) (top : ℕ) (timed : IsTimedBelow design rank top) (early : ℕ) (some_early : 0 < early) (values : List Bool) (are : AreFilling design (λ cell. nat_lt (rank cell) top) early values) where
  abbrev V : ℕ → Bool
  V net = value_of values net

  pub inputs_of : (net cell out : ℕ) (row : CellRow) → IsDrivenBy design.flat net (driver.Out cell out) → IsOf design cell row → (nets : List ℕ) × InputNets design.flat cell row nets × (is_gate row.kind ≡ true → (clock : ℕ) × Reads design.flat (reader.Pin cell (clock_pin row)) clock)
  inputs_of net cell out row is of =
      let c = ready.complete net (driver.Out cell out) is in
      let same : c.0 ≡ row = one_row design cell c.0 row c.2 of in
      subst (λ (r : CellRow). (nets : List ℕ) × InputNets design.flat cell r nets × (is_gate r.kind ≡ true → (clock : ℕ) × Reads design.flat (reader.Pin cell (clock_pin r)) clock)) same (c.1, c.3, c.4)

  passive_rule : (net cell out : ℕ) (row : CellRow) (nets : List ℕ) → IsDrivenBy design.flat net (driver.Out cell out) → IsOf design cell row → InputNets design.flat cell row nets → is_gate row.kind ≡ false → V net ≡ list_any (λ bit. bit) (map V nets)
  passive_rule net cell out row nets is of inputs passive = at_passive design rank ready (λ cell. nat_lt (rank cell) top) early values are net cell out row (map V nets) (is_gate row.kind) (nat_lt (rank cell) top) passive (at_cell design rank ready (λ cell. nat_lt (rank cell) top) early values are net cell out row nets is of inputs)

  pub gate_rule : (net cell out : ℕ) (row : CellRow) (nets : List ℕ) (depth : ℕ) → rank cell < top → IsDrivenBy design.flat net (driver.Out cell out) → IsOf design cell row → InputNets design.flat cell row nets → is_gate row.kind ≡ true → HasDepth design (reader.Pin cell 0) (pos depth) →
      V net ≡ (not (nat_lt depth early) && truth_at row out (map V nets))
  gate_rule net cell out row nets depth low is of inputs gate has = at_gate design rank ready (λ cell. nat_lt (rank cell) top) early values are net cell out row (map V nets) depth (is_gate row.kind) (nat_lt (rank cell) top) gate (is_covered (rank cell) top low) has (at_cell design rank ready (λ cell. nat_lt (rank cell) top) early values are net cell out row nets is of inputs)

  -- a 1 goes on through passive cells
  forward : (from : ℕ) (arcs : List PathArc) (last : ℕ) → ArcsLead design from arcs last → gates_in design arcs ≡ 0 → V from ≡ true → V last ≡ true
  forward from [] last lead none one = subst (λ (x : ℕ). V x ≡ true) lead one
  forward from (arc.Port port ∷ arcs) last (next, on, rest) none one = absurd on
  forward from (arc.Through cell pin out ∷ arcs) last (next, (row, of, passed, reads, driven), rest) none one =
      let parts = none_at (passes is_gate design (arc.Through cell pin out)) (gates_in design arcs) (sym (sum_by-cons (λ z. cond (passes is_gate design z) 1 0) (arc.Through cell pin out) arcs) ∙ none) in
      let passive : is_gate row.kind ≡ false = sym (passes_at design is_gate cell pin out row of) ∙ parts.0 in
      let input : pin < length row.inputs = subst (λ b. IsPassedFrom b row pin) passive passed in
      let nets = inputs_of next cell out row driven of in
      let same : from ≡ get_or nets.0 pin 0 = ready.numbered.one_read (reader.Pin cell pin) from (get_or nets.0 pin 0) reads (input_net design.flat cell row nets.0 nets.1 pin input) in
      let below : pin < length nets.0 = (let c = input_count design.flat cell row nets.0 nets.1 in omega arith) in
      forward next arcs last rest parts.1 (passive_rule next cell out row nets.0 driven of nets.1 passive ∙ any_map_from V nets.0 pin below (subst (λ (x : ℕ). V x ≡ true) same one))

  -- where the 1 of a net comes from
  record FillOrigin (net : ℕ) (d : Driver) : Type 0 where
    lane : Lane design net
    cell : ℕ
    pin : ℕ
    out : ℕ
    row : CellRow
    within : Contains lane.arcs (arc.Through cell pin out)
    of : IsOf design cell row
    gate : is_gate row.kind ≡ true
    source : ℕ
    driven : IsDrivenBy design.flat source (driver.Out cell out)
    one : V source ≡ true
    below : rank cell < height design rank d

  origin_cell : (net cell out : ℕ) (row : CellRow) (nets : List ℕ) (g : Bool) → is_gate row.kind ≡ g → IsDrivenBy design.flat net (driver.Out cell out) → IsOf design cell row → InputNets design.flat cell row nets →
      (is_gate row.kind ≡ true → (clock : ℕ) × Reads design.flat (reader.Pin cell (clock_pin row)) clock) → V net ≡ true →
      ((mid : ℕ) (d : Driver) → IsDrivenBy design.flat mid d → height design rank d < suc (rank cell) → V mid ≡ true → FillOrigin mid d) → FillOrigin net (driver.Out cell out)
  origin_cell net cell out row nets true gate is of inputs clocked one earlier =
      let (clock, reads) = clocked gate in
      let lane = lane_at design rank ready (reader.Pin cell (clock_pin row)) clock reads in
      let longer = lane_on design clock lane cell (clock_pin row) out net row of (row, of, subst (λ b. IsPassedFrom b row (clock_pin row)) (sym gate) refl, reads, is) row.low (least design rank ready row cell of) true gate
      (λ h. let clean = on_clock_pin design ready.one_clock ready.data_on_clock cell row clock of gate reads lane in (clean.1, clean.2)) in
      record {
        lane = longer.0;
        cell = cell;
        pin = clock_pin row;
        out = out;
        row = row;
        within = subst (λ (xs : List PathArc). Contains xs (arc.Through cell (clock_pin row) out)) (sym longer.1) (Contains-push lane.arcs (arc.Through cell (clock_pin row) out));
        of = of;
        gate = gate;
        source = net;
        driven = is;
        one = one;
        below = omega arith;
      }
  origin_cell net cell out row nets false passive is of inputs clocked one earlier =
      let found = any_map V nets (sym (passive_rule net cell out row nets is of inputs passive) ∙ one) in
      let input : found.0 < length row.inputs = (let c = input_count design.flat cell row nets inputs in let l = found.1 in omega arith) in
      let reads = input_net design.flat cell row nets inputs found.0 input in
      let d = ready.numbered.has_driver (reader.Pin cell found.0) (get_or nets found.0 0) reads in
      let less = lower design rank ready.ranked (suc (rank cell)) cell found.0 (get_or nets found.0 0) d.0 d.1 reads (omega arith) in
      let o = earlier (get_or nets found.0 0) d.0 d.1 less found.2 in
      let longer = lane_on design (get_or nets found.0 0) o.lane cell found.0 out net row of (row, of, subst (λ b. IsPassedFrom b row found.0) (sym passive) input, reads, is) row.low (least design rank ready row cell of) false passive (λ h. absurd (false≢true h)) in
      record {
        lane = longer.0;
        cell = o.cell;
        pin = o.pin;
        out = o.out;
        row = o.row;
        within = subst (λ (xs : List PathArc). Contains xs (arc.Through o.cell o.pin o.out)) (sym longer.1) (Contains-append_left o.lane.arcs (arc.Through cell found.0 out ∷ []) (arc.Through o.cell o.pin o.out) o.within);
        of = o.of;
        gate = o.gate;
        source = o.source;
        driven = o.driven;
        one = o.one;
        below = (let b = o.below in omega arith);
      }

  origin_up : (r net : ℕ) (d : Driver) → IsDrivenBy design.flat net d → height design rank d < r → V net ≡ true → FillOrigin net d
  origin_up zero net d is l one = absurd (omega arith)
  origin_up (suc r) net (driver.Port port) is l one = absurd (false≢true (sym (at_port design rank ready (λ cell. nat_lt (rank cell) top) early values are net port is) ∙ one))
  origin_up (suc r) net (driver.Out cell out) is l one =
      let c = ready.complete net (driver.Out cell out) is in
      origin_cell net cell out c.0 c.1 (is_gate c.0.kind) refl is c.2 c.3 c.4 one (λ mid d driven below. origin_up r mid d driven (omega arith))

  module _ (fill : ℕ → ℕ → ℕ → Bool) where
    -- the gate on a path, with what lies behind it
    record PathGate (net cell out : ℕ) : Type 0 where
      next : ℕ
      driven : IsDrivenBy design.flat next (driver.Out cell out)
      rest : List PathArc
      lead : ArcsLead design next rest net
      none : gates_in design rest ≡ 0

    path_gate : (arcs : List PathArc) (net cell pin out : ℕ) (row : CellRow) → IsRoute design arcs net → gates_in design arcs ≤ 1 → Contains arcs (arc.Through cell pin out) → IsOf design cell row → is_gate row.kind ≡ true → PathGate net cell out
    path_gate [] net cell pin out row route few within of gate = absurd route
    path_gate (arc.Through c p o ∷ arcs) net cell pin out row route few within of gate = absurd route
    path_gate (arc.Port port ∷ arcs) net cell pin out row route few (zero, l, same) of gate = cc
    path_gate (arc.Port port ∷ arcs) net cell pin out row (first, driven, lead) few (suc k, l, same) of gate =
        let few' : gates_in design arcs ≤ 1 = (let e = count_first design is_gate port arcs in omega arith) in
        let is : passes is_gate design (arc.Through cell pin out) ≡ true = passes_at design is_gate cell pin out row of ∙ gate in
        let some = contains_counts design arcs k (arc.Through cell pin out) (omega arith) same is in
        let g = gate_on design first arcs net lead some in
        let g_is : passes is_gate design (arc.Through g.cell g.pin g.out) ≡ true = passes_at design is_gate g.cell g.pin g.out g.row g.of ∙ g.gate in
        let alike : arc.Through g.cell g.pin g.out ≡ arc.Through cell pin out =
        contains_one design arcs g.within.0 k (arc.Through g.cell g.pin g.out) (arc.Through cell pin out) g.within.1 g.within.2 (omega arith) same g_is is few' in
        let cells : g.cell ≡ cell = cc in
        let outs : g.out ≡ out = cc in
        record {
          next = g.next;
          driven = subst (λ (c : ℕ). IsDrivenBy design.flat g.next (driver.Out c out)) cells (subst (λ (o : ℕ). IsDrivenBy design.flat g.next (driver.Out g.cell o)) outs g.driven);
          rest = g.rest;
          lead = g.lead;
          none = (let e = g.count in omega arith);
        }

    abbrev pub FillsBelow : ℕ → Type 0
    FillsBelow limit = (cell out net : ℕ) (row : CellRow) (depth k : ℕ) → rank cell < limit → rank cell < top → IsOf design cell row → is_gate row.kind ≡ true → IsDrivenBy design.flat net (driver.Out cell out) → HasDepth design (reader.Pin cell 0) (pos depth) → k + early ≡ depth →
        fill cell out k ≡ V net

    pub pin_paths : (cell at net pin clock : ℕ) (row : CellRow) (depth k : ℕ) → IsOf design cell row → is_gate row.kind ≡ true → at < length row.inputs → IsPin design.flat pin (reader.Pin cell at) net → Reads design.flat (reader.Pin cell (clock_pin row)) clock → HasDepth design (reader.Pin cell 0) (pos depth) →
        k + early ≡ depth → rank cell < top → FillsBelow (rank cell) → (V net ≡ true) ↔ FillPath design fill net depth k
    pin_paths cell at net pin clock row depth k of gate input is clock_reads has entry low fills = (
      λ one.
          (let d = ready.numbered.has_driver (reader.Pin cell at) net (pin, is) in
          let less = lower design rank ready.ranked (suc (rank cell)) cell at net d.0 d.1 (pin, is) (omega arith) in
          let o = origin_up (suc (height design rank d.0)) net d.0 d.1 (omega arith) one in
          let o_low : rank o.cell < top = (let b = o.below in omega arith) in
          let deep = gate_depth design rank ready top timed o.cell o.row o_low o.of o.gate (pins_of design rank ready top timed o.cell o.row o.of o.gate o.out o.source o.driven) in
          let q = gate_steps design rank ready top timed cell at net pin clock row of gate input is clock_reads low o.lane in
          let sum = sum_law design rank ready top timed net (λ arcs route. ready.clock_on_data pin arcs (record { place = (cell, at, net, (row, of, gate, input), is, route) })) o.lane deep.0
          (inr (record { cell = o.cell; pin = o.pin; out = o.out; row = o.row; within = o.within; of = o.of; gate = o.gate; has = deep.1 })) (reader.Pin cell at) pin is q.0 q.1 (reader.Pin cell 0) (refl, row, at, net, of, gate, input, is) depth has in
          let nets = inputs_of o.source o.cell o.out o.row o.driven o.of in
          let late : early ≤ deep.0 = not_early deep.0 early (truth_at o.row o.out (map V nets.0)) (sym (gate_rule o.source o.cell o.out o.row nets.0 deep.0 o_low o.driven o.of nets.1 o.gate deep.1) ∙ o.one) in
          let back : (deep.0 - early) + early ≡ deep.0 = omega arith in
          record {
            arcs = arc.Port o.lane.port ∷ o.lane.arcs;
            path = lane_path design net o.lane;
            cell = o.cell;
            pin = o.pin;
            out = o.out;
            row = o.row;
            within = (suc o.within.0, (let l = o.within.1 in omega arith), o.within.2);
            of = o.of;
            gate = o.gate;
            from = deep.0;
            has = deep.1;
            steps = q.0;
            sum = sum;
            entry = deep.0 - early;
            back = omega arith;
            one = fills o.cell o.out o.source o.row deep.0 (deep.0 - early) (let b = o.below in omega arith) o_low o.of o.gate o.driven deep.1 back ∙ o.one;
          }),
      λ f.
          (let g = path_gate f.arcs net f.cell f.pin f.out f.row f.path.route f.path.one_gate f.within f.of f.gate in
          let end = lead_rises design rank ready top timed g.next f.cell f.out g.rest net g.driven g.lead in
          let falls = ready.ranked cell end.0 (at, end.1, net, end.2, (pin, is)) in
          let sum = f.sum in
          let back = f.back in
          let value = fills f.cell f.out g.next f.row f.from f.entry (let e = end.3 in omega arith) (let e = end.3 in omega arith) f.of f.gate g.driven f.has (omega arith) in
          forward g.next g.rest net g.lead g.none (sym value ∙ f.one)),
    )

    bits_same : (nets : List ℕ) (bits : List Bool) (depth k : ℕ) → AllZip (λ m bit. IsFillBit design fill m depth k bit) nets bits → ((i : ℕ) → i < length nets → (V (get_or nets i 0) ≡ true) ↔ FillPath design fill (get_or nets i 0) depth k) → bits ≡ map V nets
    bits_same [] [] depth k zip each = refl
    bits_same [] (b ∷ bits) depth k zip each = absurd zip
    bits_same (m ∷ nets) [] depth k zip each = absurd zip
    bits_same (m ∷ nets) (b ∷ bits) depth k zip each =
        let first = each 0 (omega arith) in
        let here = zip.0 in
        let head : b ≡ V m = bool_same b (V m) (λ e. first.1 (here.0 e)) (λ e. here.1 (first.0 e)) in
        let tail : bits ≡ map V nets = bits_same nets bits depth k zip.1 (λ i l. each (suc i) (omega arith)) in cc

    module _ (is_fill : IsFillBelow design rank top fill) where
      fill_is : (r : ℕ) → FillsBelow r
      fill_is zero cell out net row depth k l low of gate is has entry = absurd (omega arith)
      fill_is (suc r) cell out net row depth k l low of gate is has entry =
          let nets = inputs_of net cell out row is of in
          let clock = nets.2 gate in
          let law = is_fill cell out net row nets.0 depth k low of gate is nets.1 has (omega arith) in
          let bits = bits_same nets.0 law.0 depth k law.1 (λ i below.
          let input : i < length row.inputs = (let c = input_count design.flat cell row nets.0 nets.1 in omega arith) in
          let reads = input_net design.flat cell row nets.0 nets.1 i input in
          pin_paths cell i (get_or nets.0 i 0) reads.0 clock.0 row depth k of gate input reads.1 clock.1 has entry low (λ c o m rw' dp e less. fill_is r c o m rw' dp e (omega arith))) in
          law.2 ∙ ap (λ (bs : List Bool). truth_at row out bs) bits ∙ sym (gate_rule net cell out row nets.0 depth low is of nets.1 gate has ∙ and_at (nat_lt depth early) (truth_at row out (map V nets.0)) (in_time depth early (omega arith)))

      -- the filling value of a data pin's net, told by paths
      pub fill_bit : (cell at net pin clock : ℕ) (row : CellRow) (depth k : ℕ) → IsOf design cell row → is_gate row.kind ≡ true → at < length row.inputs → IsPin design.flat pin (reader.Pin cell at) net → Reads design.flat (reader.Pin cell (clock_pin row)) clock →
          HasDepth design (reader.Pin cell 0) (pos depth) → k + early ≡ depth → rank cell < top → IsFillBit design fill net depth k (V net)
      fill_bit cell at net pin clock row depth k of gate input is clock_reads has entry low = pin_paths cell at net pin clock row depth k of gate input is clock_reads has entry low (fill_is (rank cell))
