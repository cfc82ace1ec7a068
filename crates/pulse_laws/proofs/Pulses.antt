-- Pulses taken back through the cell that they came from, and led on through a cell.
use Rattle.std.proofs.Common.{◌≡◌, ℕ, zero, suc, ◌+◌, ◌<◌, ◌≤◌, Bool, true, false, cond, ◌⊎◌, ℤ, pos, ◌-ℤ◌, List, [], ◌∷◌, ◌++◌, length, get_or, refl, sym, ap, ◌∙◌, subst, arith, inl, inr}
use Rattle.std.proofs.lemmas.List.Elements.{Contains-push, Contains-push_cases, Contains-append_left}
use Rattle.std.proofs.lemmas.List.Sums.{sum_by-cons}
use Rattle.std.specs.List.{AllZip}
use Rattle.rsfq_ids.specs.declared.table.CellRow.{CellRow}
use Rattle.rsfq_ids.specs.declared.circuit.PortUse.{PortUse}
use Rattle.rsfq_ids.specs.declared.circuit.Driver.TheVariants as driver
use Rattle.rsfq_ids.specs.declared.circuit.Reader.TheVariants as reader
use Rattle.rsfq_ids.specs.declared.offence.PathArc.{PathArc}
use Rattle.rsfq_ids.specs.declared.offence.PathArc.TheVariants as arc
use Rattle.rsfq_ids.specs.Time.{IsWithin}
use Rattle.rsfq_ids.specs.Circuit.{IsDrivenBy, IsOf, is_gate}
use Rattle.rsfq_ids.specs.Bench.{IsUsed}
use Rattle.rsfq_ids.specs.Run.{Run, times_of, numbers_of, IsPortDelay}
use Rattle.rsfq_ids.specs.Path.{IsDelay, passes, HasDepth}
use Rattle.pulse_laws.proofs.Flows.{flows_more}
use Rattle.pulse_laws.proofs.Came.{one_more, clocked_more, split_delay}
use Rattle.pulse_laws.proofs.Zips.{zip_at, zip_push}
use Rattle.pulse_laws.proofs.Last.{FlowBefore, flows_last, zip_split}
use Rattle.pulse_laws.proofs.Lanes.{gates_in, passes_at, count_last}
use Rattle.pulse_laws.proofs.Depths.{Origin}
use Rattle.rsfq_ids.specs.Design.{Design}
use Rattle.pulse_laws.specs.Flows.{time_at, GoesOn, Came, number_of}

fewer : (gate : Bool) (before after limit : ℕ) → after ≡ before + cond gate 1 0 → after ≤ limit → before ≤ limit
fewer true before after limit e l = omega arith
fewer false before after limit e l = omega arith

at_gate : (b : Bool) (count sum : ℕ) → sum ≡ count + cond b 1 0 → b ≡ true → sum ≡ count + 1
at_gate true count sum e is = e
at_gate false count sum e is = cc

at_passive : (b : Bool) (count sum : ℕ) → sum ≡ count + cond b 1 0 → b ≡ false → sum ≡ count
at_passive true count sum e is = cc
at_passive false count sum e is = omega arith

at_front : (b : Bool) (count sum : ℕ) → sum ≡ cond b 1 0 + count → b ≡ true → 0 < sum
at_front true count sum e is = omega arith
at_front false count sum e is = cc

still : (gate : Bool) (before after : ℕ) → after ≡ before + cond gate 1 0 → 0 < before → 0 < after
still true before after e l = omega arith
still false before after e l = omega arith

module _ (design : Design) where
  pub contains_counts : (arcs : List PathArc) (k : ℕ) (a : PathArc) → k < length arcs → get_or arcs k a ≡ a → passes is_gate design a ≡ true → 0 < gates_in design arcs
  contains_counts [] k a l is gate = absurd (omega arith)
  contains_counts (b ∷ arcs) zero a l is gate =
      at_front (passes is_gate design b) (gates_in design arcs) (gates_in design (b ∷ arcs)) (sum_by-cons (λ x. cond (passes is_gate design x) 1 0) b arcs) (ap (λ (x : PathArc). passes is_gate design x) is ∙ gate)
  contains_counts (b ∷ arcs) (suc k) a l is gate =
      let e = sum_by-cons (λ x. cond (passes is_gate design x) 1 0) b arcs in
      let h = contains_counts arcs k a (omega arith) is gate in omega arith

  -- the origin of a path stays through a passive cell
  pub origin_more : (arcs : List PathArc) (cell pin out : ℕ) (row : CellRow) → IsOf design cell row → is_gate row.kind ≡ false → (depth : ℕ) → Origin design arcs depth → Origin design (arcs ++ arc.Through cell pin out ∷ []) depth
  origin_more arcs cell pin out row of passive depth (inl (none, zero_depth)) =
      let e = at_passive (passes is_gate design (arc.Through cell pin out)) (gates_in design arcs) (gates_in design (arcs ++ arc.Through cell pin out ∷ [])) (count_last design is_gate arcs (arc.Through cell pin out)) (passes_at design is_gate cell pin out row of ∙ passive) in
      inl (e ∙ none, zero_depth)
  origin_more arcs cell pin out row of passive depth (inr t) = inr (record {
    cell = t.cell;
    pin = t.pin;
    out = t.out;
    row = t.row;
    within = Contains-append_left arcs (arc.Through cell pin out ∷ []) (arc.Through t.cell t.pin t.out) t.within;
    of = t.of;
    gate = t.gate;
    has = t.has;
  })

  not_here : (cell pin out other at to : ℕ) (row row' : CellRow) → IsOf design cell row → is_gate row.kind ≡ false → IsOf design other row' → is_gate row'.kind ≡ true → arc.Through cell pin out ≡ arc.Through other at to → ⊥
  not_here cell pin out other at to row row' of passive of' gate e =
      let one : passes is_gate design (arc.Through cell pin out) ≡ false = passes_at design is_gate cell pin out row of ∙ passive in
      let two : passes is_gate design (arc.Through other at to) ≡ true = passes_at design is_gate other at to row' of' ∙ gate in
      let same : passes is_gate design (arc.Through cell pin out) ≡ passes is_gate design (arc.Through other at to) = ap (λ (x : PathArc). passes is_gate design x) e in
      let wrong : false ≡ true = sym one ∙ same ∙ two in cc

  pub origin_less : (arcs : List PathArc) (cell pin out : ℕ) (row : CellRow) → IsOf design cell row → is_gate row.kind ≡ false → (depth : ℕ) → Origin design (arcs ++ arc.Through cell pin out ∷ []) depth → Origin design arcs depth
  origin_less arcs cell pin out row of passive depth (inl (none, zero_depth)) =
      let e = at_passive (passes is_gate design (arc.Through cell pin out)) (gates_in design arcs) (gates_in design (arcs ++ arc.Through cell pin out ∷ [])) (count_last design is_gate arcs (arc.Through cell pin out)) (passes_at design is_gate cell pin out row of ∙ passive) in
      inl (sym e ∙ none, zero_depth)
  origin_less arcs cell pin out row of passive depth (inr t) = elim (Contains-push_cases arcs (arc.Through cell pin out) (arc.Through t.cell t.pin t.out) t.within) [
    | inl within ↦ inr (record { cell = t.cell; pin = t.pin; out = t.out; row = t.row; within = within; of = t.of; gate = t.gate; has = t.has })
    | inr same ↦ absurd (not_here cell pin out t.cell t.pin t.out row t.row of passive t.of t.gate same)
  ]

  -- the origin of a path that ends with its gate is that gate
  pub origin_gate : (arcs : List PathArc) (cell pin out : ℕ) (row : CellRow) → IsOf design cell row → is_gate row.kind ≡ true → gates_in design arcs ≡ 0 → (depth : ℕ) → Origin design (arcs ++ arc.Through cell pin out ∷ []) depth → HasDepth design (reader.Pin cell 0) (pos depth)
  origin_gate arcs cell pin out row of gate before depth (inl (none, zero_depth)) =
      let e = at_gate (passes is_gate design (arc.Through cell pin out)) (gates_in design arcs) (gates_in design (arcs ++ arc.Through cell pin out ∷ [])) (count_last design is_gate arcs (arc.Through cell pin out)) (passes_at design is_gate cell pin out row of ∙ gate) in
      absurd (omega arith)
  origin_gate arcs cell pin out row of gate before depth (inr t) = elim (Contains-push_cases arcs (arc.Through cell pin out) (arc.Through t.cell t.pin t.out) t.within) [
    | inl within ↦ (let h = contains_counts arcs within.0 (arc.Through t.cell t.pin t.out) within.1 within.2 (passes_at design is_gate t.cell t.pin t.out t.row t.of ∙ t.gate) in absurd (omega arith))
    | inr same ↦ (let cells : t.cell ≡ cell = cell_same cell pin out t.cell t.pin t.out same in subst (λ (c : ℕ). HasDepth design (reader.Pin c 0) (pos depth)) cells t.has)
  ]
    where
      cell_same : (cell pin out other at to : ℕ) → arc.Through cell pin out ≡ arc.Through other at to → other ≡ cell
      cell_same cell pin out other at to e = cc

  pub origin_here : (arcs : List PathArc) (cell pin out : ℕ) (row : CellRow) → IsOf design cell row → is_gate row.kind ≡ true → (depth : ℕ) → HasDepth design (reader.Pin cell 0) (pos depth) → Origin design (arcs ++ arc.Through cell pin out ∷ []) depth
  origin_here arcs cell pin out row of gate depth has = inr (record { cell = cell; pin = pin; out = out; row = row; within = Contains-push arcs (arc.Through cell pin out); of = of; gate = gate; has = has })

  pub no_arcs_origin : (depth : ℕ) → Origin design [] depth → depth ≡ 0
  no_arcs_origin depth (inl (none, zero_depth)) = zero_depth
  no_arcs_origin depth (inr t) = let l = t.within.1 in absurd (omega arith)

  module _ (run : Run) where
    abbrev Pulse : ℕ → ℕ → Type 0
    Pulse net k = Came design run net k

    -- where a pulse came from through the last cell of its path
    pub record PulseBefore (net i : ℕ) (a : Pulse net i) : Type 0 where
      pub cell : ℕ
      pub pin : ℕ
      pub out : ℕ
      pub mid : ℕ
      pub place : ℕ
      pub before : Pulse mid place
      pub parts : a.arcs ≡ before.arcs ++ arc.Through cell pin out ∷ []
      pub same_number : number_of design run net i a ≡ number_of design run mid place before
      pub on : GoesOn design run.pulses (arc.Through cell pin out) mid place net i

    pulse_back : (net i : ℕ) (a : Pulse net i) (end : PathArc) (b : FlowBefore design run.pulses a.first a.place a.arcs a.delays net i) → b.end ≡ end → GoesOn design run.pulses end b.mid b.place net i → PulseBefore net i a
    pulse_back net i a (arc.Port port) b same on = absurd on
    pulse_back net i a (arc.Through cell pin out) b same on =
        let parts : a.arcs ≡ b.before ++ arc.Through cell pin out ∷ [] = b.parts ∙ ap (λ (x : PathArc). b.before ++ x ∷ []) same in
        let count : gates_in design a.arcs ≡ gates_in design b.before + cond (passes is_gate design (arc.Through cell pin out)) 1 0 =
        ap (λ (xs : List PathArc). gates_in design xs) parts ∙ count_last design is_gate b.before (arc.Through cell pin out) in
        record {
          cell = cell;
          pin = pin;
          out = out;
          mid = b.mid;
          place = b.place;
          before = record {
            port = a.port;
            used = a.used;
            is_used = a.is_used;
            place = a.place;
            launched = a.launched;
            first = a.first;
            driven = a.driven;
            delay = a.delay;
            port_delay = a.port_delay;
            start = a.start;
            arcs = b.before;
            delays = b.delays;
            flows = b.flow;
            arc_delays = (zip_split (IsDelay design) b.before (arc.Through cell pin out) b.delays b.delay
                (subst (λ (xs : List PathArc). AllZip (IsDelay design) xs (b.delays ++ b.delay ∷ [])) parts (subst (λ (ds : List ℤ). AllZip (IsDelay design) a.arcs ds) b.sums a.arc_delays))).0;
            one_gate = fewer (passes is_gate design (arc.Through cell pin out)) (gates_in design b.before) (gates_in design a.arcs) 1 count a.one_gate;
            clocked = λ l. a.clocked (still (passes is_gate design (arc.Through cell pin out)) (gates_in design b.before) (gates_in design a.arcs) count l);
          };
          parts = parts;
          same_number = refl;
          on = on;
        }

    pub pulse_last : (net i : ℕ) (a : Pulse net i) → ((a.arcs ≡ []) × (a.first ≡ net) × (a.place ≡ i)) ⊎ PulseBefore net i a
    pulse_last net i a = elim (flows_last design run.pulses a.first a.place a.arcs a.delays net i a.flows) [
      | inl none ↦ inl none
      | inr b ↦ inr (pulse_back net i a b.end b refl b.on)
    ]

    -- a pulse goes on through a cell
    pub pulse_on : (net k : ℕ) (a : Pulse net k) (cell pin out next i : ℕ) (row : CellRow) → IsOf design cell row → GoesOn design run.pulses (arc.Through cell pin out) net k next i →
        IsWithin row.low row.high (time_at run.pulses next i -ℤ time_at run.pulses net k) → (gate : Bool) → is_gate row.kind ≡ gate → (gate ≡ true → (gates_in design a.arcs ≡ 0) × (a.port ≡ design.bench.clock)) →
        (b : Pulse next i) × (b.arcs ≡ a.arcs ++ arc.Through cell pin out ∷ []) × (number_of design run next i b ≡ number_of design run net k a)
    pulse_on net k a cell pin out next i row of on within gate is clean =
        let count : gates_in design (a.arcs ++ arc.Through cell pin out ∷ []) ≡ gates_in design a.arcs + cond gate 1 0 =
        count_last design is_gate a.arcs (arc.Through cell pin out) ∙ ap (λ (b : Bool). gates_in design a.arcs + cond b 1 0) (passes_at design is_gate cell pin out row of ∙ is) in
        let delay : ℤ = time_at run.pulses next i -ℤ time_at run.pulses net k in (
          record {
            port = a.port;
            used = a.used;
            is_used = a.is_used;
            place = a.place;
            launched = a.launched;
            first = a.first;
            driven = a.driven;
            delay = a.delay;
            port_delay = a.port_delay;
            start = a.start;
            arcs = a.arcs ++ arc.Through cell pin out ∷ [];
            delays = a.delays ++ delay ∷ [];
            flows = flows_more design run.pulses a.first a.place a.arcs a.delays net k (arc.Through cell pin out) delay next i a.flows on (split_delay (time_at run.pulses next i) (time_at run.pulses net k));
            arc_delays = zip_push (IsDelay design) a.arcs a.delays (arc.Through cell pin out) delay a.arc_delays (row, of, within);
            one_gate = one_more gate (gates_in design a.arcs) _ count a.one_gate (λ e. (clean e).0);
            clocked = clocked_more gate (gates_in design a.arcs) _ (a.port ≡ design.bench.clock) count a.clocked (λ e. (clean e).1);
          },
          refl,
          refl,
        )

    -- a pulse at a port
    pub port_pulse : (net port k : ℕ) (used : PortUse) → IsDrivenBy design.flat net (driver.Port port) → IsUsed design.bench port used →
        AllZip (λ number pulse. IsPortDelay design.bench used (pulse -ℤ run.tick number)) (numbers_of used design.bench port run) (times_of run.pulses net) → k < length (numbers_of used design.bench port run) →
        (b : Pulse net k) × (b.arcs ≡ []) × (number_of design run net k b ≡ get_or (numbers_of used design.bench port run) k 0)
    port_pulse net port k used is is_used zip launched = (
      record {
        port = port;
        used = used;
        is_used = is_used;
        place = k;
        launched = launched;
        first = net;
        driven = is;
        delay = time_at run.pulses net k -ℤ run.tick (get_or (numbers_of used design.bench port run) k 0);
        port_delay = zip_at (λ number pulse. IsPortDelay design.bench used (pulse -ℤ run.tick number)) (numbers_of used design.bench port run) (times_of run.pulses net) k 0 (pos 0) zip launched;
        start = split_delay (time_at run.pulses net k) (run.tick (get_or (numbers_of used design.bench port run) k 0));
        arcs = [];
        delays = [];
        flows = (refl, refl);
        arc_delays = tt;
        one_gate = omega arith;
        clocked = λ l. absurd (omega arith);
      },
      refl,
      refl,
    )
