-- The main induction: a net has the value 1 exactly where a pulse on it shows it.
use Rattle.std.proofs.Common.{◌≡◌, ℕ, zero, suc, ◌+◌, ◌-◌, ◌<◌, ◌≤◌, Bool, true, false, ℤ, pos, ◌-ℤ◌, List, [], ◌∷◌, ◌++◌, length, get_or, map, take, refl, sym, ap, ◌∙◌, subst, arith, inl, inr}
use Rattle.std.proofs.lemmas.Bool.{cases_lt, false≢true}
use Rattle.std.proofs.lemmas.List.{get_or_default}
use Rattle.std.specs.Prelude.{Some}
use Rattle.std.specs.List.{filter, flat_map, list_any}
use Rattle.rsfq_ids.specs.declared.table.CellRow.{CellRow}
use Rattle.rsfq_ids.specs.declared.circuit.PortUse.{PortUse}
use Rattle.rsfq_ids.specs.declared.circuit.PortUse.TheVariants as port_use
use Rattle.rsfq_ids.specs.declared.circuit.Strobe.{Strobe}
use Rattle.rsfq_ids.specs.declared.circuit.Driver.{Driver}
use Rattle.rsfq_ids.specs.declared.circuit.Driver.TheVariants as driver
use Rattle.rsfq_ids.specs.declared.circuit.Reader.{Reader}
use Rattle.rsfq_ids.specs.declared.circuit.Reader.TheVariants as reader
use Rattle.rsfq_ids.specs.declared.offence.PathArc.{PathArc}
use Rattle.rsfq_ids.specs.declared.offence.PathArc.TheVariants as arc
use Rattle.rsfq_ids.specs.Time.{IsWithin, Follow}
use Rattle.rsfq_ids.specs.Circuit.{IsDrivenBy, IsPin, Reads, IsOf, InputNets, is_gate, clock_pin}
use Rattle.rsfq_ids.specs.Bench.{IsUsed}
use Rattle.rsfq_ids.specs.Run.{Run, IsRun, times_of, firings, bits_at, truth_at, is_present, stream_bit, numbers_of, ComesIn, ComesOut, IsPortDelay}
use Rattle.rsfq_ids.specs.Path.{IsPassedFrom, ArcLeads, HasSteps, HasDepth}
use Rattle.pulse_laws.proofs.Flows.{one_row, one_list}
use Rattle.pulse_laws.proofs.Came.{level, lower, comes_out}
use Rattle.pulse_laws.proofs.Zips.{zip_length, zip_at}
use Rattle.pulse_laws.proofs.Presence.{AreRising}
use Rattle.pulse_laws.specs.Premises.{IsTimedAt, IsTimedBelow}
use Rattle.pulse_laws.proofs.Lanes.{Lane, lane_of, lane_path, lane_delays, lane_on, on_clock_pin}
use Rattle.pulse_laws.proofs.Steps.{output_steps}
use Rattle.pulse_laws.proofs.Streams.{stream_from, stream_to}
use Rattle.pulse_laws.proofs.Bits.{number, fits, clock_pulse, clock_clean, rising, present_from, present_to}
use Rattle.pulse_laws.proofs.Depths.{Origin, NotClock, gate_times, input_count, input_net, lane_at, gate_steps, gate_depth, pins_of, origin_of, sum_law, not_clock_before, least, depth_one}
use Rattle.pulse_laws.proofs.Entries.{clock_entries}
use Rattle.pulse_laws.proofs.Pulses.{PulseBefore, pulse_last, pulse_on, port_pulse, origin_more, origin_less, origin_gate, origin_here, no_arcs_origin}
use Rattle.pulse_laws.proofs.Spots.{bool_same, kept_at, joined_at, any_map, any_map_from, map_same}
use Rattle.rsfq_ids.specs.Design.{Design}
use Rattle.rsfq_ids.specs.Ready.{IsReady}
use Rattle.pulse_laws.specs.Flows.{time_at, fires, Causes, GoesOn, Came}

module _ (design : Design) (run : Run) (rank : ℕ → ℕ) (ready : IsReady design rank) (is_run : IsRun design run)
    (top : ℕ) (timed : IsTimedBelow design rank top) (j e : ℕ) (V : ℕ → Bool) where
  abbrev Pulse : ℕ → ℕ → Type 0
  Pulse net k = Came design run net k

  -- Values that follow the drivers, where a data input has a 1 for the pulse with number + e = j, and a gate before its entry 0 has none.
  pub record IsValued : Type 0 where
    pub port_up : (net port : ℕ) (used : PortUse) → IsDrivenBy design.flat net (driver.Port port) → IsUsed design.bench port used → NotClock design net → V net ≡ true →
        (place : ℕ) × (place < length (numbers_of used design.bench port run)) × (get_or (numbers_of used design.bench port run) place 0 + e ≡ j)
    pub port_down : (net port : ℕ) (used : PortUse) → IsDrivenBy design.flat net (driver.Port port) → IsUsed design.bench port used → NotClock design net → (place : ℕ) → place < length (numbers_of used design.bench port run) →
        get_or (numbers_of used design.bench port run) place 0 + e ≡ j → V net ≡ true
    pub passive : (net cell out : ℕ) (row : CellRow) (nets : List ℕ) → IsDrivenBy design.flat net (driver.Out cell out) → IsOf design cell row → is_gate row.kind ≡ false → InputNets design.flat cell row nets → V net ≡ list_any (λ bit. bit) (map V nets)
    pub gate : (net cell out : ℕ) (row : CellRow) (nets : List ℕ) (depth k : ℕ) → IsDrivenBy design.flat net (driver.Out cell out) → IsOf design cell row → is_gate row.kind ≡ true → rank cell < top → InputNets design.flat cell row nets →
        HasDepth design (reader.Pin cell 0) (pos depth) → k + e ≡ j + depth → V net ≡ truth_at row out (map V nets)
    pub before : (net cell out : ℕ) (row : CellRow) (depth : ℕ) → IsDrivenBy design.flat net (driver.Out cell out) → IsOf design cell row → is_gate row.kind ≡ true → rank cell < top → HasDepth design (reader.Pin cell 0) (pos depth) → j + depth < e → V net ≡ false

  -- a pulse that shows a value 1
  pub record MeetsNegation (net : ℕ) : Type 0 where
    pub place : ℕ
    pub below : place < length (times_of run.pulses net)
    pub pulse : Pulse net place
    pub depth : ℕ
    pub origin : Origin design pulse.arcs depth
    pub sum : number design run rank ready is_run net place pulse + e ≡ j + depth

  pub record Valued (net : ℕ) : Type 0 where
    pub up : V net ≡ true → MeetsNegation net
    pub down : MeetsNegation net → V net ≡ true

  -- the origins of a net come to their entries within the run
  abbrev pub Bounded : ℕ → Type 0
  Bounded net = (lane : Lane design net) (depth : ℕ) → Origin design lane.arcs depth → j + depth < run.clocks + e

  -- ---- gates

  no_clock : (cell at net : ℕ) (row : CellRow) → IsOf design cell row → is_gate row.kind ≡ true → at < length row.inputs → Reads design.flat (reader.Pin cell at) net → NotClock design net
  no_clock cell at net row of gate input reads arcs route = ready.clock_on_data reads.0 arcs (record { place = (cell, at, net, (row, of, gate, input), reads.1, route) })

  -- from the number, steps and depths of a pulse
  to_origin : (p q k e j d from : ℕ) → p + q ≡ k → k + e ≡ j + d → from + q ≡ d → p + e ≡ j + from
  to_origin p q k e j d from one two three = omega arith

  to_entry : (p q k e j d from : ℕ) → p + e ≡ j + from → k + e ≡ j + d → from + q ≡ d → p + q ≡ k
  to_entry p q k e j d from one two three = omega arith

  module _ (cell clock : ℕ) (row : CellRow) (of : IsOf design cell row) (gate : is_gate row.kind ≡ true) (clock_reads : Reads design.flat (reader.Pin cell (clock_pin row)) clock) (depth k : ℕ)
      (has : HasDepth design (reader.Pin cell 0) (pos depth)) (entry : k + e ≡ j + depth) (low : rank cell < top) where
    module _ (at net pin : ℕ) (input : at < length row.inputs) (is : IsPin design.flat pin (reader.Pin cell at) net) where
      lane_sum : (lane : Lane design net) (from : ℕ) → Origin design lane.arcs from → (q : ℕ) × HasSteps design (arc.Port lane.port ∷ lane.arcs) pin (pos q) × (from + q ≡ depth)
      lane_sum lane from origin =
          let q = gate_steps design rank ready top timed cell at net pin clock row of gate input is clock_reads low lane in
          (q.0, q.1, sum_law design rank ready top timed net (no_clock cell at net row of gate input (pin, is)) lane from origin (reader.Pin cell at) pin is q.0 q.1 (reader.Pin cell 0) (refl, row, at, net, of, gate, input, is) depth has)

      -- the nets of the data pins are bounded where the gate is
      pub pin_bounded : k < run.clocks → Bounded net
      pin_bounded l lane from origin = let s = lane_sum lane from origin in let sum = s.2 in omega arith

      -- the gate finds the value of its data pin
      pub pin_value : k < run.clocks → Valued net → is_present (times_of run.pulses net) (times_of run.pulses clock) (time_at run.pulses clock k) ≡ V net
      pin_value l valued =
          let within : k < length (times_of run.pulses clock) = (let c = clock_entries design run rank ready is_run cell clock row of gate clock_reads in omega arith) in
          let rise : AreRising (times_of run.pulses clock) = rising design run rank ready is_run cell clock row of gate clock_reads (timed cell row of gate low).no_dead (gate_times row.kind row gate (fits design run rank ready is_run cell row of)).dead.from in
          bool_same _ _
          (λ present.
          let shown = present_to design run rank ready is_run cell clock row of gate clock_reads at net pin is rise k within (λ i a. gate_steps design rank ready top timed cell at net pin clock row of gate input is clock_reads low (lane_of design run net i a)) present in
          let origin = origin_of design rank ready top timed net (λ c p driven. let below = ready.ranked cell c (at, p, net, driven, (pin, is)) in omega arith) (lane_of design run net shown.place shown.pulse) in
          let sum = sum_law design rank ready top timed net (no_clock cell at net row of gate input (pin, is)) (lane_of design run net shown.place shown.pulse) origin.0 origin.1 (reader.Pin cell at) pin is shown.steps shown.has (reader.Pin cell 0)
          (refl, row, at, net, of, gate, input, is) depth has in
          valued.down (record {
            place = shown.place;
            below = shown.below;
            pulse = shown.pulse;
            depth = origin.0;
            origin = origin.1;
            sum = to_origin _ shown.steps k e j depth origin.0 shown.sum entry sum;
          }))
          (λ one.
          let s = valued.up one in
          let q = lane_sum (lane_of design run net s.place s.pulse) s.depth s.origin in
          present_from design run rank ready is_run cell clock row of gate clock_reads at net pin is rise k within s.place s.below s.pulse q.0 q.1 (to_entry _ q.0 k e j depth s.depth s.sum entry q.2))

    -- the bits of the gate are the values of its data pins
    pub gate_bits : k < run.clocks → (nets : List ℕ) → InputNets design.flat cell row nets → ((at net : ℕ) → at < length row.inputs → Reads design.flat (reader.Pin cell at) net → Valued net) → bits_at run.pulses nets clock (time_at run.pulses clock k) ≡ map V nets
    gate_bits l nets inputs each = map_same (λ net. is_present (times_of run.pulses net) (times_of run.pulses clock) (time_at run.pulses clock k)) V nets (λ at below.
        let input : at < length row.inputs = (let c = input_count design.flat cell row nets inputs in omega arith) in
        let reads = input_net design.flat cell row nets inputs at input in
        pin_value at (get_or nets at 0) reads.0 input reads.1 l (each at (get_or nets at 0) input reads))

  -- ---- the way back through a cell

  pub record Back (cell pin out mid place net i cell' out' : ℕ) (row : CellRow) (nets : List ℕ) : Type 0 where
    pub same_arc : arc.Through cell pin out ≡ arc.Through cell' pin out'
    pub passed : IsPassedFrom (is_gate row.kind) row pin
    pub reads : Reads design.flat (reader.Pin cell' pin) mid
    pub causes : Causes (is_gate row.kind) run.pulses row nets pin out' mid place i

  goes_back : (cell pin out mid place net i cell' out' : ℕ) (row : CellRow) (nets : List ℕ) → GoesOn design run.pulses (arc.Through cell pin out) mid place net i → IsDrivenBy design.flat net (driver.Out cell' out') → IsOf design cell' row → InputNets design.flat cell' row nets →
      Back cell pin out mid place net i cell' out' row nets
  goes_back cell pin out mid place net i cell' out' row nets (row0, nets0, of0, inputs0, passed0, reads0, driven0, causes0) is of inputs =
      let drivers : Some (driver.Out cell out) ≡ Some (driver.Out cell' out') = sym driven0 ∙ is in
      let cells : cell ≡ cell' = cc in
      let outs : out ≡ out' = cc in
      let same_row : row0 ≡ row = one_row design cell' row0 row (subst (λ (c : ℕ). IsOf design c row0) cells of0) of in
      let inputs1 : InputNets design.flat cell' row nets0 = subst (λ (r : CellRow). InputNets design.flat cell' r nets0) same_row (subst (λ (c : ℕ). InputNets design.flat c row0 nets0) cells inputs0) in
      let same_nets : nets0 ≡ nets = one_list design.flat cell' ready.numbered _ nets0 nets inputs1 inputs in
      record {
        same_arc = cc;
        passed = subst (λ (r : CellRow). IsPassedFrom (is_gate r.kind) r pin) same_row passed0;
        reads = subst (λ (c : ℕ). Reads design.flat (reader.Pin c pin) mid) cells reads0;
        causes = subst (λ (ns : List ℕ). Causes (is_gate row.kind) run.pulses row ns pin out' mid place i) same_nets
            (subst (λ (r : CellRow). Causes (is_gate r.kind) run.pulses r nets0 pin out' mid place i) same_row (subst (λ (o : ℕ). Causes (is_gate row0.kind) run.pulses row0 nets0 pin o mid place i) outs causes0));
      }

  not_from_port : (net i : ℕ) (a : Pulse net i) (cell out : ℕ) → IsDrivenBy design.flat net (driver.Out cell out) → a.first ≡ net → ⊥
  not_from_port net i a cell out is first = let e : Some (driver.Port a.port) ≡ Some (driver.Out cell out) = sym (subst (λ (x : ℕ). IsDrivenBy design.flat x (driver.Port a.port)) first a.driven) ∙ is in cc

  -- ---- the cases of the induction

  module _ (rules : IsValued) where
    port_valued : (net port : ℕ) (used : PortUse) → IsDrivenBy design.flat net (driver.Port port) → IsUsed design.bench port used → ComesIn used design.bench port run (times_of run.pulses net) → NotClock design net → Valued net
    port_valued net port used is is_used comes none = record {
      up = λ one.
          (let found = rules.port_up net port used is is_used none one in
          let b = port_pulse design run net port found.0 used is is_used comes found.1 in
          let same : length (numbers_of used design.bench port run) ≡ length (times_of run.pulses net) = zip_length (λ number pulse. IsPortDelay design.bench used (pulse -ℤ run.tick number)) (numbers_of used design.bench port run) (times_of run.pulses net) comes in
          record {
            place = found.0;
            below = (let l = found.1 in omega arith);
            pulse = b.0;
            depth = 0;
            origin = subst (λ (xs : List PathArc). Origin design xs 0) (sym b.1) (inl (refl, refl));
            sum = ap (λ (x : ℕ). x + e) b.2 ∙ found.2 ∙ omega arith;
          });
      down = λ s. elim (pulse_last design run net s.place s.pulse) [
        | inl (nil, first, place) ↦
            (let zero_depth = no_arcs_origin design s.depth (subst (λ (xs : List PathArc). Origin design xs s.depth) nil s.origin) in
            rules.port_down net s.pulse.port s.pulse.used (subst (λ (x : ℕ). IsDrivenBy design.flat x (driver.Port s.pulse.port)) first s.pulse.driven) s.pulse.is_used none s.pulse.place s.pulse.launched (let h = s.sum in s.sum ∙ omega arith))
        | inr b ↦ absurd (other b)
      ];
    }
      where
        other : {i : ℕ} {a : Pulse net i} → PulseBefore design run net i a → ⊥
        other b = let on = b.on in let two = on.6 in let e : Some (driver.Port port) ≡ Some (driver.Out b.cell b.out) = sym is ∙ two in cc

    module _ (net cell out : ℕ) (row : CellRow) (nets : List ℕ) (is : IsDrivenBy design.flat net (driver.Out cell out)) (of : IsOf design cell row) (inputs : InputNets design.flat cell row nets) (low : rank cell < top) where
      passive_up : (passive : is_gate row.kind ≡ false) → Follow row.low row.high (flat_map (times_of run.pulses) nets) (times_of run.pulses net) → (pin : ℕ) → pin < length nets → pin < length row.inputs → Reads design.flat (reader.Pin cell pin) (get_or nets pin 0) →
          MeetsNegation (get_or nets pin 0) → MeetsNegation net
      passive_up passive follow pin l input reads s =
          let joined = joined_at (times_of run.pulses) nets pin s.place l s.below in
          let i : ℕ = length (flat_map (times_of run.pulses) (take pin nets)) + s.place in
          let within : IsWithin row.low row.high (time_at run.pulses net i -ℤ time_at run.pulses (get_or nets pin 0) s.place) =
          subst (λ (c : ℤ). IsWithin row.low row.high (time_at run.pulses net i -ℤ c)) (joined.same (pos 0)) (zip_at (λ c p. IsWithin row.low row.high (p -ℤ c)) (flat_map (times_of run.pulses) nets) (times_of run.pulses net) i (pos 0) (pos 0) follow joined.below) in
          let same : length (flat_map (times_of run.pulses) nets) ≡ length (times_of run.pulses net) = zip_length (λ c p. IsWithin row.low row.high (p -ℤ c)) (flat_map (times_of run.pulses) nets) (times_of run.pulses net) follow in
          let b = pulse_on design run (get_or nets pin 0) s.place s.pulse cell pin out net i row of
          (row, nets, of, inputs, subst (λ b. IsPassedFrom b row pin) (sym passive) input, reads, is, subst (λ b. Causes b run.pulses row nets pin out (get_or nets pin 0) s.place i) (sym passive) (l, s.below, refl)) within false passive (λ h. absurd (false≢true h)) in
          record {
            place = i;
            below = (let h = joined.below in omega arith);
            pulse = b.0;
            depth = s.depth;
            origin = subst (λ (xs : List PathArc). Origin design xs s.depth) (sym b.1) (origin_more design s.pulse.arcs cell pin out row of passive s.depth s.origin);
            sum = ap (λ (x : ℕ). x + e) b.2 ∙ s.sum;
          }

      passive_down : (passive : is_gate row.kind ≡ false) → ((pin mid : ℕ) → pin < length row.inputs → Reads design.flat (reader.Pin cell pin) mid → Valued mid) → (s : MeetsNegation net) → PulseBefore design run net s.place s.pulse → (pin : ℕ) × (pin < length nets) × (V (get_or nets pin 0) ≡ true)
      passive_down passive each s b =
          let back = goes_back b.cell b.pin b.out b.mid b.place net s.place cell out row nets b.on is of inputs in
          let causes : Causes false run.pulses row nets b.pin out b.mid b.place s.place = subst (λ g. Causes g run.pulses row nets b.pin out b.mid b.place s.place) passive back.causes in
          let input : b.pin < length row.inputs = subst (λ g. IsPassedFrom g row b.pin) passive back.passed in
          let same_net : b.mid ≡ get_or nets b.pin 0 = ready.numbered.one_read (reader.Pin cell b.pin) b.mid (get_or nets b.pin 0) back.reads (input_net design.flat cell row nets inputs b.pin input) in
          let arcs : s.pulse.arcs ≡ b.before.arcs ++ arc.Through cell b.pin out ∷ [] = b.parts ∙ ap (λ (x : PathArc). b.before.arcs ++ x ∷ []) back.same_arc in
          let value : V b.mid ≡ true = (each b.pin b.mid input back.reads).down (record {
            place = b.place;
            below = causes.1;
            pulse = b.before;
            depth = s.depth;
            origin = origin_less design b.before.arcs cell b.pin out row of passive s.depth (subst (λ (xs : List PathArc). Origin design xs s.depth) arcs s.origin);
            sum = ap (λ (x : ℕ). x + e) (sym b.same_number) ∙ s.sum;
          }) in
          (b.pin, causes.0, subst (λ (x : ℕ). V x ≡ true) same_net value)

      passive_valued : (passive : is_gate row.kind ≡ false) → Follow row.low row.high (flat_map (times_of run.pulses) nets) (times_of run.pulses net) → ((pin mid : ℕ) → pin < length row.inputs → Reads design.flat (reader.Pin cell pin) mid → Valued mid) → Valued net
      passive_valued passive follow each =
          let rule = rules.passive net cell out row nets is of passive inputs in
          record {
            up = λ one.
                (let found = any_map V nets (sym rule ∙ one) in
                let input : found.0 < length row.inputs = (let c = input_count design.flat cell row nets inputs in let l = found.1 in omega arith) in
                let reads = input_net design.flat cell row nets inputs found.0 input in
                passive_up passive follow found.0 found.1 input reads ((each found.0 (get_or nets found.0 0) input reads).up found.2));
            down = λ s. elim (pulse_last design run net s.place s.pulse) [
              | inl (nil, first, place) ↦ absurd (not_from_port net s.place s.pulse cell out is first)
              | inr b ↦ (let found = passive_down passive each s b in rule ∙ any_map_from V nets found.0 found.1 found.2)
            ];
          }

      module _ (clock : ℕ) (gate : is_gate row.kind ≡ true) (clock_reads : Reads design.flat (reader.Pin cell (clock_pin row)) clock) (follow : Follow row.low row.high (firings row out run.pulses nets clock) (times_of run.pulses net)) (depth : ℕ)
          (has : HasDepth design (reader.Pin cell 0) (pos depth)) where
        -- a pulse on the output came from a clock entry at which the gate fired
        pub record Fired (s : MeetsNegation net) : Type 0 where
          pub place : ℕ
          pub fired : fires run.pulses row out nets clock (time_at run.pulses clock place) ≡ true
          pub sum : place + e ≡ j + depth

        gate_back : (s : MeetsNegation net) → PulseBefore design run net s.place s.pulse → Fired s
        gate_back s b =
            let back = goes_back b.cell b.pin b.out b.mid b.place net s.place cell out row nets b.on is of inputs in
            let causes : Causes true run.pulses row nets b.pin out b.mid b.place s.place = subst (λ g. Causes g run.pulses row nets b.pin out b.mid b.place s.place) gate back.causes in
            let at_clock : b.pin ≡ clock_pin row = subst (λ g. IsPassedFrom g row b.pin) gate back.passed in
            let mid_reads : Reads design.flat (reader.Pin cell (clock_pin row)) b.mid = subst (λ (p : ℕ). Reads design.flat (reader.Pin cell p) b.mid) at_clock back.reads in
            let same_net : b.mid ≡ clock = ready.numbered.one_read (reader.Pin cell (clock_pin row)) b.mid clock mid_reads clock_reads in
            let arcs : s.pulse.arcs ≡ b.before.arcs ++ arc.Through cell b.pin out ∷ [] = b.parts ∙ ap (λ (x : PathArc). b.before.arcs ++ x ∷ []) back.same_arc in
            let placed : number design run rank ready is_run b.mid b.place b.before ≡ b.place = (clock_clean design run rank ready is_run cell b.mid row of gate mid_reads b.place b.before).1 in
            let clean = on_clock_pin design ready.one_clock ready.data_on_clock cell row b.mid of gate mid_reads (lane_of design run b.mid b.place b.before) in
            let deep = origin_gate design b.before.arcs cell b.pin out row of gate clean.1 s.depth (subst (λ (xs : List PathArc). Origin design xs s.depth) arcs s.origin) in
            let same_depth : s.depth ≡ depth = depth_one design s.depth depth deep has in
            let sum : number design run rank ready is_run b.mid b.place b.before + e ≡ j + s.depth = ap (λ (x : ℕ). x + e) (sym b.same_number) ∙ s.sum in
            record {
              place = b.place;
              fired = subst (λ (x : ℕ). fires run.pulses row out nets x (time_at run.pulses x b.place) ≡ true) same_net causes.1;
              sum = ap (λ (x : ℕ). x + e) (sym placed) ∙ sum ∙ ap (λ (x : ℕ). j + x) same_depth;
            }

        gate_bound : Bounded net → j + depth < run.clocks + e
        gate_bound bounded =
            let lane = lane_at design rank ready (reader.Pin cell (clock_pin row)) clock clock_reads in
            let on : ArcLeads design clock (arc.Through cell (clock_pin row) out) net = (row, of, subst (λ b. IsPassedFrom b row (clock_pin row)) (sym gate) refl, clock_reads, is) in
            let longer = lane_on design clock lane cell (clock_pin row) out net row of on row.low (least design rank ready row cell of) true gate
            (λ h. let clean = on_clock_pin design ready.one_clock ready.data_on_clock cell row clock of gate clock_reads lane in (clean.1, clean.2)) in
            bounded longer.0 depth (subst (λ (xs : List PathArc). Origin design xs depth) (sym longer.1) (origin_here design lane.arcs cell (clock_pin row) out row of gate depth has))

        -- the firing at a clock entry as a pulse of the output
        gate_up : (k : ℕ) → k < length (times_of run.pulses clock) → k + e ≡ j + depth → fires run.pulses row out nets clock (time_at run.pulses clock k) ≡ true → MeetsNegation net
        gate_up k within entry fired =
            let kept = kept_at (fires run.pulses row out nets clock) (times_of run.pulses clock) k within
            (λ d. subst (λ (t : ℤ). fires run.pulses row out nets clock t ≡ true) (get_or_default (times_of run.pulses clock) k (pos 0) d within) fired) in
            let i : ℕ = length (filter (fires run.pulses row out nets clock) (take k (times_of run.pulses clock))) in
            let near : IsWithin row.low row.high (time_at run.pulses net i -ℤ time_at run.pulses clock k) =
            subst (λ (c : ℤ). IsWithin row.low row.high (time_at run.pulses net i -ℤ c)) (kept.same (pos 0)) (zip_at (λ c p. IsWithin row.low row.high (p -ℤ c)) (firings row out run.pulses nets clock) (times_of run.pulses net) i (pos 0) (pos 0) follow kept.below) in
            let same : length (firings row out run.pulses nets clock) ≡ length (times_of run.pulses net) = zip_length (λ c p. IsWithin row.low row.high (p -ℤ c)) (firings row out run.pulses nets clock) (times_of run.pulses net) follow in
            let a = clock_pulse design run rank ready is_run cell clock row of gate clock_reads k within in
            let placed : number design run rank ready is_run clock k a ≡ k = (clock_clean design run rank ready is_run cell clock row of gate clock_reads k a).1 in
            let clean = on_clock_pin design ready.one_clock ready.data_on_clock cell row clock of gate clock_reads (lane_of design run clock k a) in
            let b = pulse_on design run clock k a cell (clock_pin row) out net i row of
            (row, nets, of, inputs, subst (λ b. IsPassedFrom b row (clock_pin row)) (sym gate) refl, clock_reads, is, subst (λ b. Causes b run.pulses row nets (clock_pin row) out clock k i) (sym gate) (within, fired, refl)) near true gate (λ h. (clean.1, clean.2)) in
            record {
              place = i;
              below = (let h = kept.below in omega arith);
              pulse = b.0;
              depth = depth;
              origin = subst (λ (xs : List PathArc). Origin design xs depth) (sym b.1) (origin_here design a.arcs cell (clock_pin row) out row of gate depth has);
              sum = ap (λ (x : ℕ). x + e) (b.2 ∙ placed) ∙ entry;
            }

        gate_late : Bounded net → e ≤ j + depth → ((at mid : ℕ) → at < length row.inputs → Reads design.flat (reader.Pin cell at) mid → NotClock design mid → Bounded mid → Valued mid) → Valued net
        gate_late bounded late each =
            let k : ℕ = j + depth - e in
            let entry : k + e ≡ j + depth = omega arith in
            let bound = gate_bound bounded in
            let l : k < run.clocks = omega arith in
            let within : k < length (times_of run.pulses clock) = (let c = clock_entries design run rank ready is_run cell clock row of gate clock_reads in omega arith) in
            let bits = gate_bits cell clock row of gate clock_reads depth k has entry low l nets inputs
            (λ at mid input reads. each at mid input reads (no_clock cell at mid row of gate input reads) (pin_bounded cell clock row of gate clock_reads depth k has entry low at mid reads.0 input reads.1 l)) in
            let rule : V net ≡ truth_at row out (map V nets) = rules.gate net cell out row nets depth k is of gate low inputs has entry in
            let same : V net ≡ fires run.pulses row out nets clock (time_at run.pulses clock k) = rule ∙ ap (λ (bs : List Bool). truth_at row out bs) (sym bits) in
            record {
              up = λ one. gate_up k within entry (sym same ∙ one);
              down = λ s. elim (pulse_last design run net s.place s.pulse) [
                | inl (nil, first, place) ↦ absurd (not_from_port net s.place s.pulse cell out is first)
                | inr b ↦ (let back = gate_back s b in same ∙ subst (λ (x : ℕ). fires run.pulses row out nets clock (time_at run.pulses clock x) ≡ true) (one_entry back.place k back.sum entry) back.fired)
              ];
            }
          where
            one_entry : (p k : ℕ) → p + e ≡ j + depth → k + e ≡ j + depth → p ≡ k
            one_entry p k one two = omega arith

        gate_early : j + depth < e → Valued net
        gate_early early =
            let rule = rules.before net cell out row depth is of gate low has early in
            record {
              up = λ one. absurd (false≢true (sym rule ∙ one));
              down = λ s. elim (pulse_last design run net s.place s.pulse) [
                | inl (nil, first, place) ↦ absurd (not_from_port net s.place s.pulse cell out is first)
                | inr b ↦ (let back = gate_back s b in let sum = back.sum in absurd (omega arith))
              ];
            }

        gate_valued : Bounded net → ((at mid : ℕ) → at < length row.inputs → Reads design.flat (reader.Pin cell at) mid → NotClock design mid → Bounded mid → Valued mid) → Valued net
        gate_valued bounded each = elim (cases_lt (j + depth) e) [
          | inl early ↦ gate_early early
          | inr late ↦ gate_late bounded late each
        ]

      cell_valued : NotClock design net → Bounded net → ComesOut row.kind row design.flat cell out run.pulses nets (times_of run.pulses net) → ((at mid : ℕ) → Reads design.flat (reader.Pin cell at) mid → NotClock design mid → Bounded mid → Valued mid) → Valued net
      cell_valued none bounded comes each = elim (comes_out row.kind row design.flat cell out run.pulses nets (times_of run.pulses net) comes) [
        | inl (passive, follow) ↦
            passive_valued passive follow
            (λ at mid input reads.
            let on : ArcLeads design mid (arc.Through cell at out) net = (row, of, subst (λ b. IsPassedFrom b row at) (sym passive) input, reads, is) in
            each at mid reads (not_clock_before design rank ready mid cell at out net row of passive on none)
            (λ lane depth origin.
            let longer = lane_on design mid lane cell at out net row of on row.low (least design rank ready row cell of) false passive (λ h. absurd (false≢true h)) in
            bounded longer.0 depth (subst (λ (xs : List PathArc). Origin design xs depth) (sym longer.1) (origin_more design lane.arcs cell at out row of passive depth origin))))
        | inr (gate, clock, reads, follow) ↦
            (let deep = gate_depth design rank ready top timed cell row low of gate (pins_of design rank ready top timed cell row of gate out net is) in
            gate_valued clock gate reads follow deep.0 deep.1 bounded (λ at mid input r. each at mid r))
      ]

    -- the induction along the order of the circuit
    pub valued : (r net : ℕ) (d : Driver) → IsDrivenBy design.flat net d → level design run rank d < r → level design run rank d ≤ top → NotClock design net → Bounded net → Valued net
    valued zero net d is l low none bounded = absurd (omega arith)
    valued (suc r) net (driver.Port port) is l low none bounded = let sent = is_run.sent net (driver.Port port) is in port_valued net port sent.0 is sent.1 sent.2 none
    valued (suc r) net (driver.Out cell out) is l low none bounded =
        let sent = is_run.sent net (driver.Out cell out) is in
        cell_valued net cell out sent.0 sent.1 is sent.2 sent.3 (omega arith) none bounded sent.4
        (λ at mid reads none' bounded'.
        let d = ready.numbered.has_driver (reader.Pin cell at) mid reads in
        let less = lower design run rank ready.ranked (suc (rank cell)) cell at mid d.0 d.1 reads (omega arith) in
        valued r mid d.0 d.1 (omega arith) (omega arith) none' bounded')

    level_low : (net : ℕ) (d : Driver) → IsDrivenBy design.flat net d → ((cell out : ℕ) → IsDrivenBy design.flat net (driver.Out cell out) → rank cell < top) → level design run rank d ≤ top
    level_low net (driver.Port port) is low = omega arith
    level_low net (driver.Out cell out) is low = let l = low cell out is in omega arith

    pub valued_at : (from : Reader) (net : ℕ) → Reads design.flat from net → ((cell out : ℕ) → IsDrivenBy design.flat net (driver.Out cell out) → rank cell < top) → NotClock design net → Bounded net → Valued net
    valued_at from net reads low none bounded =
        let d = ready.numbered.has_driver from net reads in valued (suc (level design run rank d.0)) net d.0 d.1 (omega arith) (level_low net d.0 d.1 low) none bounded

    -- a gate's clock entry finds the values of its data pins
    pub gate_finds : (cell clock at net : ℕ) (row : CellRow) (depth k : ℕ) → IsOf design cell row → is_gate row.kind ≡ true → at < length row.inputs → Reads design.flat (reader.Pin cell at) net → Reads design.flat (reader.Pin cell (clock_pin row)) clock →
        HasDepth design (reader.Pin cell 0) (pos depth) → k + e ≡ j + depth → rank cell < top → k < run.clocks → is_present (times_of run.pulses net) (times_of run.pulses clock) (time_at run.pulses clock k) ≡ V net
    gate_finds cell clock at net row depth k of gate input reads clock_reads has entry low l =
        pin_value cell clock row of gate clock_reads depth k has entry low at net reads.0 input reads.1 l
        (valued_at (reader.Pin cell at) net reads (λ c p driven. let below = ready.ranked cell c (at, p, net, driven, reads) in omega arith) (no_clock cell at net row of gate input reads) (pin_bounded cell clock row of gate clock_reads depth k has entry low at net reads.0 input reads.1 l))

    -- a bit of an output shows its value
    pub output_shows : (port net : ℕ) (strobe : Strobe) (depth k : ℕ) → IsUsed design.bench port (port_use.Strobed strobe) → Reads design.flat (reader.Port port) net → HasDepth design (reader.Port port) (pos depth) → k + e ≡ j + depth → IsTimedAt design (reader.Port port) →
        ((cell out : ℕ) → IsDrivenBy design.flat net (driver.Out cell out) → rank cell < top) → k < run.clocks →
        stream_bit strobe run.tick k (times_of run.pulses net) ≡ V net
    output_shows port net strobe depth k used reads has entry timed_at low l =
        bool_same _ _
        (λ shown.
        let found = stream_to design run rank ready is_run port net reads.0 strobe used reads.1 k (λ i a. steps (lane_of design run net i a)) shown in
        let origin = origin_of design rank ready top timed net low (lane_of design run net found.place found.pulse) in
        let sum = sum_law design rank ready top timed net none (lane_of design run net found.place found.pulse) origin.0 origin.1 (reader.Port port) reads.0 reads.1 found.steps found.has (reader.Port port) (net, reads.1) depth has in
        value.down (record {
          place = found.place;
          below = found.below;
          pulse = found.pulse;
          depth = origin.0;
          origin = origin.1;
          sum = to_origin _ found.steps k e j depth origin.0 found.sum entry sum;
        }))
        (λ one.
        let s = value.up one in
        let q = steps (lane_of design run net s.place s.pulse) in
        let sum = sum_law design rank ready top timed net none (lane_of design run net s.place s.pulse) s.depth s.origin (reader.Port port) reads.0 reads.1 q.0 q.1 (reader.Port port) (net, reads.1) depth has in
        stream_from design run rank ready is_run port net reads.0 strobe used reads.1 k s.place s.below s.pulse q.0 q.1 (to_entry _ q.0 k e j depth s.depth s.sum entry sum))
      where
        none : NotClock design net
        none arcs route = ready.clock_out reads.0 arcs (port, net, reads.1, route)

        steps : (lane : Lane design net) → (q : ℕ) × HasSteps design (arc.Port lane.port ∷ lane.arcs) reads.0 (pos q)
        steps lane =
            let lengths = ready.strobes port strobe used in
            output_steps design ready.period.from reads.0 port net strobe reads.1 used lengths.0.from lengths.1.from (arc.Port lane.port ∷ lane.arcs) (lane_path design net lane) (timed_at.no_window reads.0 (net, reads.1)) (lane.delay ∷ lane.delays) (lane_delays design net lane) (timed_at.no_ahead reads.0 (net, reads.1))

        bounded : Bounded net
        bounded lane from origin =
            let q = steps lane in
            let sum = sum_law design rank ready top timed net none lane from origin (reader.Port port) reads.0 reads.1 q.0 q.1 (reader.Port port) (net, reads.1) depth has in omega arith

        value : Valued net
        value = valued_at (reader.Port port) net reads low none bounded
