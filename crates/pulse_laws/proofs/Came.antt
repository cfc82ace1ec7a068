-- Each pulse of a run came along a path from a port.
use Rattle.std.proofs.Common.{◌≡◌, ℕ, zero, suc, ◌+◌, ◌<◌, ◌≤◌, Bool, true, false, cond, ◌⊎◌, ℤ, pos, ◌+ℤ◌, ◌-ℤ◌, List, [], ◌∷◌, ◌++◌, length, get_or, refl, sym, ap, ◌∙◌, subst, arith, inl, inr}
use Rattle.std.proofs.lemmas.Int.{ints}
use Rattle.std.proofs.lemmas.Bool.{false≢true}
use Rattle.std.proofs.lemmas.List.Sums.{sum_by-append}
use Rattle.std.specs.Option.{option_map_or}
use Rattle.std.proofs.lemmas.List.FromFn.{length-range_with_len, get_or-range_with_len}
use Rattle.std.specs.List.{flat_map, range_with_len, AllZip, count_by}
use Rattle.rsfq_ids.specs.declared.table.CellRow.{CellRow}
use Rattle.rsfq_ids.specs.declared.table.Kind.{Kind}
use Rattle.rsfq_ids.specs.declared.table.Kind.TheVariants as kind
use Rattle.rsfq_ids.specs.declared.circuit.Flat.{Flat}
use Rattle.rsfq_ids.specs.declared.circuit.PortUse.{PortUse}
use Rattle.rsfq_ids.specs.declared.circuit.Driver.{Driver}
use Rattle.rsfq_ids.specs.declared.circuit.Driver.TheVariants as driver
use Rattle.rsfq_ids.specs.declared.circuit.Reader.TheVariants as reader
use Rattle.rsfq_ids.specs.declared.offence.PathArc.{PathArc}
use Rattle.rsfq_ids.specs.declared.offence.PathArc.TheVariants as arc
use Rattle.rsfq_ids.specs.Time.{IsWithin, Follow}
use Rattle.rsfq_ids.specs.Circuit.{IsDrivenBy, Reads, IsOf, InputNets, is_gate, clock_pin}
use Rattle.rsfq_ids.specs.Bench.{IsUsed}
use Rattle.rsfq_ids.specs.Run.{Run, IsRun, times_of, firings, ComesOut, numbers_of, IsPortDelay}
use Rattle.rsfq_ids.specs.Path.{IsDelay, IsPassedFrom, passes}
use Rattle.rsfq_ids.specs.Offence.{ReadsFrom}
use Rattle.pulse_laws.proofs.Flows.{flows_more}
use Rattle.pulse_laws.proofs.Places.{CameFrom, joined_place, Passed, filtered_place}
use Rattle.pulse_laws.proofs.Zips.{zip_length, zip_at, zip_push}
use Rattle.rsfq_ids.specs.Design.{Design}
use Rattle.pulse_laws.specs.Flows.{time_at, fires, Causes, GoesOn, Came}

-- what comes out of a cell, by whether it is a gate
pub comes_out : (k : Kind) (row : CellRow) (flat : Flat) (cell out : ℕ) (pulses : List (List ℤ)) (nets : List ℕ) (times : List ℤ) → ComesOut k row flat cell out pulses nets times →
    ((is_gate k ≡ false) × Follow row.low row.high (flat_map (times_of pulses) nets) times)
    ⊎ ((is_gate k ≡ true) × (clock : ℕ) × Reads flat (reader.Pin cell (clock_pin row)) clock × Follow row.low row.high (firings row out pulses nets clock) times)
comes_out kind.Jtl row flat cell out pulses nets times comes = inl (refl, comes)
comes_out kind.Split row flat cell out pulses nets times comes = inl (refl, comes)
comes_out kind.Merge row flat cell out pulses nets times comes = inl (refl, comes)
comes_out kind.Gate row flat cell out pulses nets times comes = inr (refl, comes.0, comes.1, comes.2)

pub one_more : (gate : Bool) (before after : ℕ) → after ≡ before + cond gate 1 0 → before ≤ 1 → (gate ≡ true → before ≡ 0) → after ≤ 1
one_more true before after sum one none = let e = none refl in omega arith
one_more false before after sum one none = omega arith

pub clocked_more : (gate : Bool) (before after : ℕ) (P : Type 0) → after ≡ before + cond gate 1 0 → (0 < before → P) → (gate ≡ true → P) → 0 < after → P
clocked_more true before after P sum some gate l = gate refl
clocked_more false before after P sum some gate l = some (omega arith)

pub split_delay : (to from : ℤ) → to ≡ (from +ℤ (to -ℤ from))
split_delay to from = omega (arith, ints)

module _ (design : Design) (run : Run) where
  -- how many gates the arcs pass
  abbrev pub gates : List PathArc → ℕ
  gates arcs = count_by (passes is_gate design) arcs

  pub gates_more : (arcs : List PathArc) (cell pin out : ℕ) (row : CellRow) (gate : Bool) → IsOf design cell row → is_gate row.kind ≡ gate → gates (arcs ++ arc.Through cell pin out ∷ []) ≡ gates arcs + cond gate 1 0
  gates_more arcs cell pin out row gate of is =
      let here : passes is_gate design (arc.Through cell pin out) ≡ gate = ap (λ o. option_map_or (λ row. is_gate row.kind) o false) of ∙ is in
      sum_by-append (λ a. cond (passes is_gate design a) 1 0) arcs (arc.Through cell pin out ∷ []) ∙ rw here (omega arith)

  -- a pulse that goes on through a cell
  came_on : (net k : ℕ) → (came : Came design run net k) → (cell pin out next i : ℕ) (row : CellRow) → IsOf design cell row → GoesOn design run.pulses (arc.Through cell pin out) net k next i →
      IsWithin row.low row.high (time_at run.pulses next i -ℤ time_at run.pulses net k) → (gate : Bool) → is_gate row.kind ≡ gate → (gate ≡ true → (gates came.arcs ≡ 0) × (came.port ≡ design.bench.clock)) → Came design run next i
  came_on net k came cell pin out next i row of on within gate is clean =
      let count : gates (came.arcs ++ arc.Through cell pin out ∷ []) ≡ gates came.arcs + cond gate 1 0 = gates_more came.arcs cell pin out row gate of is in
      let delay : ℤ = time_at run.pulses next i -ℤ time_at run.pulses net k in
      record {
        port = came.port;
        used = came.used;
        is_used = came.is_used;
        place = came.place;
        launched = came.launched;
        first = came.first;
        driven = came.driven;
        delay = came.delay;
        port_delay = came.port_delay;
        start = came.start;
        arcs = came.arcs ++ arc.Through cell pin out ∷ [];
        delays = came.delays ++ delay ∷ [];
        flows = flows_more design run.pulses came.first came.place came.arcs came.delays net k (arc.Through cell pin out) delay next i came.flows on (split_delay (time_at run.pulses next i) (time_at run.pulses net k));
        arc_delays = zip_push (IsDelay design) came.arcs came.delays (arc.Through cell pin out) delay came.arc_delays (row, of, within);
        one_gate = one_more gate (gates came.arcs) _ count came.one_gate (λ e. (clean e).0);
        clocked = clocked_more gate (gates came.arcs) _ (came.port ≡ design.bench.clock) count came.clocked (λ e. (clean e).1);
      }

  -- how deep a driver lies
  abbrev pub level : (ℕ → ℕ) → Driver → ℕ
  level rank (driver.Port port) = 0
  level rank (driver.Out cell out) = suc (rank cell)

  pub lower : (rank : ℕ → ℕ) → ((cell before : ℕ) → ReadsFrom design.flat cell before → rank before < rank cell) → (r cell pin net : ℕ) (d : Driver) → IsDrivenBy design.flat net d → Reads design.flat (reader.Pin cell pin) net → rank cell < r → level rank d < r
  lower rank falls r cell pin net (driver.Port port) is reads l = omega arith
  lower rank falls r cell pin net (driver.Out before out) is reads l = let h = falls cell before (pin, out, net, is, reads) in omega arith

  from_port : (net port k : ℕ) (used : PortUse) → IsDrivenBy design.flat net (driver.Port port) → IsUsed design.bench port used →
      AllZip (λ number pulse. IsPortDelay design.bench used (pulse -ℤ run.tick number)) (numbers_of used design.bench port run) (times_of run.pulses net) → k < length (times_of run.pulses net) → Came design run net k
  from_port net port k used is is_used zip within =
      let same : length (numbers_of used design.bench port run) ≡ length (times_of run.pulses net) = zip_length (λ number pulse. IsPortDelay design.bench used (pulse -ℤ run.tick number)) (numbers_of used design.bench port run) (times_of run.pulses net) zip in
      let launched : k < length (numbers_of used design.bench port run) = omega arith in
      record {
        port = port;
        used = used;
        is_used = is_used;
        place = k;
        launched = launched;
        first = net;
        driven = is;
        delay = time_at run.pulses net k -ℤ run.tick (get_or (numbers_of used design.bench port run) k 0);
        port_delay = zip_at (λ number pulse. IsPortDelay design.bench used (pulse -ℤ run.tick number)) (numbers_of used design.bench port run) (times_of run.pulses net) k 0 (pos 0) zip launched;
        start = split_delay (time_at run.pulses net k) (run.tick (get_or (numbers_of used design.bench port run) k 0));
        arcs = [];
        delays = [];
        flows = (refl, refl);
        arc_delays = tt;
        one_gate = omega arith;
        clocked = λ l. absurd (omega arith);
      }

  -- the pulses at the pins of a cell came along paths
  abbrev Earlier : ℕ → Type 0
  Earlier cell = (net pin : ℕ) → Reads design.flat (reader.Pin cell pin) net → (j : ℕ) → j < length (times_of run.pulses net) → Came design run net j

  -- a pulse at a gate's clock pin passed no gate, and came from the clock port
  abbrev pub OnClock : Type 0
  OnClock = (cell : ℕ) (row : CellRow) (net k : ℕ) → IsOf design cell row → is_gate row.kind ≡ true → Reads design.flat (reader.Pin cell (clock_pin row)) net → (came : Came design run net k) → (gates came.arcs ≡ 0) × (came.port ≡ design.bench.clock)

  pub pin_reads : (cell : ℕ) (row : CellRow) (nets : List ℕ) → InputNets design.flat cell row nets → (pin : ℕ) → pin < length nets → (pin < length row.inputs) × Reads design.flat (reader.Pin cell pin) (get_or nets pin 0)
  pin_reads cell row nets inputs pin l =
      let same : length (range_with_len 0 (length row.inputs)) ≡ length nets = zip_length (λ p net. Reads design.flat (reader.Pin cell p) net) (range_with_len 0 (length row.inputs)) nets inputs in
      let count : length (range_with_len 0 (length row.inputs)) ≡ length row.inputs = length-range_with_len 0 (length row.inputs) in
      let here : get_or (range_with_len 0 (length row.inputs)) pin 0 ≡ pin = get_or-range_with_len 0 (length row.inputs) pin 0 (omega arith) ∙ omega arith in (
        omega arith,
        subst (λ (p : ℕ). Reads design.flat (reader.Pin cell p) (get_or nets pin 0)) here
            (zip_at (λ p net. Reads design.flat (reader.Pin cell p) net) (range_with_len 0 (length row.inputs)) nets pin 0 0 inputs (omega arith)),
      )

  came_joined : (net k cell out : ℕ) (row : CellRow) (nets : List ℕ) → IsDrivenBy design.flat net (driver.Out cell out) → IsOf design cell row → InputNets design.flat cell row nets → is_gate row.kind ≡ false →
      Follow row.low row.high (flat_map (times_of run.pulses) nets) (times_of run.pulses net) → k < length (flat_map (times_of run.pulses) nets) → Earlier cell → CameFrom (times_of run.pulses) nets k → Came design run net k
  came_joined net k cell out row nets is of inputs passive follow l earlier place =
      let reads = pin_reads cell row nets inputs place.pin place.pin_in in
      let from : ℕ = get_or nets place.pin 0 in
      came_on from place.place (earlier from place.pin reads.1 place.place place.place_in) cell place.pin out net k row of (
        row,
        nets,
        of,
        inputs,
        subst (λ b. IsPassedFrom b row place.pin) (sym passive) reads.0,
        reads.1,
        is,
        subst (λ b. Causes b run.pulses row nets place.pin out from place.place k) (sym passive) (place.pin_in, place.place_in, place.sum),
      )
      (subst (λ (c : ℤ). IsWithin row.low row.high (time_at run.pulses net k -ℤ c)) (place.same (pos 0))
      (zip_at (λ c p. IsWithin row.low row.high (p -ℤ c)) (flat_map (times_of run.pulses) nets) (times_of run.pulses net) k (pos 0) (pos 0) follow l))
      false passive (λ e. absurd (false≢true e))

  came_fired : (net k cell out : ℕ) (row : CellRow) (nets : List ℕ) (clock : ℕ) → IsDrivenBy design.flat net (driver.Out cell out) → IsOf design cell row → InputNets design.flat cell row nets → is_gate row.kind ≡ true →
      Reads design.flat (reader.Pin cell (clock_pin row)) clock → Follow row.low row.high (firings row out run.pulses nets clock) (times_of run.pulses net) → k < length (firings row out run.pulses nets clock) →
      (place : Passed (fires run.pulses row out nets clock) (times_of run.pulses clock) k) → (before : Came design run clock place.place) → (gates before.arcs ≡ 0) × (before.port ≡ design.bench.clock) → Came design run net k
  came_fired net k cell out row nets clock is of inputs gate reads follow l place before clean =
      came_on clock place.place before cell (clock_pin row) out net k row of (
        row,
        nets,
        of,
        inputs,
        subst (λ b. IsPassedFrom b row (clock_pin row)) (sym gate) refl,
        reads,
        is,
        subst (λ b. Causes b run.pulses row nets (clock_pin row) out clock place.place k) (sym gate) (place.within, place.passes (pos 0), place.count),
      )
      (subst (λ (c : ℤ). IsWithin row.low row.high (time_at run.pulses net k -ℤ c)) (place.same (pos 0))
      (zip_at (λ c p. IsWithin row.low row.high (p -ℤ c)) (firings row out run.pulses nets clock) (times_of run.pulses net) k (pos 0) (pos 0) follow l))
      true gate (λ e. clean)

  from_cell : (net k cell out : ℕ) (row : CellRow) (nets : List ℕ) → IsDrivenBy design.flat net (driver.Out cell out) → IsOf design cell row → InputNets design.flat cell row nets →
      ComesOut row.kind row design.flat cell out run.pulses nets (times_of run.pulses net) → k < length (times_of run.pulses net) → Earlier cell → OnClock → Came design run net k
  from_cell net k cell out row nets is of inputs comes within earlier on_clock =
      elim (comes_out row.kind row design.flat cell out run.pulses nets (times_of run.pulses net) comes) [
        | inl (passive, follow) ↦
            (let same : length (flat_map (times_of run.pulses) nets) ≡ length (times_of run.pulses net) = zip_length (λ c p. IsWithin row.low row.high (p -ℤ c)) (flat_map (times_of run.pulses) nets) (times_of run.pulses net) follow in
            came_joined net k cell out row nets is of inputs passive follow (omega arith) earlier (joined_place (times_of run.pulses) nets k (omega arith)))
        | inr (gate, clock, reads, follow) ↦
            (let same : length (firings row out run.pulses nets clock) ≡ length (times_of run.pulses net) = zip_length (λ c p. IsWithin row.low row.high (p -ℤ c)) (firings row out run.pulses nets clock) (times_of run.pulses net) follow in
            let place = filtered_place (fires run.pulses row out nets clock) (times_of run.pulses clock) k (omega arith) in
            let before = earlier clock (clock_pin row) reads place.place place.within in
            came_fired net k cell out row nets clock is of inputs gate reads follow (omega arith) place before (on_clock cell row clock place.place of gate reads before))
      ]

  module _ (is_run : IsRun design run) (rank : ℕ → ℕ) (falls : (cell before : ℕ) → ReadsFrom design.flat cell before → rank before < rank cell) (has_driver : (net cell pin : ℕ) → Reads design.flat (reader.Pin cell pin) net → (d : Driver) × IsDrivenBy design.flat net d) (on_clock : OnClock) where
    pub came : (r net : ℕ) (d : Driver) → IsDrivenBy design.flat net d → level rank d < r → (k : ℕ) → k < length (times_of run.pulses net) → Came design run net k
    came zero net d is l k within = absurd (omega arith)
    came (suc r) net (driver.Port port) is l k within =
        let sent = is_run.sent net (driver.Port port) is in
        from_port net port k sent.0 is sent.1 sent.2 within
    came (suc r) net (driver.Out cell out) is l k within =
        let sent = is_run.sent net (driver.Out cell out) is in
        from_cell net k cell out sent.0 sent.1 is sent.2 sent.3 sent.4 within
        (λ m pin reads j below. let d = has_driver m cell pin reads in came r m d.0 d.1 (lower rank falls r cell pin m d.0 d.1 reads (omega arith)) j below) on_clock
