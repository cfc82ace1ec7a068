-- Each net has a lane, each lane an origin, and each gate a depth.
use Rattle.std.proofs.Common.{◌≡◌, ◌≢◌, ℕ, zero, suc, ◌+◌, ◌<◌, ◌≤◌, Bool, true, false, cond, ◌⊎◌, ℤ, pos, ◌+ℤ◌, ◌<ℤ◌, List, [], ◌∷◌, ◌++◌, length, get_or, refl, sym, ap, ◌∙◌, subst, arith, inl, inr, length-append}
use Rattle.std.proofs.lemmas.Int.{ints, by_lt_z}
use Rattle.std.proofs.lemmas.Bool.{false≢true}
use Rattle.std.proofs.lemmas.List.Sums.{sum_by-cons}
use Rattle.std.proofs.lemmas.List.FromFn.{length-range_with_len, get_or-range_with_len}
use Rattle.std.specs.Prelude.{Option, Some, None}
use Rattle.std.specs.List.{Contains, range_with_len}
use Rattle.rsfq_ids.specs.declared.table.CellRow.{CellRow}
use Rattle.rsfq_ids.specs.declared.table.Kind.{Kind}
use Rattle.rsfq_ids.specs.declared.table.Kind.TheVariants as kind
use Rattle.rsfq_ids.specs.declared.circuit.Flat.{Flat}
use Rattle.rsfq_ids.specs.declared.circuit.PortUse.{PortUse}
use Rattle.rsfq_ids.specs.declared.circuit.PortUse.TheVariants as port_use
use Rattle.rsfq_ids.specs.declared.circuit.Driver.{Driver}
use Rattle.rsfq_ids.specs.declared.circuit.Driver.TheVariants as driver
use Rattle.rsfq_ids.specs.declared.circuit.Reader.{Reader}
use Rattle.rsfq_ids.specs.declared.circuit.Reader.TheVariants as reader
use Rattle.rsfq_ids.specs.declared.offence.PathArc.{PathArc}
use Rattle.rsfq_ids.specs.declared.offence.PathArc.TheVariants as arc
use Rattle.rsfq_ids.specs.declared.offence.TrailHop.{TrailHop}
use Rattle.rsfq_ids.specs.Time.{IsWithin}
use Rattle.rsfq_ids.specs.Circuit.{IsDrivenBy, IsPin, Reads, IsOf, InputNets, is_gate, clock_pin}
use Rattle.rsfq_ids.specs.Bench.{IsUsed, is_data}
use Rattle.rsfq_ids.specs.Run.{IsPortDelay}
use Rattle.rsfq_ids.specs.Path.{IsPassedFrom, ArcLeads, ArcsLead, IsClockRoute, HasSteps, EndsAt, IsHop, AreHops, IsTrail, steps_of, HasDepth, passes}
use Rattle.rsfq_ids.specs.Numbering.{IsRanked}
use Rattle.rsfq_ids.specs.WellFormed.{FitsKind, IsPositiveTime}
use Rattle.pulse_laws.proofs.Zips.{zip_length, zip_at}
use Rattle.pulse_laws.specs.Premises.{IsTimedAt, IsTimedBelow}
use Rattle.pulse_laws.proofs.Last.{lead_last, lead_more}
use Rattle.pulse_laws.proofs.Lanes.{Lane, lane_path, lane_delays, lane_on, on_clock_pin, is_clock_route, gates_in, joins_in, passes_at, count_last, none_before}
use Rattle.pulse_laws.proofs.Steps.{pin_steps}
use Rattle.rsfq_ids.specs.Design.{Design}
use Rattle.rsfq_ids.specs.Ready.{IsReady}
use Rattle.pulse_laws.proofs.Straight.{no_copy}

int_same : (a b : ℤ) → (a ≢ b → ⊥) → a ≡ b
int_same a b none = by_lt_z a b (λ h. absurd (none (λ e. below a b h e))) (λ h. by_lt_z b a (λ g. absurd (none (λ e. below b a g (sym e)))) (λ g. omega (arith, ints)))
  where
    below : (a b : ℤ) → a <ℤ b → a ≡ b → ⊥
    below a b h e = omega (arith, ints)

some_inputs : (k : Kind) (row : CellRow) → FitsKind k row → 1 ≤ length row.inputs
some_inputs kind.Jtl row fit = let e = fit.0 in omega arith
some_inputs kind.Split row fit = let e = fit.0 in omega arith
some_inputs kind.Merge row fit = let e = fit.0 in omega arith
some_inputs kind.Gate row fit = fit.0

pub record GateTimes (row : CellRow) : Type 0 where
  pub setup : IsPositiveTime row.setup
  pub hold : IsPositiveTime row.hold
  pub dead : IsPositiveTime row.dead

pub gate_times : (k : Kind) (row : CellRow) → is_gate k ≡ true → FitsKind k row → GateTimes row
gate_times kind.Jtl row is fit = cc
gate_times kind.Split row is fit = cc
gate_times kind.Merge row is fit = cc
gate_times kind.Gate row is fit = record { setup = fit.5; hold = fit.6; dead = fit.7 }

pub passive_kinds : (k : Kind) → is_gate k ≡ false → (no_copy k ≡ false) ⊎ (k ≡ kind.Merge)
passive_kinds kind.Jtl is = inl refl
passive_kinds kind.Split is = inl refl
passive_kinds kind.Merge is = inr refl
passive_kinds kind.Gate is = cc

abbrev pub hop_of : List PathArc → ℕ → ℕ → TrailHop
hop_of arcs pin q = record { arcs = arcs; pin = pin; steps = pos q }

pub steps_more : (hops : List TrailHop) (hop : TrailHop) → steps_of (hops ++ hop ∷ []) ≡ (steps_of hops +ℤ hop.steps)
steps_more [] hop = omega (arith, ints)
steps_more (h ∷ hops) hop = let e = steps_more hops hop in omega (arith, ints)

pub input_count : (flat : Flat) (cell : ℕ) (row : CellRow) (nets : List ℕ) → InputNets flat cell row nets → length nets ≡ length row.inputs
input_count flat cell row nets inputs = sym (zip_length (λ p net. Reads flat (reader.Pin cell p) net) (range_with_len 0 (length row.inputs)) nets inputs) ∙ length-range_with_len 0 (length row.inputs)

pub input_net : (flat : Flat) (cell : ℕ) (row : CellRow) (nets : List ℕ) → InputNets flat cell row nets → (pin : ℕ) → pin < length row.inputs → Reads flat (reader.Pin cell pin) (get_or nets pin 0)
input_net flat cell row nets inputs pin l =
    let count : length (range_with_len 0 (length row.inputs)) ≡ length row.inputs = length-range_with_len 0 (length row.inputs) in
    let here : get_or (range_with_len 0 (length row.inputs)) pin 0 ≡ pin = get_or-range_with_len 0 (length row.inputs) pin 0 (omega arith) ∙ omega arith in
    subst (λ (p : ℕ). Reads flat (reader.Pin cell p) (get_or nets pin 0)) here (zip_at (λ p net. Reads flat (reader.Pin cell p) net) (range_with_len 0 (length row.inputs)) nets pin 0 0 inputs (omega arith))

sum_zero : (b : Bool) (count sum : ℕ) → sum ≡ count + cond b 1 0 → count ≡ 0 → b ≡ false → sum ≡ 0
sum_zero true count sum e none alone = cc
sum_zero false count sum e none alone = omega arith

contains_head : (a : PathArc) (arcs : List PathArc) → Contains (a ∷ arcs) a
contains_head a arcs = (0, omega arith, refl)

contains_tail : (b a : PathArc) (arcs : List PathArc) → Contains arcs a → Contains (b ∷ arcs) a
contains_tail b a arcs has = (suc has.0, (let l = has.1 in omega arith), has.2)

module _ (design : Design) where
  -- a gate that a path passes, with its depth
  pub record ThroughGate (arcs : List PathArc) (depth : ℕ) : Type 0 where
    pub cell : ℕ
    pub pin : ℕ
    pub out : ℕ
    pub row : CellRow
    pub within : Contains arcs (arc.Through cell pin out)
    pub of : IsOf design cell row
    pub gate : is_gate row.kind ≡ true
    pub has : HasDepth design (reader.Pin cell 0) (pos depth)

  -- the depth at which pulses on a path begin: 0 at a data input, else that of the gate passed
  abbrev pub Origin : List PathArc → ℕ → Type 0
  Origin arcs depth = ((gates_in design arcs ≡ 0) × (depth ≡ 0)) ⊎ ThroughGate arcs depth

  abbrev pub NotClock : ℕ → Type 0
  NotClock net = (arcs : List PathArc) → ¬ IsClockRoute design arcs net

  -- one hop more
  pub hops_more : (start : Option ℕ) (hops : List TrailHop) (gate : ℕ) (hop : TrailHop) (to : Reader) → AreHops design start hops (reader.Pin gate 0) → IsHop design (Some gate) hop → EndsAt design hop.pin to →
      AreHops design start (hops ++ hop ∷ []) to
  hops_more start [] gate hop to are is ends = absurd are
  hops_more start (h ∷ []) gate hop to are is ends = (are.0, gate, are.1, (is, ends))
  hops_more start (h ∷ g ∷ hops) gate hop to are is ends = (are.0, are.1, are.2, hops_more (Some are.1) (g ∷ hops) gate hop to are.3 is ends)

  -- the first gate on a path
  pub record GateOn (net : ℕ) (arcs : List PathArc) (last : ℕ) : Type 0 where
    pub cell : ℕ
    pub pin : ℕ
    pub out : ℕ
    pub row : CellRow
    pub next : ℕ
    pub rest : List PathArc
    pub within : Contains arcs (arc.Through cell pin out)
    pub of : IsOf design cell row
    pub gate : is_gate row.kind ≡ true
    pub driven : IsDrivenBy design.flat next (driver.Out cell out)
    pub lead : ArcsLead design next rest last
    pub count : gates_in design arcs ≡ 1 + gates_in design rest

  gate_head : (net next last : ℕ) (a : PathArc) (arcs : List PathArc) → ArcLeads design net a next → ArcsLead design next arcs last → passes is_gate design a ≡ true → GateOn net (a ∷ arcs) last
  gate_head net next last (arc.Port port) arcs on lead is = absurd on
  gate_head net next last (arc.Through cell pin out) arcs (row, of, passed, reads, driven) lead is = record {
    cell = cell;
    pin = pin;
    out = out;
    row = row;
    next = next;
    rest = arcs;
    within = contains_head (arc.Through cell pin out) arcs;
    of = of;
    gate = sym (passes_at design is_gate cell pin out row of) ∙ is;
    driven = driven;
    lead = lead;
    count = sum_by-cons (λ x. cond (passes is_gate design x) 1 0) (arc.Through cell pin out) arcs ∙ ap (λ (b : Bool). cond b 1 0 + gates_in design arcs) is;
  }

  gate_tail : (net next last : ℕ) (a : PathArc) (arcs : List PathArc) → passes is_gate design a ≡ false → GateOn next arcs last → GateOn net (a ∷ arcs) last
  gate_tail net next last a arcs is g = record {
    cell = g.cell;
    pin = g.pin;
    out = g.out;
    row = g.row;
    next = g.next;
    rest = g.rest;
    within = contains_tail a (arc.Through g.cell g.pin g.out) arcs g.within;
    of = g.of;
    gate = g.gate;
    driven = g.driven;
    lead = g.lead;
    count = sum_by-cons (λ x. cond (passes is_gate design x) 1 0) a arcs ∙ ap (λ (b : Bool). cond b 1 0 + gates_in design arcs) is ∙ (let e = g.count in omega arith);
  }

  by_head : (net next last : ℕ) (a : PathArc) (arcs : List PathArc) (b : Bool) (count : ℕ) → passes is_gate design a ≡ b → ArcLeads design net a next → ArcsLead design next arcs last → 0 < cond b 1 0 + count → (0 < count → GateOn next arcs last) → GateOn net (a ∷ arcs) last
  by_head net next last a arcs true count is on lead l rest = gate_head net next last a arcs on lead is
  by_head net next last a arcs false count is on lead l rest = gate_tail net next last a arcs is (rest (omega arith))

  pub gate_on : (net : ℕ) (arcs : List PathArc) (last : ℕ) → ArcsLead design net arcs last → 0 < gates_in design arcs → GateOn net arcs last
  gate_on net [] last lead l = absurd (omega arith)
  gate_on net (a ∷ arcs) last (next, on, rest) l =
      by_head net next last a arcs (passes is_gate design a) (gates_in design arcs) refl on rest (let e = sum_by-cons (λ x. cond (passes is_gate design x) 1 0) a arcs in omega arith) (λ h. gate_on next arcs last rest h)

  pub depth_one : {to : Reader} (a b : ℕ) → HasDepth design to (pos a) → HasDepth design to (pos b) → a ≡ b
  depth_one a b one two = let same : pos a ≡ pos b = sym (one.every one.some.0 one.some.1) ∙ two.every one.some.0 one.some.1 in omega (arith, ints)

  -- how deep a driver lies
  abbrev pub height : (ℕ → ℕ) → Driver → ℕ
  height rank (driver.Port port) = 0
  height rank (driver.Out cell out) = suc (rank cell)

  pub lower : (rank : ℕ → ℕ) → IsRanked design.flat rank → (r cell pin net : ℕ) (d : Driver) → IsDrivenBy design.flat net d → Reads design.flat (reader.Pin cell pin) net → rank cell < r → height rank d < r
  lower rank falls r cell pin net (driver.Port port) is reads l = omega arith
  lower rank falls r cell pin net (driver.Out before out) is reads l = let h = falls cell before (pin, out, net, is, reads) in omega arith

  module _ (rank : ℕ → ℕ) (ready : IsReady design rank) where
    fits : (cell : ℕ) (row : CellRow) → IsOf design cell row → FitsKind row.kind row
    fits cell row of = (ready.rows cell row of).kind

    port_lane : (net port : ℕ) (used : PortUse) → IsDrivenBy design.flat net (driver.Port port) → IsUsed design.bench port used → Lane design net
    port_lane net port port_use.Clock is is_used = record {
      port = port;
      used = port_use.Clock;
      is_used = is_used;
      first = net;
      driven = is;
      delay = pos 0;
      port_delay = record { from = omega (arith, ints); to = ready.jitter.from };
      arcs = [];
      delays = [];
      lead = refl;
      arc_delays = tt;
      one_gate = omega arith;
      clocked = λ l. absurd (omega arith);
    }
    port_lane net port (port_use.Arrival low high) is is_used = record {
      port = port;
      used = port_use.Arrival low high;
      is_used = is_used;
      first = net;
      driven = is;
      delay = low;
      port_delay = record { from = omega (arith, ints); to = ready.arrivals port low high is_used };
      arcs = [];
      delays = [];
      lead = refl;
      arc_delays = tt;
      one_gate = omega arith;
      clocked = λ l. absurd (omega arith);
    }
    port_lane net port (port_use.Strobed strobe) is is_used = absurd (ready.sources net port strobe is is_used)

    pub least : (row : CellRow) (cell : ℕ) → IsOf design cell row → IsWithin row.low row.high row.low
    least row cell of = record { from = omega (arith, ints); to = (ready.rows cell row of).delays }

    cell_lane : (net cell out : ℕ) (row : CellRow) (nets : List ℕ) (g : Bool) → is_gate row.kind ≡ g → IsDrivenBy design.flat net (driver.Out cell out) → IsOf design cell row → InputNets design.flat cell row nets → (is_gate row.kind ≡ true → (clock : ℕ) × Reads design.flat (reader.Pin cell (clock_pin row)) clock) →
        ((m pin : ℕ) → Reads design.flat (reader.Pin cell pin) m → Lane design m) → Lane design net
    cell_lane net cell out row nets false passive is of inputs clocked earlier =
        let first : 0 < length row.inputs = some_inputs row.kind row (fits cell row of) in
        let reads = input_net design.flat cell row nets inputs 0 first in
        (lane_on design (get_or nets 0 0) (earlier (get_or nets 0 0) 0 reads) cell 0 out net row of (row, of, subst (λ b. IsPassedFrom b row 0) (sym passive) first, reads, is) row.low (least row cell of) false passive (λ e. absurd (false≢true e))).0
    cell_lane net cell out row nets true gate is of inputs clocked earlier =
        let (clock, reads) = clocked gate in
        let lane = earlier clock (clock_pin row) reads in
        (lane_on design clock lane cell (clock_pin row) out net row of (row, of, subst (λ b. IsPassedFrom b row (clock_pin row)) (sym gate) refl, reads, is) row.low (least row cell of) true gate
        (λ e. let clean = on_clock_pin design ready.one_clock ready.data_on_clock cell row clock of gate reads lane in (clean.1, clean.2))).0

    lane : (r net : ℕ) (d : Driver) → IsDrivenBy design.flat net d → height rank d < r → Lane design net
    lane zero net d is l = absurd (omega arith)
    lane (suc r) net (driver.Port port) is l = let sent = ready.complete net (driver.Port port) is in port_lane net port sent.0 is sent.1
    lane (suc r) net (driver.Out cell out) is l =
        let sent = ready.complete net (driver.Out cell out) is in
        cell_lane net cell out sent.0 sent.1 (is_gate sent.0.kind) refl is sent.2 sent.3 sent.4
        (λ m pin reads. let d = ready.numbered.has_driver (reader.Pin cell pin) m reads in lane r m d.0 d.1 (lower rank ready.ranked r cell pin m d.0 d.1 reads (omega arith)))

    -- each net that is read has a lane
    pub lane_at : (from : Reader) (net : ℕ) → Reads design.flat from net → Lane design net
    lane_at from net reads = let d = ready.numbered.has_driver from net reads in lane (suc (height rank d.0)) net d.0 d.1 (omega arith)

    -- a clock route goes on through a JTL or a splitter
    route_on : (arcs : List PathArc) (mid : ℕ) (a : PathArc) (next : ℕ) → IsClockRoute design arcs mid → ArcLeads design mid a next → passes no_copy design a ≡ false → IsClockRoute design (arcs ++ a ∷ []) next
    route_on [] mid a next route on alone = absurd route.route
    route_on (arc.Through cell pin out ∷ arcs) mid a next route on alone = absurd route.route
    route_on (arc.Port port ∷ arcs) mid a next route on alone = record {
      route = (route.route.0, route.route.1, lead_more design route.route.0 arcs mid a next route.route.2 on);
      clock = route.clock;
      alone = sum_zero (passes no_copy design a) (joins_in design (arc.Port port ∷ arcs)) (joins_in design (arc.Port port ∷ arcs ++ a ∷ [])) (count_last design no_copy (arc.Port port ∷ arcs) a)
          route.alone alone;
    }

    -- no clock route leads through a passive cell to a net that has none, nor into a merger
    pub not_clock_before : (mid cell pin out next : ℕ) (row : CellRow) → IsOf design cell row → is_gate row.kind ≡ false → ArcLeads design mid (arc.Through cell pin out) next → NotClock next → NotClock mid
    not_clock_before mid cell pin out next row of passive (row', of', passed, reads, driven) none arcs route = elim (passive_kinds row.kind passive) [
      | inl alone ↦ none (arcs ++ arc.Through cell pin out ∷ []) (route_on arcs mid (arc.Through cell pin out) next route (row', of', passed, reads, driven) (passes_at design no_copy cell pin out row of ∙ alone))
      | inr merge ↦
          (let some : Some row' ≡ Some row = sym of' ∙ of in
          let same : row' ≡ row = cc in
          let input : pin < length row.inputs = subst (λ b. IsPassedFrom b row pin) passive (subst (λ (r : CellRow). IsPassedFrom (is_gate r.kind) r pin) same passed) in
          ready.clock_merged reads.0 arcs (record { place = (cell, pin, mid, (row, of, merge, input), reads.1, route) }))
    ]

    -- a path from the clock that passes no gate joins nothing
    clock_joins_nothing : (r first port : ℕ) (arcs : List PathArc) (last : ℕ) → length arcs < r → IsDrivenBy design.flat first (driver.Port port) → port ≡ design.bench.clock → ArcsLead design first arcs last → gates_in design arcs ≡ 0 → joins_in design arcs ≡ 0
    clock_joins_nothing zero first port arcs last l is clock lead none = absurd (omega arith)
    clock_joins_nothing (suc r) first port arcs last l is clock lead none = elim (lead_last design first arcs last lead) [
      | inl (nil, same) ↦ ap (λ (xs : List PathArc). joins_in design xs) nil
      | inr b ↦
          (let gates = none_before design is_gate arcs b.before b.end b.parts none in
          let less : length b.before < r = (let e : length arcs ≡ length (b.before ++ b.end ∷ []) = ap (λ (xs : List PathArc). length xs) b.parts in omega (arith, length-append b.before (b.end ∷ []))) in
          let before = clock_joins_nothing r first port b.before b.mid less is clock b.lead gates.0 in
          let route : IsClockRoute design (arc.Port port ∷ b.before) b.mid = record {
            route = (first, is, b.lead);
            clock = ap (λ (p : ℕ). arc.Port p) clock;
            alone = port_first port b.before ∙ before;
          } in
          let end : passes no_copy design b.end ≡ false = end_alone b.end b.mid last b.on gates.1 (arc.Port port ∷ b.before) route in
          let more : joins_in design arcs ≡ joins_in design b.before + cond (passes no_copy design b.end) 1 0 = ap (λ (xs : List PathArc). joins_in design xs) b.parts ∙ count_last design no_copy b.before b.end in
          sum_zero (passes no_copy design b.end) (joins_in design b.before) (joins_in design arcs) more before end)
    ]
      where
        port_first : (p : ℕ) (xs : List PathArc) → joins_in design (arc.Port p ∷ xs) ≡ joins_in design xs
        port_first p xs = sum_by-cons (λ x. cond (passes no_copy design x) 1 0) (arc.Port p) xs ∙ omega arith

        end_alone : (a : PathArc) (mid last : ℕ) → ArcLeads design mid a last → passes is_gate design a ≡ false → (path : List PathArc) → IsClockRoute design path mid → passes no_copy design a ≡ false
        end_alone (arc.Port p) mid last on passive path route = refl
        end_alone (arc.Through cell pin out) mid last (row, of, passed, reads, driven) passive path route =
            let is : is_gate row.kind ≡ false = sym (passes_at design is_gate cell pin out row of) ∙ passive in
            elim (passive_kinds row.kind is) [
              | inl alone ↦ passes_at design no_copy cell pin out row of ∙ alone
              | inr merge ↦ absurd (ready.clock_merged reads.0 path (record { place = (cell, pin, mid, (row, of, merge, subst (λ b. IsPassedFrom b row pin) is passed), reads.1, route) }))
            ]

    data_use : (used : PortUse) (port : ℕ) (delay : ℤ) → IsUsed design.bench port used → IsPortDelay design.bench used delay → (port ≡ design.bench.clock → ⊥) → is_data used ≡ true
    data_use port_use.Clock port delay is fit none = absurd (none (ready.one_clock port is))
    data_use (port_use.Arrival low high) port delay is fit none = refl
    data_use (port_use.Strobed strobe) port delay is fit none = absurd fit

    -- a lane through no gate to a net that is no clock net begins at a data input
    pub ungated_data : (net : ℕ) → NotClock net → (lane : Lane design net) → gates_in design lane.arcs ≡ 0 → is_data lane.used ≡ true
    ungated_data net none lane gates = data_use lane.used lane.port lane.delay lane.is_used lane.port_delay (λ clock.
        none (arc.Port lane.port ∷ lane.arcs)
        (is_clock_route design net lane (clock_joins_nothing (suc (length lane.arcs)) lane.first lane.port lane.arcs net (omega arith) lane.driven clock lane.lead gates) clock))

    -- a lane with its origin makes a trail
    pub trail_of : (net : ℕ) → NotClock net → (lane : Lane design net) (depth : ℕ) → Origin lane.arcs depth → (from : Reader) (pin : ℕ) → IsPin design.flat pin from net → (q : ℕ) → HasSteps design (arc.Port lane.port ∷ lane.arcs) pin (pos q) →
        (to : Reader) → EndsAt design pin to → (hops : List TrailHop) × IsTrail design hops to × (steps_of hops ≡ pos (depth + q))
    trail_of net none lane depth (inl (gates, zero_depth)) from pin is q has to ends = (
      hop_of (arc.Port lane.port ∷ lane.arcs) pin q ∷ [],
      (record { begins = (lane.port, lane.used, lane.is_used, ungated_data net none lane gates, refl); path = (_, is, lane_path design net lane); steps = has }, ends),
      omega (arith, ints),
    )
    trail_of net none lane depth (inr g) from pin is q has to ends =
        let before = g.has.some in
        let sum = g.has.every before.0 before.1 in
        let hop = hop_of (arc.Port lane.port ∷ lane.arcs) pin q in (
          before.0 ++ hop_of (arc.Port lane.port ∷ lane.arcs) pin q ∷ [],
          hops_more None before.0 g.cell (hop_of (arc.Port lane.port ∷ lane.arcs) pin q) to before.1
              (record { begins = (g.pin, g.out, contains_tail (arc.Port lane.port) (arc.Through g.cell g.pin g.out) lane.arcs g.within); path = (_, is, lane_path design net lane); steps = has }) ends,
          added depth q _ _ (steps_more before.0 (hop_of (arc.Port lane.port ∷ lane.arcs) pin q)) sum,
        )
      where
        added : (d q : ℕ) (all before : ℤ) → all ≡ (before +ℤ pos q) → before ≡ pos d → all ≡ pos (d + q)
        added d q all before one two = omega (arith, ints)

    module _ (top : ℕ) (timed : IsTimedBelow design rank top) where
      -- some trail gives the depth
      pub depth_from : (to : Reader) → IsTimedAt design to → (hops : List TrailHop) → IsTrail design hops to → (sum : ℤ) → steps_of hops ≡ sum → HasDepth design to sum
      depth_from to timed_at hops is sum same = record {
        some = (hops, is);
        every = λ others are. int_same (steps_of others) (steps_of hops) (λ differ. timed_at.no_unequal (record { hops = others }) (record { hops = hops }) (are, is, differ)) ∙ same;
      }

      -- each lane to a data pin of a gate has steps
      pub gate_steps : (cell at net pin clock : ℕ) (row : CellRow) → IsOf design cell row → is_gate row.kind ≡ true → at < length row.inputs → IsPin design.flat pin (reader.Pin cell at) net → Reads design.flat (reader.Pin cell (clock_pin row)) clock →
          rank cell < top → (lane : Lane design net) → (q : ℕ) × HasSteps design (arc.Port lane.port ∷ lane.arcs) pin (pos q)
      gate_steps cell at net pin clock row of gate input is reads low lane =
          let rules = (timed cell row of gate low).at in
          let ends : EndsAt design pin (reader.Pin cell 0) = (refl, row, at, net, of, gate, input, is) in
          let c = lane_at (reader.Pin cell (clock_pin row)) clock reads in
          let clean = on_clock_pin design ready.one_clock ready.data_on_clock cell row clock of gate reads c in
          let times = gate_times row.kind row gate (fits cell row of) in
          pin_steps design ready.period.from pin reads.0 cell at net clock row of gate input is reads.1 times.setup.from times.hold.from (arc.Port lane.port ∷ lane.arcs) (arc.Port c.port ∷ c.arcs)
          (lane_path design net lane) (lane_path design clock c) (is_clock_route design clock c clean.0 clean.2) (rules.no_window pin ends) (lane.delay ∷ lane.delays) (c.delay ∷ c.delays) (lane_delays design net lane) (lane_delays design clock c) (rules.no_ahead pin ends)

      -- along a path the rank of the drivers does not fall
      pub lead_rises : (next h o : ℕ) (arcs : List PathArc) (last : ℕ) → IsDrivenBy design.flat next (driver.Out h o) → ArcsLead design next arcs last → (c p : ℕ) × IsDrivenBy design.flat last (driver.Out c p) × (rank h ≤ rank c)
      lead_rises next h o [] last is lead = (h, o, subst (λ (x : ℕ). IsDrivenBy design.flat x (driver.Out h o)) lead is, omega arith)
      lead_rises next h o (arc.Port port ∷ arcs) last is (after, on, rest) = absurd on
      lead_rises next h o (arc.Through cell pin out ∷ arcs) last is (after, (row, of, passed, reads, driven), rest) =
          let falls = ready.ranked cell h (pin, o, next, is, reads) in
          let later = lead_rises after cell out arcs last driven rest in
          (later.0, later.1, later.2, (let l = later.3 in omega arith))

      -- the pins of a gate that drives a net
      pub record GatePins (cell : ℕ) (row : CellRow) : Type 0 where
        pub clock : ℕ
        pub clock_reads : Reads design.flat (reader.Pin cell (clock_pin row)) clock
        pub entry : ℕ
        pub entry_reads : Reads design.flat (reader.Pin cell 0) entry

      pub pins_of : (cell : ℕ) (row : CellRow) → IsOf design cell row → is_gate row.kind ≡ true → (out net : ℕ) → IsDrivenBy design.flat net (driver.Out cell out) → GatePins cell row
      pins_of cell row of gate out net is =
          let sent = ready.complete net (driver.Out cell out) is in
          let some : Some sent.0 ≡ Some row = sym sent.2 ∙ of in
          let same : sent.0 ≡ row = cc in
          let inputs : InputNets design.flat cell row sent.1 = subst (λ (r : CellRow). InputNets design.flat cell r sent.1) same sent.3 in
          let clock = sent.4 (ap (λ (r : CellRow). is_gate r.kind) same ∙ gate) in
          record {
            clock = clock.0;
            clock_reads = subst (λ (r : CellRow). Reads design.flat (reader.Pin cell (clock_pin r)) clock.0) same clock.1;
            entry = get_or sent.1 0 0;
            entry_reads = input_net design.flat cell row sent.1 inputs 0 (some_inputs row.kind row (fits cell row of));
          }

      no_clock_data : (cell at net : ℕ) (row : CellRow) → IsOf design cell row → is_gate row.kind ≡ true → at < length row.inputs → Reads design.flat (reader.Pin cell at) net → NotClock net
      no_clock_data cell at net row of gate input reads arcs route = ready.clock_on_data reads.0 arcs (record { place = (cell, at, net, (row, of, gate, input), reads.1, route) })

      zero_or_more : (k : ℕ) → (k ≡ 0) ⊎ (0 < k)
      zero_or_more zero = inl refl
      zero_or_more (suc k) = inr (omega arith)

      -- the depth of a gate
      depth_of : (r cell : ℕ) (row : CellRow) → rank cell < r → rank cell < top → IsOf design cell row → is_gate row.kind ≡ true → GatePins cell row → (depth : ℕ) × HasDepth design (reader.Pin cell 0) (pos depth)
      depth_of zero cell row l low of gate pins = absurd (omega arith)
      depth_of (suc r) cell row l low of gate pins =
          let input : 0 < length row.inputs = some_inputs row.kind row (fits cell row of) in
          let start = lane_at (reader.Pin cell 0) pins.entry pins.entry_reads in
          let q = gate_steps cell 0 pins.entry pins.entry_reads.0 pins.clock row of gate input pins.entry_reads.1 pins.clock_reads low start in
          let origin : (depth : ℕ) × Origin start.arcs depth = elim (zero_or_more (gates_in design start.arcs)) [
            | inl none ↦ (0, inl (none, refl))
            | inr some ↦
                (let g = gate_on start.first start.arcs pins.entry start.lead some in
                let end = lead_rises g.next g.cell g.out g.rest pins.entry g.driven g.lead in
                let falls = ready.ranked cell end.0 (0, end.1, pins.entry, end.2, pins.entry_reads) in
                let deep = depth_of r g.cell g.row (let e = end.3 in omega arith) (let e = end.3 in omega arith) g.of g.gate (pins_of g.cell g.row g.of g.gate g.out g.next g.driven) in
                (deep.0, inr (record { cell = g.cell; pin = g.pin; out = g.out; row = g.row; within = g.within; of = g.of; gate = g.gate; has = deep.1 })))
          ] in
          let trail = trail_of pins.entry (no_clock_data cell 0 pins.entry row of gate input pins.entry_reads) start origin.0 origin.1 (reader.Pin cell 0) pins.entry_reads.0 pins.entry_reads.1 q.0 q.1 (reader.Pin cell 0)
          (refl, row, 0, pins.entry, of, gate, input, pins.entry_reads.1) in
          (origin.0 + q.0, depth_from (reader.Pin cell 0) (timed cell row of gate low).at trail.0 trail.1 (pos (origin.0 + q.0)) trail.2)

      pub gate_depth : (cell : ℕ) (row : CellRow) → rank cell < top → IsOf design cell row → is_gate row.kind ≡ true → GatePins cell row → (depth : ℕ) × HasDepth design (reader.Pin cell 0) (pos depth)
      gate_depth cell row low of gate pins = depth_of (suc (rank cell)) cell row (omega arith) low of gate pins

      -- the origin of a lane
      pub origin_of : (net : ℕ) → ((cell out : ℕ) → IsDrivenBy design.flat net (driver.Out cell out) → rank cell < top) → (lane : Lane design net) → (depth : ℕ) × Origin lane.arcs depth
      origin_of net low lane = elim (zero_or_more (gates_in design lane.arcs)) [
        | inl none ↦ (0, inl (none, refl))
        | inr some ↦
            (let g = gate_on lane.first lane.arcs net lane.lead some in
            let end = lead_rises g.next g.cell g.out g.rest net g.driven g.lead in
            let below = low end.0 end.1 end.2 in
            let deep = gate_depth g.cell g.row (let e = end.3 in omega arith) g.of g.gate (pins_of g.cell g.row g.of g.gate g.out g.next g.driven) in
            (deep.0, inr (record { cell = g.cell; pin = g.pin; out = g.out; row = g.row; within = g.within; of = g.of; gate = g.gate; has = deep.1 })))
      ]

      -- at each lane to a gate the depth of its origin and its steps sum to the gate's depth
      pub sum_law : (net : ℕ) → NotClock net → (lane : Lane design net) (from : ℕ) → Origin lane.arcs from → (at : Reader) (pin : ℕ) → IsPin design.flat pin at net → (q : ℕ) → HasSteps design (arc.Port lane.port ∷ lane.arcs) pin (pos q) →
          (to : Reader) → EndsAt design pin to → (depth : ℕ) → HasDepth design to (pos depth) → from + q ≡ depth
      sum_law net none lane from origin at pin is q has to ends depth deep =
          let trail = trail_of net none lane from origin at pin is q has to ends in
          let same = sym trail.2 ∙ deep.every trail.0 trail.1 in
          pos_same (from + q) depth same
        where
          pos_same : (a b : ℕ) → pos a ≡ pos b → a ≡ b
          pos_same a b e = omega (arith, ints)
