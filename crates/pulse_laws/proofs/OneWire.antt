-- The wire of the examples meets what the law of wires asks, and so is signed off.
use Rattle.std.proofs.Common.{lit<, ◌≡◌, ◌≢◌, ◌⊎◌, inl, inr, ◌↔◌, ℕ, zero, suc, ◌<◌, true, ℤ, pos, ◌+ℤ◌, ◌*ℤ◌, ◌≤ℤ◌, ◌<ℤ◌, List, [], ◌∷◌, refl, sym, ap, ◌∙◌, subst, arith}
use Rattle.std.proofs.lemmas.Int.{ints, by_lt_z}
use Rattle.std.proofs.lemmas.Bool.{false≢true}
use Rattle.std.specs.Prelude.{None, slice_get, slice_index_or}
use Rattle.std.specs.List.{AllZip, Contains}
use Rattle.rsfq_ids.specs.declared.table.CellRow.{CellRow}
use Rattle.rsfq_ids.specs.declared.circuit.Pin.{Pin}
use Rattle.rsfq_ids.specs.declared.circuit.Strobe.{Strobe}
use Rattle.rsfq_ids.specs.declared.circuit.PortUse.{PortUse}
use Rattle.rsfq_ids.specs.declared.circuit.PortUse.TheVariants as port_use
use Rattle.rsfq_ids.specs.declared.circuit.Driver.{Driver}
use Rattle.rsfq_ids.specs.declared.circuit.Driver.TheVariants as driver
use Rattle.rsfq_ids.specs.declared.circuit.Reader.{Reader}
use Rattle.rsfq_ids.specs.declared.circuit.Reader.TheVariants as reader
use Rattle.rsfq_ids.specs.declared.offence.PathArc.{PathArc}
use Rattle.rsfq_ids.specs.declared.offence.PathArc.TheVariants as arc
use Rattle.rsfq_ids.specs.declared.offence.PathPick.{PathPick}
use Rattle.rsfq_ids.specs.declared.offence.Against.{Against}
use Rattle.rsfq_ids.specs.declared.offence.Against.TheVariants as against
use Rattle.rsfq_ids.specs.declared.offence.TrailHop.{TrailHop}
use Rattle.rsfq_ids.specs.Time.{IsWithin, IsInZone, total}
use Rattle.rsfq_ids.specs.Design.{Design}
use Rattle.rsfq_ids.specs.Circuit.{IsDrivenBy, IsPin, Reads, IsOf, is_gate}
use Rattle.rsfq_ids.specs.Bench.{IsUsed}
use Rattle.rsfq_ids.specs.Run.{IsPortDelay}
use Rattle.rsfq_ids.specs.Path.{IsPassedFrom, ArcLeads, IsRoute, IsDelay, IsPick, IsPath, pick_time, strobe_at, HasSteps, HasStepsAt, IsStepsApart, AreHops, steps_of, HasDepth}
use Rattle.rsfq_ids.specs.Offence.{ReadsFrom, IsHeldAgainst, HasNoWindow}
use Rattle.pulse_laws.specs.Examples.{jtl, wire, WireIsSigned}
use Rattle.rsfq_ids.specs.Signed.{HasAllDepths}
use Rattle.pulse_laws.proofs.Wires.{wires_are_signed}
use Rattle.rsfq_ids.specs.Order.{IsOrder}
use Rattle.pulse_laws.specs.Wires.{IsWired, IsWireFrom, AreEnds}
use Rattle.pulse_laws.proofs.Computed.{some, wire_set_up}

abbrev at_of : Reader → ℕ
at_of (reader.Pin cell at) = at
at_of (reader.Port port) = 7

abbrev source_of : Driver → ℕ
source_of (driver.Port port) = port
source_of (driver.Out cell out) = 7

-- the one path to the output
abbrev along : List PathArc
along = arc.Port 1 ∷ arc.Through 0 0 0 ∷ []

within : (low high time : ℤ) → low ≤ℤ time → time ≤ℤ high → IsWithin low high time
within low high time from to = record { from = from; to = to }

module _ (high : ℤ) where
  abbrev it : Design
  it = wire (pos 4000) high

  -- ---- what the circuit has

  pin_is : (pin : ℕ) (r : Reader) (net : ℕ) → IsPin it.flat pin r net → ((pin ≡ 0) × (r ≡ reader.Pin 0 0) × (net ≡ 1)) ⊎ ((pin ≡ 1) × (r ≡ reader.Port 2) × (net ≡ 2))
  pin_is zero r net is = let e : record { reader = reader.Pin 0 0; net = 1 } ≡ record { reader = r; net = net } = some is in inl (refl, sym (ap (λ (p : Pin). p.reader) e), sym (ap (λ (p : Pin). p.net) e))
  pin_is (suc zero) r net is = let e : record { reader = reader.Port 2; net = 2 } ≡ record { reader = r; net = net } = some is in inr (refl, sym (ap (λ (p : Pin). p.reader) e), sym (ap (λ (p : Pin). p.net) e))
  pin_is (suc (suc n)) r net is = cc

  driver_is : (net : ℕ) (d : Driver) → IsDrivenBy it.flat net d → ((net ≡ 0) × (d ≡ driver.Port 0)) ⊎ ((net ≡ 1) × (d ≡ driver.Port 1)) ⊎ ((net ≡ 2) × (d ≡ driver.Out 0 0))
  driver_is zero d is = inl (refl, sym (some is))
  driver_is (suc zero) d is = inr (inl (refl, sym (some is)))
  driver_is (suc (suc zero)) d is = inr (inr (refl, sym (some is)))
  driver_is (suc (suc (suc n))) d is = cc

  cell_is : (cell : ℕ) (row : CellRow) → IsOf it cell row → (cell ≡ 0) × (row ≡ jtl)
  cell_is zero row of = (refl, sym (some of))
  cell_is (suc cell) row of = cc

  no_gate : (cell : ℕ) (row : CellRow) → IsOf it cell row → is_gate row.kind ≡ true → ⊥
  no_gate cell row of gate = false≢true (subst (λ (r : CellRow). is_gate r.kind ≡ true) (cell_is cell row of).1 gate)

  output_net : (port net : ℕ) → Reads it.flat (reader.Port port) net → net ≡ 2
  output_net port net (pin, is) = elim (pin_is pin (reader.Port port) net is) [
    | inl (p, r, n) ↦ (let e : 7 ≡ 0 = ap at_of r in absurd (omega (arith, e)))
    | inr (p, r, n) ↦ n
  ]

  reads_one : (cell pin net : ℕ) → Reads it.flat (reader.Pin cell pin) net → net ≡ 1
  reads_one cell pin net (at, is) = elim (pin_is at (reader.Pin cell pin) net is) [ inl (p, r, n) ↦ n | inr (p, r, n) ↦ cc ]

  no_reads_from : (cell before : ℕ) → ReadsFrom it.flat cell before → ⊥
  no_reads_from cell before (pin, out, net, driven, reads) =
      let one = reads_one cell pin net reads in
      elim (driver_is net (driver.Out before out) driven) [
        | inl (n, d) ↦ omega arith
        | inr (inl (n, d)) ↦ (let e : 7 ≡ 1 = ap source_of d in omega (arith, e))
        | inr (inr (n, d)) ↦ omega arith
      ]

  wired : pos 4000 ≤ℤ high → high ≤ℤ pos 16999 → IsWired it
  wired from to = record {
    set_up = wire_set_up high from to;
    jtls = λ cell row of. ap (λ (r : CellRow). r.kind) (cell_is cell row of).1;
    no_dead_time = λ cell row of. ap (λ (r : CellRow). r.dead) (cell_is cell row of).1;
    clock_unread = unread;
    fanout = λ net first second (other, (one, two, is, is')). no_fanout net first second one two other (pin_is first one net is) (pin_is second two net is');
  }
    where
      unread : (net : ℕ) (by : Reader) → IsDrivenBy it.flat net (driver.Port 0) → Reads it.flat by net → ⊥
      unread net by driven (pin, is) = go (driver_is net (driver.Port 0) driven) (pin_is pin by net is)
        where
          go : ((net ≡ 0) × (driver.Port 0 ≡ driver.Port 0)) ⊎ ((net ≡ 1) × (driver.Port 0 ≡ driver.Port 1)) ⊎ ((net ≡ 2) × (driver.Port 0 ≡ driver.Out 0 0)) → ((pin ≡ 0) × (by ≡ reader.Pin 0 0) × (net ≡ 1)) ⊎ ((pin ≡ 1) × (by ≡ reader.Port 2) × (net ≡ 2)) → ⊥
          go (inl (n, d)) (inl (p, r, m)) = omega arith
          go (inl (n, d)) (inr (p, r, m)) = omega arith
          go (inr (inl (n, d))) b = (let e : 0 ≡ 1 = ap source_of d in omega (arith, e))
          go (inr (inr (n, d))) b = (let e : 0 ≡ 7 = ap source_of d in omega (arith, e))

      no_fanout : (net first second : ℕ) (one two : Reader) → first ≢ second → ((first ≡ 0) × (one ≡ reader.Pin 0 0) × (net ≡ 1)) ⊎ ((first ≡ 1) × (one ≡ reader.Port 2) × (net ≡ 2)) →
          ((second ≡ 0) × (two ≡ reader.Pin 0 0) × (net ≡ 1)) ⊎ ((second ≡ 1) × (two ≡ reader.Port 2) × (net ≡ 2)) → ⊥
      no_fanout net first second one two other (inl (p, r, n)) (inl (q, s, m)) = other (omega arith)
      no_fanout net first second one two other (inl (p, r, n)) (inr (q, s, m)) = omega arith
      no_fanout net first second one two other (inr (p, r, n)) (inl (q, s, m)) = omega arith
      no_fanout net first second one two other (inr (p, r, n)) (inr (q, s, m)) = other (omega arith)

  ordered : IsOrder it.flat (0 ∷ [])
  ordered = record { cells = cells; each = each; once = omega arith; after = λ place cell before at reads. absurd (no_reads_from cell before reads) }
    where
      cells : (k d : ℕ) → k < 1 → slice_index_or (0 ∷ []) k d < 1
      cells zero d l = omega arith
      cells (suc k) d l = absurd (omega arith)

      each : (cell : ℕ) → cell < 1 → Contains (0 ∷ []) cell
      each zero l = (0, omega arith, refl)
      each (suc cell) l = absurd (omega arith)

  -- ---- its path

  arc_is : (a : PathArc) (net next : ℕ) → ArcLeads it net a next → (net ≡ 1) × (a ≡ arc.Through 0 0 0) × (next ≡ 2)
  arc_is (arc.Port port) net next leads = absurd leads
  arc_is (arc.Through cell pin out) net next (row, of, passed, reads, driven) =
      let (cells, rows) = cell_is cell row of in
      let pins : pin < 1 = subst (λ (r : CellRow). IsPassedFrom (is_gate r.kind) r pin) rows passed in
      let first : pin ≡ 0 = omega arith in
      elim (driver_is next (driver.Out cell out) driven) [
        | inl (n, d) ↦ (let e : 7 ≡ 0 = ap source_of d in absurd (omega (arith, e)))
        | inr (inl (n, d)) ↦ (let e : 7 ≡ 1 = ap source_of d in absurd (omega (arith, e)))
        | inr (inr (n, d)) ↦ (let outs : out ≡ 0 = cc in (reads_one cell pin net reads, cc, n))
      ]

  output_path : (arcs : List PathArc) (net : ℕ) → IsRoute it arcs net → net ≡ 2 → arcs ≡ along
  output_path [] net route here = absurd route
  output_path (arc.Through cell pin out ∷ arcs) net route here = absurd route
  output_path (arc.Port port ∷ []) net (first, driven, lead) here = elim (driver_is first (driver.Port port) driven) [
    | inl (f, d) ↦ (let e : first ≡ net = lead in absurd (omega arith))
    | inr (inl (f, d)) ↦ (let e : first ≡ net = lead in absurd (omega arith))
    | inr (inr (f, d)) ↦ cc
  ]
  output_path (arc.Port port ∷ a ∷ []) net (first, driven, (next, on, rest)) here =
      let (firsts, arc_same, nexts) = arc_is a first next on in
      elim (driver_is first (driver.Port port) driven) [
        | inl (f, d) ↦ absurd (omega arith)
        | inr (inl (f, d)) ↦ (let ports : port ≡ 1 = ap source_of d in cc)
        | inr (inr (f, d)) ↦ absurd (omega arith)
      ]
  output_path (arc.Port port ∷ a ∷ b ∷ arcs) net (first, driven, (next, on, (after, on', rest))) here = let one = (arc_is a first next on).2 in let two = (arc_is b next after on').0 in absurd (omega arith)

  way : IsPath it along 2
  way = record { route = (1, refl, (2, (jtl, refl, lit< tt, (0, refl), refl), refl)); one_gate = omega arith; clocked = λ l. absurd (omega (arith, l)) }

  module _ (from : pos 4000 ≤ℤ high) (to : high ≤ℤ pos 16999) where
    port_delay : (d : ℤ) → IsDelay it (arc.Port 1) d → IsWithin (pos 4000) high d
    port_delay d (used, is, fits) = subst (λ (u : PortUse). IsPortDelay it.bench u d) (sym (some is)) fits

    cell_delay : (d : ℤ) → IsDelay it (arc.Through 0 0 0) d → IsWithin (pos 2000) (pos 3000) d
    cell_delay d (row, of, inside) = subst (λ (r : CellRow). IsWithin r.low r.high d) (cell_is 0 row of).1 inside

    sum : (delays : List ℤ) → AllZip (IsDelay it) along delays → IsWithin (pos 6000) (pos 19999) (total delays)
    sum [] fits = absurd fits
    sum (d ∷ []) fits = absurd fits.1
    sum (d ∷ e ∷ []) fits =
        let one = port_delay d fits.0 in
        let two = cell_delay e fits.1.0 in
        let a = one.from in
        let b = one.to in
        let c = two.from in
        let f = two.to in record { from = omega (arith, ints); to = omega (arith, ints) }
    sum (d ∷ e ∷ f ∷ delays) fits = absurd fits.1.1

    strobe_is : (port : ℕ) (strobe : Strobe) → IsUsed it.bench port (port_use.Strobed strobe) → strobe ≡ record { offset = pos 0; setup = pos 1; hold = pos 1 }
    strobe_is zero strobe used = (let e : port_use.Clock ≡ port_use.Strobed strobe = some used in cc)
    strobe_is (suc zero) strobe used = (let e : port_use.Arrival (pos 4000) high ≡ port_use.Strobed strobe = some used in cc)
    strobe_is (suc (suc zero)) strobe used = (let e : port_use.Strobed (record { offset = pos 0; setup = pos 1; hold = pos 1 }) ≡ port_use.Strobed strobe = some used in cc)
    strobe_is (suc (suc (suc n))) strobe used = cc

    outside : (n m : ℕ) (s : ℤ) → IsWithin (pos 6000) (pos 19999) s → IsInZone (pos 1) (pos 1) (pos 0 +ℤ (pos m *ℤ pos 20000)) ((pos n *ℤ pos 20000) +ℤ s) → ⊥
    outside n m s inside zone = let a = inside.from in let b = inside.to in let after = zone.after in let before = zone.before in omega (arith, ints)

    -- a pulse at the output
    pulse_sum : (pulse : PathPick) → (is : IsPick it pulse) → (pin port net : ℕ) → pulse.ends ≡ pin → IsPin it.flat pin (reader.Port port) net → IsWithin (pos 6000) (pos 19999) (total pulse.delays)
    pulse_sum pulse is pin port net ends at =
        let e : is.path.0 ≡ record { reader = reader.Port port; net = net } = some (sym is.path.1 ∙ ap (λ (p : ℕ). slice_get it.flat.pins p) ends ∙ at) in
        let nets : is.path.0.net ≡ 2 = ap (λ (p : Pin). p.net) e ∙ output_net port net (pin, at) in
        sum pulse.delays (subst (λ (xs : List PathArc). AllZip (IsDelay it) xs pulse.delays) (output_path pulse.arcs is.path.0.net is.path.2.route nets) is.delays)

    window_at : (pulse : PathPick) (is : IsPick it pulse) (pin net : ℕ) (r : Reader) → pulse.ends ≡ pin → IsPin it.flat pin r net → (held : Against) → IsHeldAgainst it r pulse held (λ setup hold number time. IsInZone setup hold time (pick_time it.bench pulse)) → ⊥
    window_at pulse is pin net (reader.Pin cell place) ends at (against.Clock clock) (row, m, of, gate, input, cpick, cpin, agree, zone) = no_gate cell row of gate
    window_at pulse is pin net (reader.Pin cell place) ends at (against.Strobe number) held = absurd held
    window_at pulse is pin net (reader.Port port) ends at (against.Clock clock) held = absurd held
    window_at pulse is pin net (reader.Port port) ends at (against.Strobe number) (strobe, used, zone) =
        outside pulse.number number (total pulse.delays) (pulse_sum pulse is pin port net ends at) (subst (λ (s : Strobe). IsInZone s.setup s.hold (strobe_at it.bench s number) (pick_time it.bench pulse)) (strobe_is port strobe used) zone)

    no_window : HasNoWindow it
    no_window pin pulse held o = let (end, at, against) = o.against in window_at pulse o.pick pin end.net end.reader o.ends at held against

    -- ---- its depth

    sides : (p n : ℕ) (s : ℤ) → IsWithin (pos 6000) (pos 19999) s → ((pos 0 +ℤ (pos n *ℤ pos 20000)) <ℤ ((pos p *ℤ pos 20000) +ℤ s)) ↔ (pos n <ℤ (pos p +ℤ pos 1))
    sides p n s inside = let a = inside.from in let b = inside.to in (λ later. omega (arith, ints), λ less. omega (arith, ints))

    steps : HasSteps it along 1 (pos 1)
    steps = (record { reader = reader.Port 2; net = 2 }, refl, (record { offset = pos 0; setup = pos 1; hold = pos 1 }, refl, law))
      where
        law : (pulse : PathPick) (n : ℕ) → IsPick it pulse → pulse.arcs ≡ along → pulse.ends ≡ 1 → IsStepsApart (pos 1) pulse.number (pick_time it.bench pulse) n (strobe_at it.bench (record { offset = pos 0; setup = pos 1; hold = pos 1 }) n)
        law pulse n is arcs ends = sides pulse.number n (total pulse.delays) (sum pulse.delays (subst (λ (xs : List PathArc). AllZip (IsDelay it) xs pulse.delays) arcs is.delays))

    abbrev early : PathPick
    early = record { arcs = along; delays = pos 4000 ∷ pos 2000 ∷ []; number = 0; ends = 1 }

    is_early : IsPick it early
    is_early = record {
      path = (record { reader = reader.Port 2; net = 2 }, refl, way);
      delays = ((port_use.Arrival (pos 4000) high, refl, within _ _ _ (omega (arith, ints)) from), ((jtl, refl, within _ _ _ (omega (arith, ints)) (omega (arith, ints))), tt));
    }

    only_one : (q : ℤ) → (pos 0 <ℤ (pos 0 +ℤ q)) → ((pos 1 <ℤ (pos 0 +ℤ q)) → ⊥) → q ≡ pos 1
    only_one q above below = by_lt_z (pos 1) q (λ more. absurd (below (omega (arith, ints)))) (λ less. omega (arith, ints))

    hop_steps : (arcs : List PathArc) (pin port : ℕ) (q : ℤ) → arcs ≡ along → pin ≡ 1 → HasStepsAt it arcs pin (reader.Port port) q → q ≡ pos 1
    hop_steps arcs pin port q is at (strobe, used, law) =
        let same = strobe_is port strobe used in
        let at_zero = subst (λ (s : Strobe). (strobe_at it.bench s 0 <ℤ pick_time it.bench early) ↔ (pos 0 <ℤ (pos 0 +ℤ q))) same (law early 0 is_early (sym is) (sym at)) in
        let at_one = subst (λ (s : Strobe). (strobe_at it.bench s 1 <ℤ pick_time it.bench early) ↔ (pos 1 <ℤ (pos 0 +ℤ q))) same (law early 1 is_early (sym is) (sym at)) in
        only_one q (at_zero.0 (omega (arith, ints))) (λ less. not_yet (at_one.1 less))
      where
        not_yet : ((pos 0 +ℤ (pos 1 *ℤ pos 20000)) <ℤ ((pos 0 *ℤ pos 20000) +ℤ (pos 4000 +ℤ (pos 2000 +ℤ pos 0)))) → ⊥
        not_yet late = omega (arith, ints)

    trail_sum : (hops : List TrailHop) (port : ℕ) → AreHops it None hops (reader.Port port) → steps_of hops ≡ pos 1
    trail_sum [] port are = absurd are
    trail_sum (hop ∷ []) port (is, (net, pin)) = elim (pin_is hop.pin (reader.Port port) net pin) [
      | inl (p, r, n) ↦ (let e : 7 ≡ 0 = ap at_of r in absurd (omega (arith, e)))
      | inr (p, r, n) ↦
          (let e : is.path.0 ≡ record { reader = reader.Port port; net = net } = some (sym is.path.1 ∙ pin) in
          let f : is.steps.0 ≡ record { reader = reader.Port port; net = net } = some (sym is.steps.1 ∙ pin) in
          let arcs = output_path hop.arcs is.path.0.net is.path.2.route (ap (λ (x : Pin). x.net) e ∙ n) in
          let one = hop_steps hop.arcs hop.pin port hop.steps arcs p (subst (λ (x : Pin). HasStepsAt it hop.arcs hop.pin x.reader hop.steps) f is.steps.2) in
          omega (arith, ints, one))
    ]
    trail_sum (hop ∷ next ∷ hops) port (is, gate, (zero_pin, row, input, net, of, gated, less, pin), rest) = absurd (no_gate gate row of gated)

    output_depth : HasDepth it (reader.Port 2) (pos 1)
    output_depth = record {
      some = (
        record { arcs = along; pin = 1; steps = pos 1 } ∷ [],
        (record { begins = (1, port_use.Arrival (pos 4000) high, refl, refl, refl); path = (record { reader = reader.Port 2; net = 2 }, refl, way); steps = steps }, (2, refl)),
      );
      every = λ hops trail. trail_sum hops 2 trail;
    }

    all_depths : HasAllDepths it.bench ((2, 1) ∷ [])
    all_depths zero strobe used = (let e : port_use.Clock ≡ port_use.Strobed strobe = some used in cc)
    all_depths (suc zero) strobe used = (let e : port_use.Arrival (pos 4000) high ≡ port_use.Strobed strobe = some used in cc)
    all_depths (suc (suc zero)) strobe used = (1, (0, omega arith, refl))
    all_depths (suc (suc (suc n))) strobe used = cc

    ends : AreEnds it ((2, 1, 1) ∷ [])
    ends port depth source (zero, l, e) =
        let ports : 2 ≡ port = ap (λ (p : ℕ × ℕ × ℕ). p.0) e in
        let depths : 1 ≡ depth = ap (λ (p : ℕ × ℕ × ℕ). p.1) e in
        let sources : 1 ≡ source = ap (λ (p : ℕ × ℕ × ℕ). p.2) e in (
          subst (λ (p : ℕ). HasDepth it (reader.Port p) (pos depth)) ports (subst (λ (d : ℕ). HasDepth it (reader.Port 2) (pos d)) depths output_depth),
          subst (λ (p : ℕ). IsWireFrom it p source) ports (subst (λ (s : ℕ). IsWireFrom it 2 s) sources (along, 2, port_use.Arrival (pos 4000) high, (1, refl), way, refl, refl, refl)),
        )
    ends port depth source (suc i, l, e) = absurd (omega arith)

pub wire_is_signed : WireIsSigned
wire_is_signed high from to = wires_are_signed (wire (pos 4000) high) (0 ∷ []) ((2, 1, 1) ∷ []) (wired high from to) (ordered high) (no_window high from to) (all_depths high from to) (ends high from to)
