-- What holds at an output, by the sums of the delays on its one path.
use Rattle.std.proofs.Common.{◌≡◌, ℕ, suc, ◌+◌, ◌<◌, ◌⊎◌, ◌↔◌, true, false, ℤ, pos, negsuc, ◌+ℤ◌, ◌-ℤ◌, ◌*ℤ◌, ◌≤ℤ◌, ◌<ℤ◌, List, [], ◌∷◌, refl, sym, ap, ◌∙◌, subst, arith, inl, inr}
use Rattle.std.proofs.lemmas.Int.{ints}
use Rattle.std.proofs.lemmas.Bool.{cases_lt}
use Rattle.std.specs.Prelude.{slice_get, Some}
use Rattle.std.specs.List.{AllZip}
use Rattle.rsfq_ids.specs.declared.circuit.Pin.{Pin}
use Rattle.rsfq_ids.specs.declared.circuit.Strobe.{Strobe}
use Rattle.rsfq_ids.specs.declared.circuit.PortUse.TheVariants as port_use
use Rattle.rsfq_ids.specs.declared.circuit.Reader.TheVariants as reader
use Rattle.rsfq_ids.specs.declared.offence.PathArc.{PathArc}
use Rattle.rsfq_ids.specs.declared.offence.PathArc.TheVariants as arc
use Rattle.rsfq_ids.specs.declared.offence.PathPick.{PathPick}
use Rattle.rsfq_ids.specs.declared.offence.Against.{Against}
use Rattle.rsfq_ids.specs.declared.offence.Against.TheVariants as against
use Rattle.rsfq_ids.specs.declared.offence.Offence.TheVariants as offence
use Rattle.rsfq_ids.specs.declared.offence.TrailHop.{TrailHop}
use Rattle.rsfq_ids.specs.Design.{Design}
use Rattle.rsfq_ids.specs.Time.{IsWithin, IsInZone, total}
use Rattle.rsfq_ids.specs.Circuit.{IsPin}
use Rattle.rsfq_ids.specs.Bench.{IsUsed}
use Rattle.rsfq_ids.specs.Path.{IsRoute, IsPathTo, BeginsAtPort, IsPick, IsDelay, pick_time, strobe_at, HasSteps, HasStepsAt, IsTrail, steps_of, HasDepth}
use Rattle.rsfq_ids.specs.Offence.{IsHeldAgainst, OffenceExists}
use Rattle.rsfq_ids.specs.Ready.{IsSetUp}
use Rattle.wire_timing.specs.declared.reach.Reach.{Reach}
use Rattle.wire_timing.specs.Wires.{HasOnlyJtls, IsWireDepth}
use Rattle.wire_timing.specs.Window.{HasNoWindowAt, IsFirstAt}
use Rattle.wire_timing.specs.Reach.{HasBounds, Reaches, IsStepCount, IsSpare, zone_begins, raise}
use Rattle.wire_timing.proofs.Shape.{row_fits, arrival_fits, one_port, strobe_fits}
use Rattle.wire_timing.proofs.Routes.{no_gate, route_one, path_of}
use Rattle.wire_timing.proofs.Periods.{times_suc, times_add, reaches_zone, no_zone, later}
use Rattle.wire_timing.proofs.Delays.{AreBounds, total-raise, totals_within, raise_may, raise_in_order}

-- steps are one where they tell the same of all numbers
same_steps : (s : ℤ) (q : ℕ) → ((p n : ℕ) → (pos n <ℤ (pos p +ℤ s)) ↔ (pos n <ℤ (pos p +ℤ pos q))) → s ≡ pos q
same_steps (pos a) q tells =
    elim (cases_lt q a) [
      | inl less ↦ (let f : pos q <ℤ (pos 0 +ℤ pos q) = (tells 0 q).0 (omega (arith, ints)) in absurd (omega (arith, ints)))
      | inr most ↦ elim (cases_lt a q) [
        | inl less ↦ (let f : pos a <ℤ (pos 0 +ℤ pos a) = (tells 0 a).1 (omega (arith, ints)) in absurd (omega (arith, ints)))
        | inr least ↦ (let e : a ≡ q = omega arith in ap pos e)
      ]
    ]
same_steps (negsuc a) q tells = let f : pos 0 <ℤ (pos (suc a) +ℤ negsuc a) = (tells (suc a) 0).1 (omega (arith, ints)) in absurd (omega (arith, ints))

module _ (design : Design) (set_up : IsSetUp design) (jtls : HasOnlyJtls design) where
  pub bound_fits : (a : PathArc) (b : ℤ × ℤ) → HasBounds design a b → (pos 0 ≤ℤ b.0) × (b.0 ≤ℤ b.1) × (b.1 ≤ℤ pos 1000000000)
  bound_fits (arc.Port port) b has = let (low, high, order) = arrival_fits design set_up jtls port b.0 b.1 has in (low.from, order, high.to)
  bound_fits (arc.Through cell pin out) b (row, of, low, high) =
      let fits = (row_fits design set_up jtls cell row of).row_fits in
      let l = fits.low.from in
      let h = fits.high.to in
      let o = fits.delays in (omega (arith, ints), omega (arith, ints), omega (arith, ints))

  pub bounds_fit : (arcs : List PathArc) (bounds : List (ℤ × ℤ)) → AllZip (HasBounds design) arcs bounds → AreBounds bounds
  bounds_fit [] [] has = tt
  bounds_fit [] (b ∷ bounds) has = absurd has
  bounds_fit (a ∷ arcs) [] has = absurd has
  bounds_fit (a ∷ arcs) (b ∷ bounds) has = let (low, order, high) = bound_fits a b has.0 in (low, order, high, bounds_fit arcs bounds has.1)

  from_arrival : (arcs : List PathArc) (bounds : List (ℤ × ℤ)) (port : ℕ) → AllZip (HasBounds design) arcs bounds → BeginsAtPort arcs port → (low : ℤ) × (high : ℤ) × IsUsed design.bench port (port_use.Arrival low high)
  from_arrival [] bounds port has begins = absurd begins
  from_arrival (a ∷ arcs) [] port has begins = absurd has
  from_arrival (a ∷ arcs) (b ∷ bounds) port has begins = (b.0, b.1, subst (λ (x : PathArc). HasBounds design x b) begins has.0)

  module _ (pin port net : ℕ) (strobe : Strobe) (is : IsPin design.flat pin (reader.Port port) net) (used : IsUsed design.bench port (port_use.Strobed strobe)) (reach : Reach) (reaches : Reaches design net reach) (q : ℕ)
      (steps : IsStepCount design.bench.period strobe reach.high q) where
    period_fits : pos 1 ≤ℤ design.bench.period
    period_fits = set_up.bench_fits.period.from

    to_here : (arcs : List PathArc) (at : ℕ) → at ≡ pin → IsPathTo design arcs at → arcs ≡ reaches.arcs
    to_here arcs at same (end, ends, path) =
        let there : slice_get design.flat.pins pin ≡ Some end = subst (λ (x : ℕ). slice_get design.flat.pins x ≡ Some end) same ends in
        let e : Some end ≡ Some (record { reader = reader.Port port; net = net }) = sym there ∙ is in
        let f : end ≡ record { reader = reader.Port port; net = net } = cc in
        route_one design set_up jtls arcs reaches.arcs net (subst (λ (x : Pin). IsRoute design arcs x.net) f path.route) reaches.route

    delays_here : (pulse : PathPick) → IsPick design pulse → pulse.ends ≡ pin → IsWithin reach.low reach.high (total pulse.delays)
    delays_here pulse pick ends =
        let same = to_here pulse.arcs pulse.ends ends pick.path in
        let within = totals_within design reaches.arcs reaches.bounds pulse.delays reaches.bounded (subst (λ (xs : List PathArc). AllZip (IsDelay design) xs pulse.delays) same pick.delays) in
        let from = within.from in
        let to = within.to in
        let low = reaches.low in
        let high = reaches.high in record { from = omega (arith, ints); to = omega (arith, ints) }

    -- a strobe that a pulse is held against
    abbrev Zone : PathPick → ℕ → Type 0
    Zone pulse n = IsInZone strobe.setup strobe.hold (strobe.offset +ℤ (pos n *ℤ design.bench.period)) ((pos pulse.number *ℤ design.bench.period) +ℤ total pulse.delays)

    held_at_strobe : (pulse : PathPick) (held : Against) → IsHeldAgainst design (reader.Port port) pulse held (λ setup hold number time. IsInZone setup hold time (pick_time design.bench pulse)) → (n : ℕ) × (held ≡ against.Strobe n) × Zone pulse n
    held_at_strobe pulse (against.Clock clock) by = absurd by
    held_at_strobe pulse (against.Strobe n) (other, in_use, zone) =
        let e : Some (port_use.Strobed other) ≡ Some (port_use.Strobed strobe) = sym in_use ∙ used in
        let f : other ≡ strobe = cc in
        (n, refl, subst (λ (s : Strobe). IsInZone s.setup s.hold (strobe_at design.bench s n) (pick_time design.bench pulse)) f zone)

    pub struck : (pulse : PathPick) (held : Against) → OffenceExists design (offence.Window pin pulse held) → (n : ℕ) × (held ≡ against.Strobe n) × Zone pulse n
    struck pulse held shown =
        let (end, ends, by) = shown.against in
        let e : Some end ≡ Some (record { reader = reader.Port port; net = net }) = sym ends ∙ is in
        let f : end ≡ record { reader = reader.Port port; net = net } = cc in
        held_at_strobe pulse held (subst (λ (x : Pin). IsHeldAgainst design x.reader pulse held (λ setup hold number time. IsInZone setup hold time (pick_time design.bench pulse))) f by)

    -- the pulse of an offence is not so many numbers behind its strobe
    pub offends_near : (pulse : PathPick) (n : ℕ) → OffenceExists design (offence.Window pin pulse (against.Strobe n)) → n < pulse.number + q
    offends_near pulse n shown =
        let (m, same, zone) = struck pulse (against.Strobe n) shown in
        let f : n ≡ m = cc in
        let within = delays_here pulse shown.pick shown.ends in
        let near = reaches_zone design.bench.period strobe reach.low reach.high q period_fits steps pulse.number m (total pulse.delays) within.to zone in omega arith

    -- ---- no offence

    module _ (clear : (strobe.offset +ℤ strobe.hold +ℤ (pos q *ℤ design.bench.period)) ≤ℤ (reach.low +ℤ design.bench.period)) where
      pub no_window_at : HasNoWindowAt design pin
      no_window_at pulse held shown =
          let (n, same, zone) = struck pulse held shown in
          let within = delays_here pulse shown.pick shown.ends in
          no_zone design.bench.period strobe reach.low reach.high q period_fits steps clear pulse.number n (total pulse.delays) within.from within.to zone

      later_at : (pulse : PathPick) (n : ℕ) → IsPick design pulse → pulse.ends ≡ pin → (strobe_at design.bench strobe n <ℤ pick_time design.bench pulse) ↔ (pos n <ℤ (pos pulse.number +ℤ pos q))
      later_at pulse n pick ends =
          let within = delays_here pulse pick ends in
          let fits = strobe_fits design set_up jtls port strobe used in
          later design.bench.period strobe reach.low reach.high q period_fits steps clear fits.2.from fits.3.from pulse.number n (total pulse.delays) within.from within.to

      has_steps : (arcs : List PathArc) → HasSteps design arcs pin (pos q)
      has_steps arcs = (_, is, (strobe, used, λ pulse n pick same ends. later_at pulse n pick ends))

      -- a pulse of this number on the path
      least_pulse : ℕ → PathPick
      least_pulse p = record { arcs = reaches.arcs; delays = raise (pos 0) reaches.bounds; number = p; ends = pin }

      path_here : IsPathTo design reaches.arcs pin
      path_here = (_, is, path_of design set_up jtls reaches.arcs net reaches.route)

      is_pulse : (p : ℕ) → IsPick design (record { arcs = reaches.arcs; delays = raise (pos 0) reaches.bounds; number = p; ends = pin })
      is_pulse p = record { path = path_here; delays = raise_may design (pos 0) reaches.arcs reaches.bounds reaches.bounded (bounds_fit reaches.arcs reaches.bounds reaches.bounded) (omega (arith, ints)) }

      steps_one : (s : ℤ) → HasSteps design reaches.arcs pin s → s ≡ pos q
      steps_one s (end, ends, at) =
          let e : Some end ≡ Some (record { reader = reader.Port port; net = net }) = sym ends ∙ is in
          let f : end ≡ record { reader = reader.Port port; net = net } = cc in
          let (other, in_use, tells) = let there : HasStepsAt design reaches.arcs pin (reader.Port port) s = subst (λ (x : Pin). HasStepsAt design reaches.arcs pin x.reader s) f at in there in
          let g : Some (port_use.Strobed other) ≡ Some (port_use.Strobed strobe) = sym in_use ∙ used in
          let h : other ≡ strobe = cc in
          same_steps s q (λ p n.
          let pulse : PathPick = record { arcs = reaches.arcs; delays = raise (pos 0) reaches.bounds; number = p; ends = pin } in
          let mine = later_at pulse n (is_pulse p) refl in
          let told = subst (λ (x : Strobe). (strobe_at design.bench x n <ℤ pick_time design.bench pulse) ↔ (pos n <ℤ (pos p +ℤ s))) h (tells pulse n (is_pulse p) refl refl) in
          (λ l. mine.0 (told.1 l), λ l. told.0 (mine.1 l)))

      data_source : (low : ℤ) × (high : ℤ) × IsUsed design.bench reach.source (port_use.Arrival low high)
      data_source = from_arrival reaches.arcs reaches.bounds reach.source reaches.bounded reaches.begins

      one_hop : (hops : List TrailHop) → IsTrail design hops (reader.Port port) → steps_of hops ≡ pos q
      one_hop [] trail = absurd trail
      one_hop (hop ∷ []) (step, (other, ends)) =
          let same = one_port design set_up jtls hop.pin pin port other net ends is in
          let arcs = to_here hop.arcs hop.pin same step.path in
          let s = subst (λ (x : ℕ). HasSteps design hop.arcs x hop.steps) same step.steps in
          let e = steps_one hop.steps (subst (λ (xs : List PathArc). HasSteps design xs pin hop.steps) arcs s) in omega (arith, ints)
      one_hop (hop ∷ next ∷ hops) (step, gate, ends, rest) =
          let row = ends.1 in
          let e : true ≡ false = sym ends.5 ∙ no_gate design set_up jtls gate row ends.4 in cc

      depth_here : HasDepth design (reader.Port port) (pos q)
      depth_here =
          let (low, high, source) = data_source in
          record {
            some = (
              record { arcs = reaches.arcs; pin = pin; steps = pos q } ∷ [],
              (
                record { begins = (reach.source, port_use.Arrival low high, source, refl, reaches.begins); path = path_here; steps = has_steps reaches.arcs },
                (net, is),
              ),
            );
            every = one_hop;
          }

      pub wire_depth : IsWireDepth design (record { output = port; depth = q; source = reach.source })
      wire_depth =
          let (low, high, source) = data_source in
          record {
            depth_is = depth_here;
            used = port_use.Arrival low high;
            source_used = source;
            source_data = refl;
            pin = pin;
            net = net;
            arcs = reaches.arcs;
            ends = is;
            path = path_here;
            begins = reaches.begins;
          }

    -- ---- the first offence

    module _ (offends : (reach.low +ℤ design.bench.period) <ℤ (strobe.offset +ℤ strobe.hold +ℤ (pos q *ℤ design.bench.period))) (ordered : reach.low ≤ℤ reach.high) (p n : ℕ) (apart : p + q ≡ suc n) (zero_one : (p ≡ 0) ⊎ (n ≡ 0))
        (spare : ℤ) (is_spare : IsSpare (zone_begins design.bench.period strobe (pos q *ℤ design.bench.period)) reach.low spare) where
      abbrev T : ℤ
      T = design.bench.period

      -- the periods between two numbers that lie so far apart
      periods : (o m : ℕ) → o + q ≡ suc m → ((pos o *ℤ T) +ℤ (pos q *ℤ T)) ≡ ((pos m *ℤ T) +ℤ T)
      periods o m e = sym (times_add o q T) ∙ ap (λ (k : ℕ). pos k *ℤ T) e ∙ times_suc m T

      abbrev first_pulse : PathPick
      first_pulse = record { arcs = reaches.arcs; delays = raise spare reaches.bounds; number = p; ends = pin }

      fit : AreBounds reaches.bounds
      fit = bounds_fit reaches.arcs reaches.bounds reaches.bounded

      not_past : (reach.low +ℤ spare) ≤ℤ reach.high
      not_past = go is_spare.least
        where
          go : (spare ≡ pos 0) ⊎ ((reach.low +ℤ spare) ≡ zone_begins T strobe (pos q *ℤ T)) → (reach.low +ℤ spare) ≤ℤ reach.high
          go (inl none) = omega (arith, ints)
          go (inr at) = let f = steps.from in omega (arith, ints)

      sum_is : total (raise spare reaches.bounds) ≡ (reach.low +ℤ spare)
      sum_is =
          let low = reaches.low in
          let high = reaches.high in
          let past = not_past in
          let e = total-raise spare reaches.bounds fit is_spare.natural (omega (arith, ints)) in omega (arith, ints)

      before_end : (reach.low +ℤ spare) <ℤ (strobe.offset +ℤ strobe.hold +ℤ (pos q *ℤ T) -ℤ T)
      before_end = go is_spare.least
        where
          go : (spare ≡ pos 0) ⊎ ((reach.low +ℤ spare) ≡ zone_begins T strobe (pos q *ℤ T)) → (reach.low +ℤ spare) <ℤ (strobe.offset +ℤ strobe.hold +ℤ (pos q *ℤ T) -ℤ T)
          go (inl none) = omega (arith, ints)
          go (inr at) =
              let fits = strobe_fits design set_up jtls port strobe used in
              let s = fits.2.from in
              let h = fits.3.from in omega (arith, ints)

      in_zone : Zone (record { arcs = reaches.arcs; delays = raise spare reaches.bounds; number = p; ends = pin }) n
      in_zone =
          let e = periods p n apart in
          let sum = sum_is in
          let enough = is_spare.enough in
          let end = before_end in record { after = omega (arith, ints); before = omega (arith, ints) }

      first_exists : OffenceExists design (offence.Window pin (record { arcs = reaches.arcs; delays = raise spare reaches.bounds; number = p; ends = pin }) (against.Strobe n))
      first_exists = record {
        pick = record { path = (_, is, path_of design set_up jtls reaches.arcs net reaches.route); delays = raise_may design spare reaches.arcs reaches.bounds reaches.bounded fit is_spare.natural };
        ends = refl;
        against = (_, is, (strobe, used, in_zone));
      }

      numbers_least : (other : PathPick) (m : ℕ) → OffenceExists design (offence.Window pin other (against.Strobe m)) → (pos p -ℤ pos n) ≤ℤ (pos other.number -ℤ pos m)
      numbers_least other m shown = let near = offends_near other m shown in omega (arith, ints)

      difference_least : (other : PathPick) (m : ℕ) → OffenceExists design (offence.Window pin other (against.Strobe m)) → (pos p -ℤ pos n) ≡ (pos other.number -ℤ pos m) →
          (((pos p *ℤ T) +ℤ total (raise spare reaches.bounds)) -ℤ (strobe.offset +ℤ (pos n *ℤ T))) ≤ℤ (((pos other.number *ℤ T) +ℤ total other.delays) -ℤ (strobe.offset +ℤ (pos m *ℤ T)))
      difference_least other m shown same =
          let (k, at, zone) = struck other (against.Strobe m) shown in
          let f : m ≡ k = cc in
          let zone' = subst (λ (x : ℕ). Zone other x) (sym f) zone in
          let within = (delays_here other shown.pick shown.ends).from in
          let numbers : other.number + q ≡ suc m = omega (arith, ints) in
          let e = periods p n apart in
          let e' = periods other.number m numbers in
          let after = zone'.after in
          let sum = sum_is in
          go within e e' after sum is_spare.least
        where
          go : reach.low ≤ℤ total other.delays → ((pos p *ℤ T) +ℤ (pos q *ℤ T)) ≡ ((pos n *ℤ T) +ℤ T) → ((pos other.number *ℤ T) +ℤ (pos q *ℤ T)) ≡ ((pos m *ℤ T) +ℤ T) →
              ((strobe.offset +ℤ (pos m *ℤ T)) -ℤ strobe.setup) <ℤ ((pos other.number *ℤ T) +ℤ total other.delays) → total (raise spare reaches.bounds) ≡ (reach.low +ℤ spare) → (spare ≡ pos 0) ⊎ ((reach.low +ℤ spare) ≡ zone_begins T strobe (pos q *ℤ T)) →
              (((pos p *ℤ T) +ℤ total (raise spare reaches.bounds)) -ℤ (strobe.offset +ℤ (pos n *ℤ T))) ≤ℤ (((pos other.number *ℤ T) +ℤ total other.delays) -ℤ (strobe.offset +ℤ (pos m *ℤ T)))
          go within e e' after sum (inl none) = omega (arith, ints)
          go within e e' after sum (inr at) = omega (arith, ints)

      first_here : IsFirstAt design pin (record { arcs = reaches.arcs; delays = raise spare reaches.bounds; number = p; ends = pin }) n
      first_here = record {
        output = port;
        net = net;
        strobe = strobe;
        place = is;
        used = used;
        exists = first_exists;
        zero = zero_one;
        least_apart = numbers_least;
        least_difference = difference_least;
        raised = raise_in_order design spare reaches.arcs reaches.bounds reaches.bounded fit is_spare.natural;
      }

      -- the first offence, in what the code has
      pub first_at : (arcs : List PathArc) (delays : List ℤ) → IsRoute design arcs net → ((bounds : List (ℤ × ℤ)) → AllZip (HasBounds design) arcs bounds → delays ≡ raise spare bounds) →
          IsFirstAt design pin (record { arcs = arcs; delays = delays; number = p; ends = pin }) n
      first_at arcs delays route raised =
          let same : reaches.arcs ≡ arcs = route_one design set_up jtls reaches.arcs arcs net reaches.route route in
          let made = raised reaches.bounds (subst (λ (xs : List PathArc). AllZip (HasBounds design) xs reaches.bounds) same reaches.bounded) in
          subst (λ (xs : List PathArc). IsFirstAt design pin (record { arcs = xs; delays = delays; number = p; ends = pin }) n) same
          (subst (λ (ds : List ℤ). IsFirstAt design pin (record { arcs = reaches.arcs; delays = ds; number = p; ends = pin }) n) (sym made) first_here)
