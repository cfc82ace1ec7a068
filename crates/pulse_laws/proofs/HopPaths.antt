-- Paths to pins: that there are some, where they come from, and that their steps are one number.
use Rattle.std.proofs.Common.{◌≡◌, ℕ, zero, suc, ◌<◌, ◌≤◌, ◌⊎◌, ℤ, pos, negsuc, ◌+ℤ◌, ◌<ℤ◌, List, [], ◌∷◌, map, refl, sym, ap, ◌∙◌, subst, arith, inl, inr}
use Rattle.std.proofs.lemmas.Int.{ints, by_lt_z}
use Rattle.std.specs.Prelude.{Some, slice_get}
use Rattle.std.specs.Option.{option_map_or}
use Rattle.std.specs.List.{AllZip, Contains}
use Rattle.rsfq_ids.specs.declared.table.CellRow.{CellRow}
use Rattle.rsfq_ids.specs.declared.circuit.Pin.{Pin}
use Rattle.rsfq_ids.specs.declared.circuit.Strobe.{Strobe}
use Rattle.rsfq_ids.specs.declared.circuit.PortUse.{PortUse}
use Rattle.rsfq_ids.specs.declared.circuit.PortUse.TheVariants as port_use
use Rattle.rsfq_ids.specs.declared.circuit.Driver.TheVariants as driver
use Rattle.rsfq_ids.specs.declared.circuit.Reader.{Reader}
use Rattle.rsfq_ids.specs.declared.circuit.Reader.TheVariants as reader
use Rattle.rsfq_ids.specs.declared.offence.PathArc.{PathArc}
use Rattle.rsfq_ids.specs.declared.offence.PathArc.TheVariants as arc
use Rattle.rsfq_ids.specs.declared.offence.PathPick.{PathPick}
use Rattle.rsfq_ids.specs.Time.{IsWithin}
use Rattle.rsfq_ids.specs.Circuit.{IsDrivenBy, IsPin, Reads, row_of, IsOf, is_gate, clock_pin}
use Rattle.rsfq_ids.specs.Bench.{IsUsed}
use Rattle.rsfq_ids.specs.Run.{IsPortDelay}
use Rattle.rsfq_ids.specs.Path.{ArcsLead, IsPath, IsPathTo, IsClockRoute, IsClockPath, IsDelay, IsPick, SameDelays, Agree, HasStepsAt, HasSteps, EndsAt, IsFromData, pick_time, strobe_at}
use Rattle.rsfq_ids.specs.Design.{Design}
use Rattle.rsfq_ids.specs.Ready.{IsReady}
use Rattle.pulse_laws.proofs.Tags.{gates_join}
use Rattle.pulse_laws.proofs.Lanes.{Lane, lane_path, clock_route_one, gates_in, joins_in, count_first}
use Rattle.pulse_laws.proofs.Depths.{NotClock, lane_at, gate_on, lead_rises, ungated_data}
use Rattle.pulse_laws.specs.Hops.{PathsExist, PathsHaveOrigins, PassesGate, StepsAreOne}

pub paths_exist : PathsExist
paths_exist design rank pin end ready at = let lane = lane_at design rank ready end.reader end.net (pin, at) in (arc.Port lane.port ∷ lane.arcs, (end, at, lane_path design end.net lane))

-- ---- least delays

abbrev use_least : PortUse → ℤ
use_least port_use.Clock = pos 0
use_least (port_use.Arrival low high) = low
use_least (port_use.Strobed strobe) = pos 0

abbrev least_of : Design → PathArc → ℤ
least_of design (arc.Port port) = option_map_or use_least (slice_get design.bench.uses port) (pos 0)
least_of design (arc.Through cell pin out) = option_map_or (λ (row : CellRow). row.low) (row_of design cell) (pos 0)

same_least : (design : Design) (arcs others : List PathArc) → SameDelays arcs (map (least_of design) arcs) others (map (least_of design) others)
same_least design [] [] = tt
same_least design [] (b ∷ others) = tt
same_least design (a ∷ arcs) [] = tt
same_least design (a ∷ arcs) (b ∷ others) = λ e. (ap (least_of design) e, same_least design arcs others)

module _ (design : Design) (rank : ℕ → ℕ) (ready : IsReady design rank) where
  use_delay : (port : ℕ) (used : PortUse) (net : ℕ) → IsDrivenBy design.flat net (driver.Port port) → IsUsed design.bench port used → IsPortDelay design.bench used (use_least used)
  use_delay port port_use.Clock net is is_used = record { from = omega (arith, ints); to = ready.jitter.from }
  use_delay port (port_use.Arrival low high) net is is_used = record { from = omega (arith, ints); to = ready.arrivals port low high is_used }
  use_delay port (port_use.Strobed strobe) net is is_used = absurd (ready.sources net port strobe is is_used)

  port_delay : (port net : ℕ) → IsDrivenBy design.flat net (driver.Port port) → (used : PortUse) × IsUsed design.bench port used × IsPortDelay design.bench used (least_of design (arc.Port port))
  port_delay port net is =
      let sent = ready.complete net (driver.Port port) is in
      (sent.0, sent.1, subst (IsPortDelay design.bench sent.0) (sym (ap (λ o. option_map_or use_least o (pos 0)) sent.1)) (use_delay port sent.0 net is sent.1))

  cell_delay : (cell : ℕ) (row : CellRow) → IsOf design cell row → IsWithin row.low row.high (least_of design (arc.Through cell 0 0))
  cell_delay cell row of = subst (IsWithin row.low row.high) (sym (ap (λ o. option_map_or (λ (r : CellRow). r.low) o (pos 0)) of)) (record { from = omega (arith, ints); to = (ready.rows cell row of).delays })

  lead_delays : (net : ℕ) (arcs : List PathArc) (last : ℕ) → ArcsLead design net arcs last → AllZip (IsDelay design) arcs (map (least_of design) arcs)
  lead_delays net [] last lead = tt
  lead_delays net (arc.Port port ∷ arcs) last (next, on, rest) = absurd on
  lead_delays net (arc.Through cell pin out ∷ arcs) last (next, (row, of, passed, reads, driven), rest) = ((row, of, cell_delay cell row of), lead_delays next arcs last rest)

  -- a path with the least delay on each arc
  path_lane : (net : ℕ) (arcs : List PathArc) → IsPath design arcs net → (lane : Lane design net) × (arcs ≡ arc.Port lane.port ∷ lane.arcs) × AllZip (IsDelay design) arcs (map (least_of design) arcs)
  path_lane net [] path = absurd path.route
  path_lane net (arc.Through cell pin out ∷ arcs) path = absurd path.route
  path_lane net (arc.Port port ∷ arcs) path =
      let (first, driven, lead) = path.route in
      let used = port_delay port first driven in
      let count = count_first design is_gate port arcs in
      let delays = lead_delays first arcs net lead in (
        record {
          port = port;
          used = used.0;
          is_used = used.1;
          first = first;
          driven = driven;
          delay = least_of design (arc.Port port);
          port_delay = used.2;
          arcs = arcs;
          delays = map (least_of design) arcs;
          lead = lead;
          arc_delays = delays;
          one_gate = subst (λ (n : ℕ). n ≤ 1) count path.one_gate;
          clocked = λ l. begins (path.clocked (subst (λ (n : ℕ). 0 < n) (sym count) l));
        },
        refl,
        ((used.0, used.1, used.2), delays),
      )
    where
      begins : {p q : ℕ} → arc.Port p ≡ arc.Port q → p ≡ q
      begins e = cc

  -- ---- origins

  zero_or_more : (k : ℕ) → (k ≡ 0) ⊎ (0 < k)
  zero_or_more zero = inl refl
  zero_or_more (suc k) = inr (omega arith)

  net_at : (pin : ℕ) (to : Reader) (end : Pin) → EndsAt design pin to → slice_get design.flat.pins pin ≡ Some end →
      NotClock design end.net × ((cell at : ℕ) → to ≡ reader.Pin cell at → (input : ℕ) × Reads design.flat (reader.Pin cell input) end.net)
  net_at pin (reader.Pin gate at) end (zero_is, row, input, net, of, is, near, pin_is) stands =
      let both : Some (record { reader = reader.Pin gate input; net = net }) ≡ Some end = sym pin_is ∙ stands in
      let same : record { reader = reader.Pin gate input; net = net } ≡ end = cc in
      let nets : net ≡ end.net = ap (λ (p : Pin). p.net) same in (
        λ arcs route. ready.clock_on_data pin arcs (record { place = (gate, input, net, (row, of, is, near), pin_is, subst (IsClockRoute design arcs) (sym nets) route) }),
        λ cell at' e.
            (let cells : gate ≡ cell = cc in
            (input, (pin, subst (λ (c : ℕ). IsPin design.flat pin (reader.Pin c input) end.net) cells (subst (λ (n : ℕ). IsPin design.flat pin (reader.Pin gate input) n) nets pin_is)))),
      )
  net_at pin (reader.Port port) end (net, pin_is) stands =
      let both : Some (record { reader = reader.Port port; net = net }) ≡ Some end = sym pin_is ∙ stands in
      let same : record { reader = reader.Port port; net = net } ≡ end = cc in
      let nets : net ≡ end.net = ap (λ (p : Pin). p.net) same in
      (λ arcs route. ready.clock_out pin arcs (port, net, pin_is, subst (IsClockRoute design arcs) (sym nets) route), λ cell at e. cc)

  origin : (pin : ℕ) (to : Reader) (arcs : List PathArc) (end : Pin) → slice_get design.flat.pins pin ≡ Some end → EndsAt design pin to → (lane : Lane design end.net) → arcs ≡ arc.Port lane.port ∷ lane.arcs → IsFromData design.bench arcs ⊎ PassesGate design rank arcs to
  origin pin to arcs end stands ends lane same = elim (zero_or_more (gates_in design lane.arcs)) [
    | inl none ↦ inl (subst (IsFromData design.bench) (sym same) (lane.port, lane.used, lane.is_used, ungated_data design rank ready end.net (net_at pin to end ends stands).0 lane none, refl))
    | inr some ↦
        (let g = gate_on design lane.first lane.arcs end.net lane.lead some in
        inr (record {
          gate = g.cell;
          pin = g.pin;
          out = g.out;
          row = g.row;
          of = g.of;
          is = g.gate;
          within = subst (λ (xs : List PathArc). Contains xs (arc.Through g.cell g.pin g.out)) (sym same) (later (arc.Port lane.port) (arc.Through g.cell g.pin g.out) lane.arcs g.within);
          earlier = λ cell at is.
              (let reads = (net_at pin to end ends stands).1 cell at is in
              let rises = lead_rises design rank ready 0 (λ cell row of gate l. absurd (omega arith)) g.next g.cell g.out g.rest end.net g.driven g.lead in
              let falls = ready.ranked cell rises.0 (reads.0, rises.1, end.net, rises.2, reads.1) in
              let l = rises.3 in omega arith);
        }))
  ]
    where
      later : (b a : PathArc) (xs : List PathArc) → Contains xs a → Contains (b ∷ xs) a
      later b a xs has = (suc has.0, (let l = has.1 in omega arith), has.2)

pub paths_have_origins : PathsHaveOrigins
paths_have_origins design rank pin to arcs ready ends (end, stands, path) = let lane = path_lane design rank ready end.net arcs path in origin design rank ready pin to arcs end stands ends lane.0 lane.1

-- ---- steps

-- numbers that part alike are one
abbrev AreApart : ℤ → ℤ → Type 0
AreApart one other = (p n : ℕ) → pos n <ℤ (pos p +ℤ one) → pos n <ℤ (pos p +ℤ other)

not_above : (one other : ℤ) → AreApart other one → one <ℤ other → ⊥
not_above (pos a) other apart below = let l = apart 0 a (omega (arith, ints)) in omega (arith, ints)
not_above (negsuc a) other apart below = let l = apart (suc a) 0 (omega (arith, ints)) in omega (arith, ints)

apart_one : (one other : ℤ) → AreApart one other → AreApart other one → one ≡ other
apart_one one other to from = by_lt_z one other (λ l. absurd (not_above one other from l)) (λ h. by_lt_z other one (λ l. absurd (not_above other one to l)) (λ g. omega (arith, ints)))

module _ (design : Design) (rank : ℕ → ℕ) (ready : IsReady design rank) (pin : ℕ) (arcs : List PathArc) (path : IsPathTo design arcs pin) where
  abbrev pulse : ℕ → PathPick
  pulse p = record { arcs = arcs; delays = map (least_of design) arcs; number = p; ends = pin }

  is_pulse : (p : ℕ) → IsPick design (pulse p)
  is_pulse p = record { path = path; delays = (path_lane design rank ready path.0.net arcs path.2).2 }

  abbrev clock : List PathArc → ℕ → ℕ → PathPick
  clock carcs at n = record { arcs = carcs; delays = map (least_of design) carcs; number = n; ends = at }

  clock_as_path : (carcs : List PathArc) (net : ℕ) → IsClockRoute design carcs net → IsPath design carcs net
  clock_as_path carcs net route =
      let few = gates_join design carcs in
      let none : joins_in design carcs ≡ 0 = route.alone in
      record { route = route.route; one_gate = omega arith; clocked = λ l. absurd (omega arith) }

  is_clock_pick : (carcs : List PathArc) (from : Reader) (at net n : ℕ) → IsPin design.flat at from net → IsClockRoute design carcs net → IsPick design (clock carcs at n)
  is_clock_pick carcs from at net n is route = let cpath = clock_as_path carcs net route in record { path = (record { reader = from; net = net }, is, cpath); delays = (path_lane design rank ready net carcs cpath).2 }

  clock_one : (gate : ℕ) (carcs others : List PathArc) → IsClockPath design gate carcs → IsClockPath design gate others → others ≡ carcs
  clock_one gate carcs others (row, net, of, reads, route) (row', net', of', reads', route') =
      let both : Some row' ≡ Some row = sym of' ∙ of in
      let rows : row' ≡ row = cc in
      let nets : net' ≡ net = ready.numbered.one_read (reader.Pin gate (clock_pin row)) net' net (subst (λ (r : CellRow). Reads design.flat (reader.Pin gate (clock_pin r)) net') rows reads') reads in
      clock_route_one design ready.numbered (λ cell row of. (ready.rows cell row of).kind) others carcs net (subst (IsClockRoute design others) nets route') route

  apart_at : (by : Reader) (one other : ℤ) → HasStepsAt design arcs pin by one → HasStepsAt design arcs pin by other → AreApart one other
  apart_at (reader.Pin gate at) one other (carcs, is, law) (others, is', law') p n h =
      let same = clock_one gate carcs others is is' in
      let (row, net, of, reads, route) = is in
      let pick = is_clock_pick carcs (reader.Pin gate (clock_pin row)) reads.0 net n reads.1 route in
      let agree : Agree (pulse p) (clock carcs reads.0 n) = λ e. same_least design arcs carcs in
      (law' (pulse p) (clock carcs reads.0 n) (is_pulse p) refl refl pick (sym same) agree).0 ((law (pulse p) (clock carcs reads.0 n) (is_pulse p) refl refl pick refl agree).1 h)
  apart_at (reader.Port port) one other (strobe, used, law) (strobe', used', law') p n h =
      let both : Some (port_use.Strobed strobe') ≡ Some (port_use.Strobed strobe) = sym used' ∙ used in
      let same : strobe' ≡ strobe = cc in
      let here = (law (pulse p) n (is_pulse p) refl refl).1 h in
      (law' (pulse p) n (is_pulse p) refl refl).0 (subst (λ (s : Strobe). strobe_at design.bench s n <ℤ pick_time design.bench (pulse p)) (sym same) here)

  steps_one : (one other : ℤ) → HasSteps design arcs pin one → HasSteps design arcs pin other → one ≡ other
  steps_one one other (end, at, has) (end', at', has') =
      let both : Some end' ≡ Some end = sym at' ∙ at in
      let same : end' ≡ end = cc in
      let also : HasStepsAt design arcs pin end.reader other = subst (λ (e : Pin). HasStepsAt design arcs pin e.reader other) same has' in
      apart_one one other (apart_at end.reader one other has also) (apart_at end.reader other one also has)

pub steps_are_one : StepsAreOne
steps_are_one design rank pin arcs one other ready path has also = steps_one design rank ready pin arcs path one other has also
