-- The register of the examples meets what the laws ask, and so is signed off.
use Rattle.std.proofs.Common.{◌≡◌, ◌≢◌, ◌⊎◌, inl, inr, ◌↔◌, ℕ, zero, suc, ◌<◌, true, false, not, ℤ, pos, ◌+ℤ◌, ◌-ℤ◌, ◌*ℤ◌, ◌≤ℤ◌, ◌<ℤ◌, List, [], ◌∷◌, length, refl, sym, ap, ◌∙◌, subst, arith}
use Rattle.std.proofs.lemmas.Int.{ints, by_lt_z}
use Rattle.std.proofs.lemmas.Bool.{false≢true}
use Rattle.std.specs.Prelude.{Some, None, slice_get, Option}
use Rattle.std.specs.List.{AllZip, Contains, count_by}
use Rattle.rsfq_ids.specs.declared.table.CellRow.{CellRow}
use Rattle.rsfq_ids.specs.declared.table.Kind.TheVariants as kind
use Rattle.rsfq_ids.specs.declared.circuit.Pin.{Pin}
use Rattle.rsfq_ids.specs.declared.circuit.Strobe.{Strobe}
use Rattle.rsfq_ids.specs.declared.circuit.PortUse.{PortUse}
use Rattle.rsfq_ids.specs.declared.circuit.PortUse.TheVariants as port_use
use Rattle.rsfq_ids.specs.declared.circuit.Driver.{Driver}
use Rattle.rsfq_ids.specs.declared.circuit.Driver.TheVariants as driver
use Rattle.rsfq_ids.specs.declared.circuit.Reader.{Reader}
use Rattle.rsfq_ids.specs.declared.circuit.Reader.TheVariants as reader
use Rattle.rsfq_ids.specs.declared.offence.PathArc.{PathArc}
use Rattle.rsfq_ids.specs.declared.offence.PathArc.TheVariants as arc
use Rattle.rsfq_ids.specs.declared.offence.PathPick.{PathPick}
use Rattle.rsfq_ids.specs.declared.offence.Against.{Against}
use Rattle.rsfq_ids.specs.declared.offence.Against.TheVariants as against
use Rattle.rsfq_ids.specs.declared.offence.TrailHop.{TrailHop}
use Rattle.rsfq_ids.specs.Time.{IsWithin, IsNear, IsInZone, total}
use Rattle.rsfq_ids.specs.Circuit.{IsDrivenBy, IsPin, Reads, IsOf, is_gate, is_copying, clock_pin}
use Rattle.rsfq_ids.specs.Bench.{IsUsed, is_data}
use Rattle.rsfq_ids.specs.Run.{IsPortDelay}
use Rattle.rsfq_ids.specs.Path.{IsPassedFrom, ArcLeads, ArcsLead, IsRoute, BeginsAtPort, IsFromData, IsDelay, IsPick, IsPath, passes, pick_time, strobe_at, HasSteps, HasStepsAt, IsClockPath, IsStepsApart, Agree, IsHop, AreHops, EndsAt, BeginsAt, steps_of, HasDepth}
use Rattle.rsfq_ids.specs.Offence.{ReadsFrom, Closes, IsLoop, IsHeldAgainst, IsDeadPin, HasNoDead, HasNoWindow, HasNoAhead}
use Rattle.rsfq_ids.specs.Ready.{HasGoodShape}
use Rattle.rsfq_ids.specs.Numbering.{IsRanked}
use Rattle.pulse_laws.specs.Premises.{IsTimed}
use Rattle.pulse_laws.specs.Examples.{dff, register, RegisterIsSigned}
use Rattle.pulse_laws.specs.Statements.{AreDepths}
use Rattle.rsfq_ids.specs.Signed.{HasAllDepths}
use Rattle.pulse_laws.proofs.LawProofs.{designs_are_signed}
use Rattle.pulse_laws.proofs.Computed.{some, register_runs}

-- ---- what the circuit has

abbrev at_of : Reader → ℕ
at_of (reader.Pin cell at) = at
at_of (reader.Port port) = 7

abbrev source_of : Driver → ℕ
source_of (driver.Port port) = port
source_of (driver.Out cell out) = 7

pin_is : (pin : ℕ) (r : Reader) (net : ℕ) → IsPin register.flat pin r net →
    ((pin ≡ 0) × (r ≡ reader.Pin 0 0) × (net ≡ 1)) ⊎ ((pin ≡ 1) × (r ≡ reader.Pin 0 1) × (net ≡ 0)) ⊎ ((pin ≡ 2) × (r ≡ reader.Port 2) × (net ≡ 2))
pin_is zero r net is = let e : record { reader = reader.Pin 0 0; net = 1 } ≡ record { reader = r; net = net } = some is in inl (refl, sym (ap (λ (p : Pin). p.reader) e), sym (ap (λ (p : Pin). p.net) e))
pin_is (suc zero) r net is = let e : record { reader = reader.Pin 0 1; net = 0 } ≡ record { reader = r; net = net } = some is in inr (inl (refl, sym (ap (λ (p : Pin). p.reader) e), sym (ap (λ (p : Pin). p.net) e)))
pin_is (suc (suc zero)) r net is = let e : record { reader = reader.Port 2; net = 2 } ≡ record { reader = r; net = net } = some is in inr (inr (refl, sym (ap (λ (p : Pin). p.reader) e), sym (ap (λ (p : Pin). p.net) e)))
pin_is (suc (suc (suc n))) r net is = cc

driver_is : (net : ℕ) (d : Driver) → IsDrivenBy register.flat net d → ((net ≡ 0) × (d ≡ driver.Port 0)) ⊎ ((net ≡ 1) × (d ≡ driver.Port 1)) ⊎ ((net ≡ 2) × (d ≡ driver.Out 0 0))
driver_is zero d is = inl (refl, sym (some is))
driver_is (suc zero) d is = inr (inl (refl, sym (some is)))
driver_is (suc (suc zero)) d is = inr (inr (refl, sym (some is)))
driver_is (suc (suc (suc n))) d is = cc

cell_is : (cell : ℕ) (row : CellRow) → IsOf register cell row → (cell ≡ 0) × (row ≡ dff)
cell_is zero row of = (refl, sym (some of))
cell_is (suc cell) row of = cc

-- what the gate's pins and the output read
clock_net : (cell net : ℕ) → Reads register.flat (reader.Pin cell 1) net → net ≡ 0
clock_net cell net (pin, is) = elim (pin_is pin (reader.Pin cell 1) net is) [
  | inl (p, r, n) ↦ (let e : 1 ≡ 0 = ap at_of r in absurd (omega (arith, e)))
  | inr (inl (p, r, n)) ↦ n
  | inr (inr (p, r, n)) ↦ (let e : 1 ≡ 7 = ap at_of r in absurd (omega (arith, e)))
]

data_net : (cell at net : ℕ) → at < 1 → Reads register.flat (reader.Pin cell at) net → net ≡ 1
data_net cell at net l (pin, is) = elim (pin_is pin (reader.Pin cell at) net is) [
  | inl (p, r, n) ↦ n
  | inr (inl (p, r, n)) ↦ (let e : at ≡ 1 = ap at_of r in absurd (omega (arith, e)))
  | inr (inr (p, r, n)) ↦ (let e : at ≡ 7 = ap at_of r in absurd (omega (arith, e)))
]

output_net : (port net : ℕ) → Reads register.flat (reader.Port port) net → net ≡ 2
output_net port net (pin, is) = elim (pin_is pin (reader.Port port) net is) [
  | inl (p, r, n) ↦ (let e : 7 ≡ 0 = ap at_of r in absurd (omega (arith, e)))
  | inr (inl (p, r, n)) ↦ (let e : 7 ≡ 1 = ap at_of r in absurd (omega (arith, e)))
  | inr (inr (p, r, n)) ↦ n
]

-- ---- its paths

abbrev from_clock : List PathArc
from_clock = arc.Port 0 ∷ []

abbrev from_data : List PathArc
from_data = arc.Port 1 ∷ []

abbrev through_gate : List PathArc
through_gate = arc.Port 0 ∷ arc.Through 0 1 0 ∷ []

arc_is : (a : PathArc) (net next : ℕ) → ArcLeads register net a next → (net ≡ 0) × (a ≡ arc.Through 0 1 0) × (next ≡ 2)
arc_is (arc.Port port) net next leads = absurd leads
arc_is (arc.Through cell pin out) net next (row, of, passed, reads, driven) =
    let (cells, rows) = cell_is cell row of in
    let pins : pin ≡ 1 = subst (λ (r : CellRow). IsPassedFrom (is_gate r.kind) r pin) rows passed in
    let nets : net ≡ 0 = clock_net cell net (subst (λ (p : ℕ). Reads register.flat (reader.Pin cell p) net) pins reads) in
    elim (driver_is next (driver.Out cell out) driven) [
      | inl (n, d) ↦ (let e : 7 ≡ 0 = ap source_of d in absurd (omega (arith, e)))
      | inr (inl (n, d)) ↦ (let e : 7 ≡ 1 = ap source_of d in absurd (omega (arith, e)))
      | inr (inr (n, d)) ↦ (let outs : out ≡ 0 = cc in (nets, cc, n))
    ]

leads_is : (first : ℕ) (arcs : List PathArc) (last : ℕ) → ArcsLead register first arcs last → ((arcs ≡ []) × (first ≡ last)) ⊎ ((first ≡ 0) × (arcs ≡ arc.Through 0 1 0 ∷ []) × (last ≡ 2))
leads_is first [] last lead = inl (refl, lead)
leads_is first (a ∷ arcs) last (next, on, rest) =
    let (firsts, arc_same, nexts) = arc_is a first next on in
    elim (leads_is next arcs last rest) [
      | inl (nil, same) ↦ inr (firsts, cc, (let e : next ≡ last = same in omega arith))
      | inr (wrong, more, end) ↦ absurd (omega arith)
    ]

route_is : (arcs : List PathArc) (net : ℕ) → IsRoute register arcs net → ((net ≡ 0) × (arcs ≡ from_clock)) ⊎ ((net ≡ 1) × (arcs ≡ from_data)) ⊎ ((net ≡ 2) × (arcs ≡ through_gate))
route_is [] net route = absurd route
route_is (arc.Through cell pin out ∷ arcs) net route = absurd route
route_is (arc.Port port ∷ arcs) net (first, driven, lead) = elim (driver_is first (driver.Port port) driven) [
  | inl (f, d) ↦
      (let ports : port ≡ 0 = ap source_of d in
      elim (leads_is first arcs net lead) [
        | inl (nil, same) ↦ inl (omega arith, cc)
        | inr (f', one, end) ↦ inr (inr (end, cc))
      ])
  | inr (inl (f, d)) ↦
      (let ports : port ≡ 1 = ap source_of d in
      elim (leads_is first arcs net lead) [
        | inl (nil, same) ↦ inr (inl (omega arith, cc))
        | inr (f', one, end) ↦ absurd (omega arith)
      ])
  | inr (inr (f, d)) ↦ (let e : port ≡ 7 = ap source_of d in let wrong : driver.Port port ≡ driver.Out 0 0 = d in cc)
]

-- the path to each net
clock_path : (arcs : List PathArc) (net : ℕ) → IsRoute register arcs net → net ≡ 0 → arcs ≡ from_clock
clock_path arcs net route here = elim (route_is arcs net route) [ inl (n, a) ↦ a | inr (inl (n, a)) ↦ absurd (omega arith) | inr (inr (n, a)) ↦ absurd (omega arith) ]

data_path : (arcs : List PathArc) (net : ℕ) → IsRoute register arcs net → net ≡ 1 → arcs ≡ from_data
data_path arcs net route here = elim (route_is arcs net route) [ inl (n, a) ↦ absurd (omega arith) | inr (inl (n, a)) ↦ a | inr (inr (n, a)) ↦ absurd (omega arith) ]

gate_path : (arcs : List PathArc) (net : ℕ) → IsRoute register arcs net → net ≡ 2 → arcs ≡ through_gate
gate_path arcs net route here = elim (route_is arcs net route) [ inl (n, a) ↦ absurd (omega arith) | inr (inl (n, a)) ↦ absurd (omega arith) | inr (inr (n, a)) ↦ a ]

clock_is_no_data : (arcs : List PathArc) → IsFromData register.bench (arc.Port 0 ∷ arcs) → ⊥
clock_is_no_data arcs (port, used, is, data_is, begins) =
    let ports : 0 ≡ port = cc in
    let uses : port_use.Clock ≡ used = some (subst (λ (p : ℕ). IsUsed register.bench p used) (sym ports) is) in
    false≢true (subst (λ (u : PortUse). is_data u ≡ true) (sym uses) data_is)

-- ---- its shape

no_reads_from : (cell before : ℕ) → ReadsFrom register.flat cell before → ⊥
no_reads_from cell before (pin, out, net, driven, reads) = elim (driver_is net (driver.Out before out) driven) [
  | inl (n, d) ↦ (let e : 7 ≡ 0 = ap source_of d in omega (arith, e))
  | inr (inl (n, d)) ↦ (let e : 7 ≡ 1 = ap source_of d in omega (arith, e))
  | inr (inr (n, d)) ↦
      (elim (pin_is reads.0 (reader.Pin cell pin) net reads.1) [
        | inl (p, r, m) ↦ omega arith
        | inr (inl (p, r, m)) ↦ omega arith
        | inr (inr (p, r, m)) ↦ cc
      ])
]

no_closes : (first before : ℕ) (cells : List ℕ) → Closes register.flat first before cells → ⊥
no_closes first before [] closes = no_reads_from first before closes
no_closes first before (cell ∷ cells) closes = no_reads_from cell before closes.0

no_loop : (cells : List ℕ) → IsLoop register.flat cells → ⊥
no_loop [] loop = loop
no_loop (cell ∷ cells) loop = no_closes cell cell cells loop

no_fanout : (net first second : ℕ) (one two : Reader) → first ≢ second → IsPin register.flat first one net → IsPin register.flat second two net → ⊥
no_fanout net first second one two other is is' = go (pin_is first one net is) (pin_is second two net is')
  where
    go : ((first ≡ 0) × (one ≡ reader.Pin 0 0) × (net ≡ 1)) ⊎ ((first ≡ 1) × (one ≡ reader.Pin 0 1) × (net ≡ 0)) ⊎ ((first ≡ 2) × (one ≡ reader.Port 2) × (net ≡ 2)) →
        ((second ≡ 0) × (two ≡ reader.Pin 0 0) × (net ≡ 1)) ⊎ ((second ≡ 1) × (two ≡ reader.Pin 0 1) × (net ≡ 0)) ⊎ ((second ≡ 2) × (two ≡ reader.Port 2) × (net ≡ 2)) → ⊥
    go (inl (p, r, n)) (inl (q, s, m)) = other (omega arith)
    go (inl (p, r, n)) (inr (inl (q, s, m))) = omega arith
    go (inl (p, r, n)) (inr (inr (q, s, m))) = omega arith
    go (inr (inl (p, r, n))) (inl (q, s, m)) = omega arith
    go (inr (inl (p, r, n))) (inr (inl (q, s, m))) = other (omega arith)
    go (inr (inl (p, r, n))) (inr (inr (q, s, m))) = omega arith
    go (inr (inr (p, r, n))) (inl (q, s, m)) = omega arith
    go (inr (inr (p, r, n))) (inr (inl (q, s, m))) = omega arith
    go (inr (inr (p, r, n))) (inr (inr (q, s, m))) = other (omega arith)

pub ranked : IsRanked register.flat (λ cell. 0)
ranked cell before reads = absurd (no_reads_from cell before reads)

pub shape : HasGoodShape register
shape = record {
  fanout = λ net first second (other, (one, two, is, is')). no_fanout net first second one two other is is';
  loop = λ cells loop. no_loop cells loop;
  data_on_clock = λ pin path (cell, at, net, is, on).
      (let (row, of, gate, place) = on.clock_pin in
      let (cells, rows) = cell_is cell row of in
      let here : at ≡ 1 = subst (λ (r : CellRow). at ≡ clock_pin r) rows place in
      let nets : net ≡ 0 = clock_net cell net (subst (λ (p : ℕ). Reads register.flat (reader.Pin cell p) net) here (pin, is)) in
      let arcs = clock_path path net on.route nets in
      elim (subst (λ (xs : List PathArc). IsFromData register.bench xs ⊎ (0 < count_by (passes (λ k. not (is_copying k)) register) xs)) arcs on.foreign) [
        | inl foreign ↦ clock_is_no_data [] foreign
        | inr joins ↦ omega (arith, joins)
      ]);
  clock_on_data = λ pin path on.
      (let (cell, at, net, (row, of, gate, input), is, route) = on.place in
      let (cells, rows) = cell_is cell row of in
      let nets : net ≡ 1 = data_net cell at net (subst (λ (r : CellRow). at < length r.inputs) rows input) (pin, is) in
      let arcs = data_path path net route.route nets in
      let clock : arc.Port 1 ≡ arc.Port 0 = subst (λ (xs : List PathArc). BeginsAtPort xs 0) arcs route.clock in
      let ports : 1 ≡ 0 = ap port_of clock in absurd (omega (arith, ports)));
  clock_merged = λ pin path on.
      (let (cell, at, net, (row, of, merge, input), is, route) = on.place in
      let (cells, rows) = cell_is cell row of in
      let kinds : kind.Gate ≡ kind.Merge = subst (λ (r : CellRow). r.kind ≡ kind.Merge) rows merge in cc);
  clock_out = λ pin path (port, net, is, route).
      (let nets : net ≡ 2 = output_net port net (pin, is) in
      let arcs = gate_path path net route.route nets in
      let alone : count_by (passes (λ k. not (is_copying k)) register) through_gate ≡ 0 = subst (λ (xs : List PathArc). count_by (passes (λ k. not (is_copying k)) register) xs ≡ 0) arcs route.alone in
      absurd (omega (arith, alone)));
}
  where
    port_of : PathArc → ℕ
    port_of (arc.Port port) = port
    port_of (arc.Through cell pin out) = 0

-- ---- its pulses

clock_delay : (d : ℤ) → IsDelay register (arc.Port 0) d → d ≡ pos 0
clock_delay d (used, is, fits) =
    let within = subst (λ (u : PortUse). IsPortDelay register.bench u d) (sym (some is)) fits in
    let from = within.from in
    let to = within.to in
    omega (arith, ints)

data_delay : (d : ℤ) → IsDelay register (arc.Port 1) d → IsWithin (pos 4000) (pos 6000) d
data_delay d (used, is, fits) = subst (λ (u : PortUse). IsPortDelay register.bench u d) (sym (some is)) fits

gate_delay : (d : ℤ) → IsDelay register (arc.Through 0 1 0) d → IsWithin (pos 5000) (pos 7000) d
gate_delay d (row, of, within) = subst (λ (r : CellRow). IsWithin r.low r.high d) (cell_is 0 row of).1 within

clock_total : (delays : List ℤ) → AllZip (IsDelay register) from_clock delays → total delays ≡ pos 0
clock_total [] fits = absurd fits
clock_total (d ∷ []) fits = let e = clock_delay d fits.0 in omega (arith, ints)
clock_total (d ∷ e ∷ delays) fits = absurd fits.1

data_total : (delays : List ℤ) → AllZip (IsDelay register) from_data delays → IsWithin (pos 4000) (pos 6000) (total delays)
data_total [] fits = absurd fits
data_total (d ∷ []) fits = let w = data_delay d fits.0 in let from = w.from in let to = w.to in record { from = omega (arith, ints); to = omega (arith, ints) }
data_total (d ∷ e ∷ delays) fits = absurd fits.1

gate_total : (delays : List ℤ) → AllZip (IsDelay register) through_gate delays → IsWithin (pos 5000) (pos 7000) (total delays)
gate_total [] fits = absurd fits
gate_total (d ∷ []) fits = absurd fits.1
gate_total (d ∷ e ∷ []) fits =
    let c = clock_delay d fits.0 in
    let w = gate_delay e fits.1.0 in
    let from = w.from in
    let to = w.to in record { from = omega (arith, ints); to = omega (arith, ints) }
gate_total (d ∷ e ∷ f ∷ delays) fits = absurd fits.1.1

-- the net at the end of a pick
end_net : (at pin : ℕ) (end : Pin) (r : Reader) (net : ℕ) → slice_get register.flat.pins at ≡ Some end → at ≡ pin → IsPin register.flat pin r net → end.net ≡ net
end_net at pin end r net one same two =
    let e : end ≡ record { reader = r; net = net } = some (sym one ∙ ap (λ (p : ℕ). slice_get register.flat.pins p) same ∙ two) in
    ap (λ (p : Pin). p.net) e

clock_pulse : (pick : PathPick) → (is : IsPick register pick) → is.path.0.net ≡ 0 → (pick.arcs ≡ from_clock) × (total pick.delays ≡ pos 0)
clock_pulse pick is net =
    let arcs = clock_path pick.arcs is.path.0.net is.path.2.route net in
    (arcs, clock_total pick.delays (subst (λ (xs : List PathArc). AllZip (IsDelay register) xs pick.delays) arcs is.delays))

data_pulse : (pick : PathPick) → (is : IsPick register pick) → is.path.0.net ≡ 1 → IsWithin (pos 4000) (pos 6000) (total pick.delays)
data_pulse pick is net = data_total pick.delays (subst (λ (xs : List PathArc). AllZip (IsDelay register) xs pick.delays) (data_path pick.arcs is.path.0.net is.path.2.route net) is.delays)

gate_pulse : (pick : PathPick) → (is : IsPick register pick) → is.path.0.net ≡ 2 → IsWithin (pos 5000) (pos 7000) (total pick.delays)
gate_pulse pick is net = gate_total pick.delays (subst (λ (xs : List PathArc). AllZip (IsDelay register) xs pick.delays) (gate_path pick.arcs is.path.0.net is.path.2.route net) is.delays)

-- a pick at the gate's clock pin
clock_end : (clock : PathPick) (cell : ℕ) (row : CellRow) (net : ℕ) → (is : IsPick register clock) → IsOf register cell row → IsPin register.flat clock.ends (reader.Pin cell (clock_pin row)) net → is.path.0.net ≡ 0
clock_end clock cell row net is of at =
    let rows = (cell_is cell row of).1 in
    end_net clock.ends clock.ends is.path.0 (reader.Pin cell (clock_pin row)) net is.path.1 refl at ∙ clock_net cell net (subst (λ (r : CellRow). Reads register.flat (reader.Pin cell (clock_pin r)) net) rows (clock.ends, at))

-- ---- its rules

far_apart : (n m : ℕ) (s t : ℤ) → n ≢ m → s ≡ pos 0 → t ≡ pos 0 → (((pos m *ℤ pos 20000) +ℤ t) -ℤ ((pos n *ℤ pos 20000) +ℤ s)) <ℤ pos 10000 → (((pos n *ℤ pos 20000) +ℤ s) -ℤ ((pos m *ℤ pos 20000) +ℤ t)) <ℤ pos 10000 → ⊥
far_apart n m s t other zero_s zero_t before after = other (omega (arith, ints))

no_dead : HasNoDead true register
no_dead cell row first second of gate (row', dead) =
    let rows : row' ≡ dff = (cell_is cell row' dead.meet.of).1 in
    let near = subst (λ (r : CellRow). IsNear r.dead (pick_time register.bench first) (pick_time register.bench second)) rows dead.near in
    let (at, net, place, is) = dead.meet.first_ends in
    let (at', net', place', is') = dead.meet.second_ends in
    let one = clock_pulse first dead.meet.first (clock_end first cell row' net dead.meet.first dead.meet.of (subst (λ (p : ℕ). IsPin register.flat first.ends (reader.Pin cell p) net) (at_clock row' at rows place) is)) in
    let two = clock_pulse second dead.meet.second (clock_end second cell row' net' dead.meet.second dead.meet.of (subst (λ (p : ℕ). IsPin register.flat second.ends (reader.Pin cell p) net') (at_clock row' at' rows place') is')) in
    elim dead.meet.differ [
      | inl arcs ↦ arcs (one.0 ∙ sym two.0)
      | inr numbers ↦ far_apart first.number second.number (total first.delays) (total second.delays) numbers one.1 two.1 near.before near.after
    ]
  where
    at_clock : (row : CellRow) (at : ℕ) → row ≡ dff → IsDeadPin (is_gate row.kind) row at → at ≡ clock_pin row
    at_clock row at rows place = (let e : at ≡ 1 = subst (λ (r : CellRow). IsDeadPin (is_gate r.kind) r at) rows place in e ∙ sym (ap (λ (r : CellRow). clock_pin r) rows))

-- a data pulse stands at 4000 to 6000 behind a tick, a pulse of the output at 5000 to 7000, and no zone reaches so far
data_outside : (n m : ℕ) (s t : ℤ) → IsWithin (pos 4000) (pos 6000) s → t ≡ pos 0 → IsInZone (pos 2000) (pos 1000) ((pos m *ℤ pos 20000) +ℤ t) ((pos n *ℤ pos 20000) +ℤ s) → ⊥
data_outside n m s t within zero_t zone = let from = within.from in let to = within.to in let after = zone.after in let before = zone.before in omega (arith, ints)

gate_outside : (n m : ℕ) (s : ℤ) → IsWithin (pos 5000) (pos 7000) s → IsInZone (pos 1000) (pos 1000) (pos 0 +ℤ (pos m *ℤ pos 20000)) ((pos n *ℤ pos 20000) +ℤ s) → ⊥
gate_outside n m s within zone = let from = within.from in let to = within.to in let after = zone.after in let before = zone.before in omega (arith, ints)

strobe_is : (port : ℕ) (strobe : Strobe) → IsUsed register.bench port (port_use.Strobed strobe) → strobe ≡ record { offset = pos 0; setup = pos 1000; hold = pos 1000 }
strobe_is zero strobe used = (let e : port_use.Clock ≡ port_use.Strobed strobe = some used in cc)
strobe_is (suc zero) strobe used = (let e : port_use.Arrival (pos 4000) (pos 6000) ≡ port_use.Strobed strobe = some used in cc)
strobe_is (suc (suc zero)) strobe used = (let e : port_use.Strobed (record { offset = pos 0; setup = pos 1000; hold = pos 1000 }) ≡ port_use.Strobed strobe = some used in cc)
strobe_is (suc (suc (suc n))) strobe used = cc

window_at : (pulse : PathPick) (is : IsPick register pulse) (pin : ℕ) (end : Pin) → pulse.ends ≡ pin → slice_get register.flat.pins pin ≡ Some end → (r : Reader) → end.reader ≡ r → (held : Against) →
    IsHeldAgainst register r pulse held (λ setup hold number time. IsInZone setup hold time (pick_time register.bench pulse)) → ⊥
window_at pulse is pin end ends at (reader.Pin cell place) here (against.Clock clock) (row, net, of, gate, input, cpick, cpin, agree, zone) =
    let rows = (cell_is cell row of).1 in
    let nets : is.path.0.net ≡ 1 = end_net pulse.ends pin is.path.0 (reader.Pin cell place) end.net is.path.1 ends (subst (λ (x : Reader). IsPin register.flat pin x end.net) here at)
    ∙ data_net cell place end.net (subst (λ (r : CellRow). place < length r.inputs) rows input) (pin, subst (λ (x : Reader). IsPin register.flat pin x end.net) here at) in
    data_outside pulse.number clock.number (total pulse.delays) (total clock.delays) (data_pulse pulse is nets) (clock_pulse clock cpick (clock_end clock cell row net cpick of cpin)).1
    (subst (λ (r : CellRow). IsInZone r.setup r.hold (pick_time register.bench clock) (pick_time register.bench pulse)) rows zone)
window_at pulse is pin end ends at (reader.Pin cell place) here (against.Strobe number) held = absurd held
window_at pulse is pin end ends at (reader.Port port) here (against.Clock clock) held = absurd held
window_at pulse is pin end ends at (reader.Port port) here (against.Strobe number) (strobe, used, zone) =
    let nets : is.path.0.net ≡ 2 = end_net pulse.ends pin is.path.0 (reader.Port port) end.net is.path.1 ends (subst (λ (x : Reader). IsPin register.flat pin x end.net) here at)
    ∙ output_net port end.net (pin, subst (λ (x : Reader). IsPin register.flat pin x end.net) here at) in
    gate_outside pulse.number number (total pulse.delays) (gate_pulse pulse is nets) (subst (λ (s : Strobe). IsInZone s.setup s.hold (strobe_at register.bench s number) (pick_time register.bench pulse)) (strobe_is port strobe used) zone)

no_window : HasNoWindow register
no_window pin pulse held o = let (end, at, against) = o.against in window_at pulse o.pick pin end o.ends at end.reader refl held against

-- a pulse of word 1 comes after 20000, and clock pulse 0 and strobe 0 come at 0
later : (n m : ℕ) (s t : ℤ) → n ≡ 1 → m ≡ 0 → pos 0 ≤ℤ s → t ≡ pos 0 → ((pos n *ℤ pos 20000) +ℤ s) ≤ℤ ((pos m *ℤ pos 20000) +ℤ t) → ⊥
later n m s t one none above zero_t early = omega (arith, ints)

later_strobe : (n m : ℕ) (s : ℤ) → n ≡ 1 → m ≡ 0 → pos 0 ≤ℤ s → ((pos n *ℤ pos 20000) +ℤ s) ≤ℤ (pos 0 +ℤ (pos m *ℤ pos 20000)) → ⊥
later_strobe n m s one none above early = omega (arith, ints)

from_four : (s : ℤ) → IsWithin (pos 4000) (pos 6000) s → pos 0 ≤ℤ s
from_four s within = let from = within.from in omega (arith, ints)

from_five : (s : ℤ) → IsWithin (pos 5000) (pos 7000) s → pos 0 ≤ℤ s
from_five s within = let from = within.from in omega (arith, ints)

ahead_at : (pulse : PathPick) (is : IsPick register pulse) (pin : ℕ) (end : Pin) → pulse.number ≡ 1 → pulse.ends ≡ pin → slice_get register.flat.pins pin ≡ Some end → (r : Reader) → end.reader ≡ r → (held : Against) →
    IsHeldAgainst register r pulse held (λ setup hold number time. (number ≡ 0) × (pick_time register.bench pulse ≤ℤ time)) → ⊥
ahead_at pulse is pin end one ends at (reader.Pin cell place) here (against.Clock clock) (row, net, of, gate, input, cpick, cpin, agree, early) =
    let rows = (cell_is cell row of).1 in
    let nets : is.path.0.net ≡ 1 = end_net pulse.ends pin is.path.0 (reader.Pin cell place) end.net is.path.1 ends (subst (λ (x : Reader). IsPin register.flat pin x end.net) here at)
    ∙ data_net cell place end.net (subst (λ (r : CellRow). place < length r.inputs) rows input) (pin, subst (λ (x : Reader). IsPin register.flat pin x end.net) here at) in
    later pulse.number clock.number (total pulse.delays) (total clock.delays) one early.0 (from_four _ (data_pulse pulse is nets)) (clock_pulse clock cpick (clock_end clock cell row net cpick of cpin)).1 early.1
ahead_at pulse is pin end one ends at (reader.Pin cell place) here (against.Strobe number) held = absurd held
ahead_at pulse is pin end one ends at (reader.Port port) here (against.Clock clock) held = absurd held
ahead_at pulse is pin end one ends at (reader.Port port) here (against.Strobe number) (strobe, used, early) =
    let nets : is.path.0.net ≡ 2 = end_net pulse.ends pin is.path.0 (reader.Port port) end.net is.path.1 ends (subst (λ (x : Reader). IsPin register.flat pin x end.net) here at)
    ∙ output_net port end.net (pin, subst (λ (x : Reader). IsPin register.flat pin x end.net) here at) in
    later_strobe pulse.number number (total pulse.delays) one early.0 (from_five _ (gate_pulse pulse is nets)) (subst (λ (s : Strobe). pick_time register.bench pulse ≤ℤ strobe_at register.bench s number) (strobe_is port strobe used) early.1)

no_ahead : HasNoAhead register
no_ahead pin pulse held (one, o) = let (end, at, against) = o.against in ahead_at pulse o.pick pin end one o.ends at end.reader refl held against

-- ---- its depths

-- a pulse on each path
abbrev early_data : ℕ → PathPick
early_data number = record { arcs = from_data; delays = pos 5000 ∷ []; number = number; ends = 0 }

abbrev early_clock : ℕ → PathPick
early_clock number = record { arcs = from_clock; delays = pos 0 ∷ []; number = number; ends = 1 }

abbrev early_answer : ℕ → PathPick
early_answer number = record { arcs = through_gate; delays = pos 0 ∷ pos 6000 ∷ []; number = number; ends = 2 }

within : (low high time : ℤ) → low ≤ℤ time → time ≤ℤ high → IsWithin low high time
within low high time from to = record { from = from; to = to }

data_way : IsPath register from_data 1
data_way = record { route = (1, refl, refl); one_gate = omega arith; clocked = λ l. absurd (omega (arith, l)) }

clock_way : IsPath register from_clock 0
clock_way = record { route = (0, refl, refl); one_gate = omega arith; clocked = λ l. absurd (omega (arith, l)) }

gate_way : IsPath register through_gate 2
gate_way = record { route = (0, refl, (2, (dff, refl, refl, (1, refl), refl), refl)); one_gate = omega arith; clocked = λ l. refl }

is_early_data : (number : ℕ) → IsPick register (early_data number)
is_early_data number = record { path = (record { reader = reader.Pin 0 0; net = 1 }, refl, data_way); delays = ((port_use.Arrival (pos 4000) (pos 6000), refl, within _ _ _ (omega (arith, ints)) (omega (arith, ints))), tt) }

is_early_clock : (number : ℕ) → IsPick register (early_clock number)
is_early_clock number = record { path = (record { reader = reader.Pin 0 1; net = 0 }, refl, clock_way); delays = ((port_use.Clock, refl, within _ _ _ (omega (arith, ints)) (omega (arith, ints))), tt) }

is_early_answer : (number : ℕ) → IsPick register (early_answer number)
is_early_answer number = record {
  path = (record { reader = reader.Port 2; net = 2 }, refl, gate_way);
  delays = ((port_use.Clock, refl, within _ _ _ (omega (arith, ints)) (omega (arith, ints))), ((dff, refl, within _ _ _ (omega (arith, ints)) (omega (arith, ints))), tt));
}

-- the gate's clock path is that from the clock
clock_only : (cell : ℕ) (arcs : List PathArc) → IsClockPath register cell arcs → arcs ≡ from_clock
clock_only cell arcs (row, net, of, reads, route) = clock_path arcs net route.route (clock_net cell net (subst (λ (r : CellRow). Reads register.flat (reader.Pin cell (clock_pin r)) net) (cell_is cell row of).1 reads))

-- steps of one period on both paths
data_steps : HasSteps register from_data 0 (pos 1)
data_steps = (record { reader = reader.Pin 0 0; net = 1 }, refl, (from_clock, (dff, 0, refl, (1, refl), record { route = clock_way.route; clock = refl; alone = refl }), law))
  where
    sides : (p n : ℕ) (s t : ℤ) → IsWithin (pos 4000) (pos 6000) s → t ≡ pos 0 → (((pos n *ℤ pos 20000) +ℤ t) <ℤ ((pos p *ℤ pos 20000) +ℤ s)) ↔ (pos n <ℤ (pos p +ℤ pos 1))
    sides p n s t within zero_t = let from = within.from in let to = within.to in (λ later. omega (arith, ints), λ less. omega (arith, ints))

    law : (pulse clock : PathPick) → IsPick register pulse → pulse.arcs ≡ from_data → pulse.ends ≡ 0 → IsPick register clock → clock.arcs ≡ from_clock → Agree pulse clock → IsStepsApart (pos 1) pulse.number (pick_time register.bench pulse) clock.number (pick_time register.bench clock)
    law pulse clock is arcs ends cis carcs agree =
        sides pulse.number clock.number (total pulse.delays) (total clock.delays) (data_total pulse.delays (subst (λ (xs : List PathArc). AllZip (IsDelay register) xs pulse.delays) arcs is.delays))
        (clock_total clock.delays (subst (λ (xs : List PathArc). AllZip (IsDelay register) xs clock.delays) carcs cis.delays))

gate_steps : HasSteps register through_gate 2 (pos 1)
gate_steps = (record { reader = reader.Port 2; net = 2 }, refl, (record { offset = pos 0; setup = pos 1000; hold = pos 1000 }, refl, law))
  where
    sides : (p n : ℕ) (s : ℤ) → IsWithin (pos 5000) (pos 7000) s → ((pos 0 +ℤ (pos n *ℤ pos 20000)) <ℤ ((pos p *ℤ pos 20000) +ℤ s)) ↔ (pos n <ℤ (pos p +ℤ pos 1))
    sides p n s within = let from = within.from in let to = within.to in (λ later. omega (arith, ints), λ less. omega (arith, ints))

    law : (pulse : PathPick) (n : ℕ) → IsPick register pulse → pulse.arcs ≡ through_gate → pulse.ends ≡ 2 → IsStepsApart (pos 1) pulse.number (pick_time register.bench pulse) n (strobe_at register.bench (record { offset = pos 0; setup = pos 1000; hold = pos 1000 }) n)
    law pulse n is arcs ends = sides pulse.number n (total pulse.delays) (gate_total pulse.delays (subst (λ (xs : List PathArc). AllZip (IsDelay register) xs pulse.delays) arcs is.delays))

-- steps are one number: what two pairs of pulses say
only_one : (q : ℤ) → (pos 0 <ℤ (pos 0 +ℤ q)) → ((pos 1 <ℤ (pos 0 +ℤ q)) → ⊥) → q ≡ pos 1
only_one q above below = by_lt_z (pos 1) q (λ more. absurd (below (omega (arith, ints)))) (λ less. omega (arith, ints))

data_hop : (arcs : List PathArc) (pin place : ℕ) (q : ℤ) → arcs ≡ from_data → pin ≡ 0 → HasStepsAt register arcs pin (reader.Pin 0 place) q → q ≡ pos 1
data_hop arcs pin place q is at (clock_arcs, clocked, law) =
    let same : clock_arcs ≡ from_clock = clock_only 0 clock_arcs clocked in
    let at_zero = law (early_data 0) (early_clock 0) (is_early_data 0) (sym is) (sym at) (is_early_clock 0) (sym same) (λ e. λ heads. cc) in
    let at_one = law (early_data 0) (early_clock 1) (is_early_data 0) (sym is) (sym at) (is_early_clock 1) (sym same) (λ e. absurd (omega (arith, e))) in
    only_one q (at_zero.0 (omega (arith, ints))) (λ less. not_yet (at_one.1 less))
  where
    not_yet : (((pos 1 *ℤ pos 20000) +ℤ (pos 0 +ℤ pos 0)) <ℤ ((pos 0 *ℤ pos 20000) +ℤ (pos 5000 +ℤ pos 0))) → ⊥
    not_yet late = omega (arith, ints)

gate_hop : (arcs : List PathArc) (pin port : ℕ) (q : ℤ) → arcs ≡ through_gate → pin ≡ 2 → HasStepsAt register arcs pin (reader.Port port) q → q ≡ pos 1
gate_hop arcs pin port q is at (strobe, used, law) =
    let same = strobe_is port strobe used in
    let at_zero = subst (λ (s : Strobe). (strobe_at register.bench s 0 <ℤ pick_time register.bench (early_answer 0)) ↔ (pos 0 <ℤ (pos 0 +ℤ q))) same (law (early_answer 0) 0 (is_early_answer 0) (sym is) (sym at)) in
    let at_one = subst (λ (s : Strobe). (strobe_at register.bench s 1 <ℤ pick_time register.bench (early_answer 0)) ↔ (pos 1 <ℤ (pos 0 +ℤ q))) same (law (early_answer 0) 1 (is_early_answer 0) (sym is) (sym at)) in
    only_one q (at_zero.0 (omega (arith, ints))) (λ less. not_yet (at_one.1 less))
  where
    not_yet : ((pos 0 +ℤ (pos 1 *ℤ pos 20000)) <ℤ ((pos 0 *ℤ pos 20000) +ℤ (pos 0 +ℤ (pos 6000 +ℤ pos 0)))) → ⊥
    not_yet late = omega (arith, ints)

-- a hop to the gate comes from the data input, one to the output through the gate, each in one step
hop_to_gate : (start : Option ℕ) (hop : TrailHop) → IsHop register start hop → (gate at : ℕ) → EndsAt register hop.pin (reader.Pin gate at) → (hop.steps ≡ pos 1) × (hop.arcs ≡ from_data)
hop_to_gate start hop is gate at (first, row, input, net, of, gated, less, pin) = elim (pin_is hop.pin (reader.Pin gate input) net pin) [
  | inl (p, r, n) ↦
      (let arcs = data_path hop.arcs is.path.0.net is.path.2.route (end_net hop.pin hop.pin is.path.0 (reader.Pin gate input) net is.path.1 refl pin ∙ n) in
      let readers : is.steps.0.reader ≡ reader.Pin 0 0 = reader_at hop.pin is.steps.0 (reader.Pin gate input) net is.steps.1 pin ∙ r in
      (data_hop hop.arcs hop.pin 0 hop.steps arcs p (subst (λ (x : Reader). HasStepsAt register hop.arcs hop.pin x hop.steps) readers is.steps.2), arcs))
  | inr (inl (p, r, n)) ↦ (let e : input ≡ 1 = ap at_of r in let l = subst (λ (x : CellRow). input < length x.inputs) (cell_is gate row of).1 less in absurd (omega (arith, e, l)))
  | inr (inr (p, r, n)) ↦ (let e : input ≡ 7 = ap at_of r in let l = subst (λ (x : CellRow). input < length x.inputs) (cell_is gate row of).1 less in absurd (omega (arith, e, l)))
]
  where
    reader_at : (pin : ℕ) (end : Pin) (r : Reader) (net : ℕ) → slice_get register.flat.pins pin ≡ Some end → IsPin register.flat pin r net → end.reader ≡ r
    reader_at pin end r net one two = ap (λ (x : Pin). x.reader) (some (sym one ∙ two))

hop_to_port : (start : Option ℕ) (hop : TrailHop) → IsHop register start hop → (port : ℕ) → EndsAt register hop.pin (reader.Port port) → (hop.steps ≡ pos 1) × (hop.arcs ≡ through_gate)
hop_to_port start hop is port (net, pin) = elim (pin_is hop.pin (reader.Port port) net pin) [
  | inl (p, r, n) ↦ (let e : 7 ≡ 0 = ap at_of r in absurd (omega (arith, e)))
  | inr (inl (p, r, n)) ↦ (let e : 7 ≡ 1 = ap at_of r in absurd (omega (arith, e)))
  | inr (inr (p, r, n)) ↦
      (let arcs = gate_path hop.arcs is.path.0.net is.path.2.route (end_net hop.pin hop.pin is.path.0 (reader.Port port) net is.path.1 refl pin ∙ n) in
      let readers : is.steps.0.reader ≡ reader.Port port = reader_at hop.pin is.steps.0 (reader.Port port) net is.steps.1 pin in
      (gate_hop hop.arcs hop.pin port hop.steps arcs p (subst (λ (x : Reader). HasStepsAt register hop.arcs hop.pin x hop.steps) readers is.steps.2), arcs))
]
  where
    reader_at : (pin : ℕ) (end : Pin) (r : Reader) (net : ℕ) → slice_get register.flat.pins pin ≡ Some end → IsPin register.flat pin r net → end.reader ≡ r
    reader_at pin end r net one two = ap (λ (x : Pin). x.reader) (some (sym one ∙ two))

-- the path from the data input passes no gate
no_gate : (arcs : List PathArc) (gate : ℕ) → arcs ≡ from_data → BeginsAt register.bench (Some gate) arcs → ⊥
no_gate arcs gate is (pin, out, contains) = go (subst (λ (xs : List PathArc). Contains xs (arc.Through gate pin out)) is contains)
  where
    go : Contains from_data (arc.Through gate pin out) → ⊥
    go (zero, l, e) = cc
    go (suc i, l, e) = omega arith

abbrev depth_of : Reader → ℤ
depth_of (reader.Pin cell at) = pos 1
depth_of (reader.Port port) = pos 2

rest_sum : (gate : ℕ) (hops : List TrailHop) (to : Reader) → AreHops register (Some gate) hops to → (depth_of to ≡ pos 2) × (steps_of hops ≡ pos 1)
rest_sum gate [] to are = absurd are
rest_sum gate (hop ∷ []) (reader.Pin cell at) (is, ends) = absurd (no_gate hop.arcs gate (hop_to_gate (Some gate) hop is cell at ends).1 is.begins)
rest_sum gate (hop ∷ []) (reader.Port port) (is, ends) = let one = (hop_to_port (Some gate) hop is port ends).0 in (refl, omega (arith, ints))
rest_sum gate (hop ∷ next ∷ hops) to (is, cell, ends, rest) = absurd (no_gate hop.arcs gate (hop_to_gate (Some gate) hop is cell 0 ends).1 is.begins)

trail_sum : (hops : List TrailHop) (to : Reader) → AreHops register None hops to → steps_of hops ≡ depth_of to
trail_sum [] to are = absurd are
trail_sum (hop ∷ []) (reader.Pin cell at) (is, ends) = let one = (hop_to_gate None hop is cell at ends).0 in omega (arith, ints)
trail_sum (hop ∷ []) (reader.Port port) (is, ends) = absurd (clock_is_no_data (arc.Through 0 1 0 ∷ []) (subst (λ (xs : List PathArc). IsFromData register.bench xs) (hop_to_port None hop is port ends).1 is.begins))
trail_sum (hop ∷ next ∷ hops) to (is, cell, ends, rest) =
    let one = (hop_to_gate None hop is cell 0 ends).0 in
    let (deep, sum) = rest_sum cell (next ∷ hops) to rest in
    omega (arith, ints)

-- ---- what follows

pub timed : IsTimed register
timed = record { no_dead = no_dead; no_window = no_window; no_ahead = no_ahead; no_unequal = λ to first second (one, two, other). other (trail_sum first.hops to one ∙ sym (trail_sum second.hops to two)) }

pub no_passive : HasNoDead false register
no_passive cell row first second of passive dead = false≢true (sym (subst (λ (r : CellRow). is_gate r.kind ≡ false) (cell_is cell row of).1 passive))

pub output_depth : HasDepth register (reader.Port 2) (pos 2)
output_depth = record {
  some = (
    record { arcs = from_data; pin = 0; steps = pos 1 } ∷ record { arcs = through_gate; pin = 2; steps = pos 1 } ∷ [],
    (
      record { begins = (1, port_use.Arrival (pos 4000) (pos 6000), refl, refl, refl); path = (record { reader = reader.Pin 0 0; net = 1 }, refl, data_way); steps = data_steps },
      0,
      (refl, dff, 0, 1, refl, refl, omega arith, refl),
      (record { begins = (1, 0, (1, omega arith, refl)); path = (record { reader = reader.Port 2; net = 2 }, refl, gate_way); steps = gate_steps }, (2, refl)),
    ),
  );
  every = λ hops trail. trail_sum hops (reader.Port 2) trail;
}

all_depths : HasAllDepths register.bench ((2, 2) ∷ [])
all_depths zero strobe used = (let e : port_use.Clock ≡ port_use.Strobed strobe = some used in cc)
all_depths (suc zero) strobe used = (let e : port_use.Arrival (pos 4000) (pos 6000) ≡ port_use.Strobed strobe = some used in cc)
all_depths (suc (suc zero)) strobe used = (2, (0, omega arith, refl))
all_depths (suc (suc (suc n))) strobe used = cc

are_depths : AreDepths register ((2, 2) ∷ [])
are_depths port depth (zero, l, e) =
    let ports : 2 ≡ port = ap (λ (p : ℕ × ℕ). p.0) e in
    let depths : 2 ≡ depth = ap (λ (p : ℕ × ℕ). p.1) e in
    subst (λ (p : ℕ). HasDepth register (reader.Port p) (pos depth)) ports (subst (λ (d : ℕ). HasDepth register (reader.Port 2) (pos d)) depths output_depth)
are_depths port depth (suc i, l, e) = absurd (omega arith)

pub register_is_signed : RegisterIsSigned
register_is_signed = designs_are_signed register (λ cell. 0) ((2, 2) ∷ []) register_runs.set_up shape ranked no_passive timed all_depths are_depths
