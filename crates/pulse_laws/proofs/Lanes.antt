-- Lanes: paths from a port to a net with a delay on each arc.
use Rattle.std.proofs.Common.{◌≡◌, ℕ, zero, suc, ◌+◌, ◌<◌, ◌≤◌, Bool, true, false, cond, ◌⊎◌, ℤ, List, [], ◌∷◌, ◌++◌, length, refl, sym, ap, ◌∙◌, subst, arith, inl, inr, length-append}
use Rattle.std.proofs.lemmas.List.Sums.{sum_by-cons, sum_by_push}
use Rattle.std.specs.Prelude.{Some}
use Rattle.std.specs.Option.{option_map_or}
use Rattle.std.specs.List.{count_by}
use Rattle.rsfq_ids.specs.declared.table.CellRow.{CellRow}
use Rattle.rsfq_ids.specs.declared.table.Kind.{Kind}
use Rattle.rsfq_ids.specs.declared.circuit.PortUse.{PortUse}
use Rattle.rsfq_ids.specs.declared.circuit.PortUse.TheVariants as port_use
use Rattle.rsfq_ids.specs.declared.circuit.Driver.TheVariants as driver
use Rattle.rsfq_ids.specs.declared.circuit.Reader.TheVariants as reader
use Rattle.rsfq_ids.specs.declared.offence.PathArc.{PathArc}
use Rattle.rsfq_ids.specs.declared.offence.PathArc.TheVariants as arc
use Rattle.rsfq_ids.specs.declared.offence.Offence.TheVariants as offence
use Rattle.rsfq_ids.specs.Time.{IsWithin}
use Rattle.rsfq_ids.specs.Circuit.{IsDrivenBy, Reads, IsOf, is_gate, clock_pin}
use Rattle.rsfq_ids.specs.Bench.{IsUsed}
use Rattle.rsfq_ids.specs.Run.{Run, IsPortDelay}
use Rattle.rsfq_ids.specs.Path.{IsPassedFrom, ArcLeads, ArcsLead, IsPath, IsClockRoute, IsDelay, passes, IsFromData}
use Rattle.rsfq_ids.specs.Offence.{OffenceExists}
use Rattle.rsfq_ids.specs.Numbering.{IsNumbered}
use Rattle.rsfq_ids.specs.WellFormed.{FitsKind}
use Rattle.pulse_laws.proofs.Flows.{flows_lead}
use Rattle.pulse_laws.proofs.Came.{one_more, clocked_more}
use Rattle.pulse_laws.proofs.Tags.{gates_join}
use Rattle.pulse_laws.proofs.Straight.{one_input}
use Rattle.pulse_laws.proofs.Zips.{zip_push}
use Rattle.pulse_laws.proofs.Fill.{AreDelays}
use Rattle.pulse_laws.proofs.Last.{lead_last, lead_more}
use Rattle.rsfq_ids.specs.Design.{Design}
use Rattle.pulse_laws.proofs.Straight.{no_copy}
use Rattle.pulse_laws.specs.Flows.{Came}

module _ (design : Design) where
  abbrev pub gates_in : List PathArc → ℕ
  gates_in arcs = count_by (passes is_gate design) arcs

  abbrev pub joins_in : List PathArc → ℕ
  joins_in arcs = count_by (passes no_copy design) arcs

  pub passes_at : (test : Kind → Bool) (cell pin out : ℕ) (row : CellRow) → IsOf design cell row → passes test design (arc.Through cell pin out) ≡ test row.kind
  passes_at test cell pin out row of = ap (λ o. option_map_or (λ (r : CellRow). test r.kind) o false) of

  pub count_last : (test : Kind → Bool) (arcs : List PathArc) (a : PathArc) → count_by (passes test design) (arcs ++ a ∷ []) ≡ count_by (passes test design) arcs + cond (passes test design a) 1 0
  count_last test arcs a = sum_by_push (λ x. cond (passes test design x) 1 0) arcs a

  pub count_first : (test : Kind → Bool) (port : ℕ) (arcs : List PathArc) → count_by (passes test design) (arc.Port port ∷ arcs) ≡ count_by (passes test design) arcs
  count_first test port arcs = sum_by-cons (λ x. cond (passes test design x) 1 0) (arc.Port port) arcs ∙ omega arith

  none_added : (b : Bool) (count sum : ℕ) → sum ≡ count + cond b 1 0 → sum ≡ 0 → (count ≡ 0) × (b ≡ false)
  none_added true count sum e z = absurd (omega arith)
  none_added false count sum e z = (omega arith, refl)

  pub none_before : (test : Kind → Bool) (arcs before : List PathArc) (a : PathArc) → arcs ≡ before ++ a ∷ [] → count_by (passes test design) arcs ≡ 0 → (count_by (passes test design) before ≡ 0) × (passes test design a ≡ false)
  none_before test arcs before a parts none =
      none_added (passes test design a) (count_by (passes test design) before) (count_by (passes test design) arcs) (ap (λ (xs : List PathArc). count_by (passes test design) xs) parts ∙ count_last test before a) none

  module _ (numbered : IsNumbered design.flat) (fits : (cell : ℕ) (row : CellRow) → IsOf design cell row → FitsKind row.kind row) where
    pin_zero : (cell pin out : ℕ) (row : CellRow) → IsOf design cell row → IsPassedFrom (is_gate row.kind) row pin → passes no_copy design (arc.Through cell pin out) ≡ false → pin ≡ 0
    pin_zero cell pin out row of passed alone =
        let shape = one_input row.kind row (fits cell row of) (sym (passes_at no_copy cell pin out row of) ∙ alone) in
        let first : pin < length row.inputs = subst (λ b. IsPassedFrom b row pin) shape.0 passed in
        let one = shape.1 in omega arith

    same_step : (a b : PathArc) (mid other last : ℕ) → ArcLeads design mid a last → ArcLeads design other b last → passes no_copy design a ≡ false → passes no_copy design b ≡ false → (a ≡ b) × (mid ≡ other)
    same_step (arc.Port port) b mid other last on on' alone alone' = absurd on
    same_step (arc.Through cell pin out) (arc.Port port) mid other last on on' alone alone' = absurd on'
    same_step (arc.Through cell pin out) (arc.Through cell' pin' out') mid other last (row, of, passed, reads, driven) (row', of', passed', reads', driven') alone alone' =
        let drivers : Some (driver.Out cell out) ≡ Some (driver.Out cell' out') = sym driven ∙ driven' in
        let cells : cell ≡ cell' = cc in
        let outs : out ≡ out' = cc in
        let zero_pin : pin ≡ 0 = pin_zero cell pin out row of passed alone in
        let zero_pin' : pin' ≡ 0 = pin_zero cell' pin' out' row' of' passed' alone' in
        let pins : pin ≡ pin' = zero_pin ∙ sym zero_pin' in
        let reads'' : Reads design.flat (reader.Pin cell pin) other = subst (λ (c : ℕ). Reads design.flat (reader.Pin c pin) other) (sym cells) (subst (λ (p : ℕ). Reads design.flat (reader.Pin cell' p) other) (sym pins) reads') in
        (cc, numbered.one_read (reader.Pin cell pin) mid other reads reads'')

    no_port_out : (net port cell out : ℕ) → IsDrivenBy design.flat net (driver.Port port) → IsDrivenBy design.flat net (driver.Out cell out) → ⊥
    no_port_out net port cell out one two = let e : Some (driver.Port port) ≡ Some (driver.Out cell out) = sym one ∙ two in cc

    pub not_both : (net port : ℕ) (a : PathArc) (mid : ℕ) → IsDrivenBy design.flat net (driver.Port port) → ArcLeads design mid a net → ⊥
    not_both net port (arc.Port p) mid one on = on
    not_both net port (arc.Through cell pin out) mid one (row, of, passed, reads, driven) = no_port_out net port cell out one driven

    shorter : (arcs before : List PathArc) (a : PathArc) (r : ℕ) → arcs ≡ before ++ a ∷ [] → length arcs < suc r → length before < r
    shorter arcs before a r parts l = let e : length arcs ≡ length (before ++ a ∷ []) = ap (λ (xs : List PathArc). length xs) parts in omega (arith, length-append before (a ∷ []))

    -- two routes to one net that join nothing are one
    pub route_one : (r first first' port port' : ℕ) (arcs brcs : List PathArc) (last : ℕ) → length arcs < r → IsDrivenBy design.flat first (driver.Port port) → IsDrivenBy design.flat first' (driver.Port port') → ArcsLead design first arcs last → ArcsLead design first' brcs last →
        joins_in arcs ≡ 0 → joins_in brcs ≡ 0 → (port ≡ port') × (arcs ≡ brcs)
    route_one zero first first' port port' arcs brcs last l driven driven' lead lead' alone alone' = absurd (omega arith)
    route_one (suc r) first first' port port' arcs brcs last l driven driven' lead lead' alone alone' = elim (lead_last design first arcs last lead) [
      | inl (none, same) ↦
          (let here : IsDrivenBy design.flat last (driver.Port port) = subst (λ (x : ℕ). IsDrivenBy design.flat x (driver.Port port)) same driven in
          elim (lead_last design first' brcs last lead') [
            | inl (none', same') ↦
                (let drivers : Some (driver.Port port) ≡ Some (driver.Port port') = sym here ∙ subst (λ (x : ℕ). IsDrivenBy design.flat x (driver.Port port')) same' driven' in
                (cc, none ∙ sym none'))
            | inr b ↦ absurd (not_both last port b.end b.mid here b.on)
          ])
      | inr a ↦
          elim (lead_last design first' brcs last lead') [
            | inl (none', same') ↦ absurd (not_both last port' a.end a.mid (subst (λ (x : ℕ). IsDrivenBy design.flat x (driver.Port port')) same' driven') a.on)
            | inr b ↦
                (let one = none_before no_copy arcs a.before a.end a.parts alone in
                let two = none_before no_copy brcs b.before b.end b.parts alone' in
                let step = same_step a.end b.end a.mid b.mid last a.on b.on one.1 two.1 in
                let rest = route_one r first first' port port' a.before b.before a.mid (shorter arcs a.before a.end r a.parts l) driven driven' a.lead
                (subst (λ (x : ℕ). ArcsLead design first' b.before x) (sym step.1) b.lead) one.0 two.0 in
                let ends : a.end ≡ b.end = step.0 in
                let befores : a.before ≡ b.before = rest.1 in
                (rest.0, a.parts ∙ ap (λ (xs : List PathArc). xs ++ a.end ∷ []) befores ∙ ap (λ (x : PathArc). b.before ++ x ∷ []) ends ∙ sym b.parts))
          ]
    ]

module _ (design : Design) where
  -- a path to a net, with delays
  pub record Lane (net : ℕ) : Type 0 where
    pub port : ℕ
    pub used : PortUse
    pub is_used : IsUsed design.bench port used
    pub first : ℕ
    pub driven : IsDrivenBy design.flat first (driver.Port port)
    pub delay : ℤ
    pub port_delay : IsPortDelay design.bench used delay
    pub arcs : List PathArc
    pub delays : List ℤ
    pub lead : ArcsLead design first arcs net
    pub arc_delays : AreDelays design arcs delays
    pub one_gate : gates_in design arcs ≤ 1
    pub clocked : 0 < gates_in design arcs → port ≡ design.bench.clock

  pub lane_path : (net : ℕ) (lane : Lane net) → IsPath design (arc.Port lane.port ∷ lane.arcs) net
  lane_path net lane =
      let count = count_first design is_gate lane.port lane.arcs in
      record {
        route = (lane.first, lane.driven, lane.lead);
        one_gate = rw count lane.one_gate;
        clocked = λ l. ap (λ (p : ℕ). arc.Port p) (lane.clocked (rw (← count) l));
      }

  pub lane_delays : (net : ℕ) (lane : Lane net) → AreDelays design (arc.Port lane.port ∷ lane.arcs) (lane.delay ∷ lane.delays)
  lane_delays net lane = ((lane.used, lane.is_used, lane.port_delay), lane.arc_delays)

  -- a lane goes on through a cell
  pub lane_on : (net : ℕ) (lane : Lane net) (cell pin out next : ℕ) (row : CellRow) → IsOf design cell row → ArcLeads design net (arc.Through cell pin out) next → (d : ℤ) → IsWithin row.low row.high d →
      (gate : Bool) → is_gate row.kind ≡ gate → (gate ≡ true → (gates_in design lane.arcs ≡ 0) × (lane.port ≡ design.bench.clock)) → (longer : Lane next) × (longer.arcs ≡ lane.arcs ++ arc.Through cell pin out ∷ []) × (longer.port ≡ lane.port)
  lane_on net lane cell pin out next row of on d within gate is clean =
      let count : gates_in design (lane.arcs ++ arc.Through cell pin out ∷ []) ≡ gates_in design lane.arcs + cond gate 1 0 =
      count_last design is_gate lane.arcs (arc.Through cell pin out) ∙ ap (λ (b : Bool). gates_in design lane.arcs + cond b 1 0) (passes_at design is_gate cell pin out row of ∙ is) in (
        record {
          port = lane.port;
          used = lane.used;
          is_used = lane.is_used;
          first = lane.first;
          driven = lane.driven;
          delay = lane.delay;
          port_delay = lane.port_delay;
          arcs = lane.arcs ++ arc.Through cell pin out ∷ [];
          delays = lane.delays ++ d ∷ [];
          lead = lead_more design lane.first lane.arcs net (arc.Through cell pin out) next lane.lead on;
          arc_delays = zip_push (IsDelay design) lane.arcs lane.delays (arc.Through cell pin out) d lane.arc_delays (row, of, within);
          one_gate = one_more gate (gates_in design lane.arcs) _ count lane.one_gate (λ e. (clean e).0);
          clocked = clocked_more gate (gates_in design lane.arcs) _ (lane.port ≡ design.bench.clock) count lane.clocked (λ e. (clean e).1);
        },
        refl,
        refl,
      )

  port_of : ((port : ℕ) → IsUsed design.bench port port_use.Clock → port ≡ design.bench.clock) → (used : PortUse) (port : ℕ) (delay : ℤ) (arcs : List PathArc) → IsUsed design.bench port used → IsPortDelay design.bench used delay → (IsFromData design.bench (arc.Port port ∷ arcs) → ⊥) → port ≡ design.bench.clock
  port_of one_clock port_use.Clock port delay arcs is fits none = one_clock port is
  port_of one_clock (port_use.Arrival low high) port delay arcs is fits none = absurd (none (port, port_use.Arrival low high, is, refl, refl))
  port_of one_clock (port_use.Strobed strobe) port delay arcs is fits none = absurd fits

  zero_of : (j : ℕ) → (0 < j → ⊥) → j ≡ 0
  zero_of zero none = refl
  zero_of (suc j) none = absurd (none (omega arith))

  -- where no data comes to clock pins, a lane to a clock pin comes from the clock and joins nothing
  pub on_clock_pin : ((port : ℕ) → IsUsed design.bench port port_use.Clock → port ≡ design.bench.clock) → ((pin : ℕ) (path : List PathArc) → ¬ OffenceExists design (offence.DataOnClock pin path)) → (cell : ℕ) (row : CellRow) (net : ℕ) → IsOf design cell row →
      is_gate row.kind ≡ true → Reads design.flat (reader.Pin cell (clock_pin row)) net → (lane : Lane net) → (joins_in design lane.arcs ≡ 0) × (gates_in design lane.arcs ≡ 0) × (lane.port ≡ design.bench.clock)
  on_clock_pin one_clock none cell row net of gate reads lane =
      let path : List PathArc = arc.Port lane.port ∷ lane.arcs in
      let foreign : IsFromData design.bench path ⊎ (0 < joins_in design path) → ⊥ = λ f. none reads.0 path (cell, clock_pin row, net, reads.1, record { clock_pin = (row, of, gate, refl); route = (lane.first, lane.driven, lane.lead); foreign = f }) in
      let first = count_first design no_copy lane.port lane.arcs in
      let joins : joins_in design lane.arcs ≡ 0 = zero_of (joins_in design lane.arcs) (λ h. foreign (inr (rw first h))) in
      let fewer = gates_join design lane.arcs in
      (joins, omega arith, port_of one_clock lane.used lane.port lane.delay lane.arcs lane.is_used lane.port_delay (λ f. foreign (inl f)))

  -- a lane from the clock that joins nothing is a clock route
  pub is_clock_route : (net : ℕ) (lane : Lane net) → joins_in design lane.arcs ≡ 0 → lane.port ≡ design.bench.clock → IsClockRoute design (arc.Port lane.port ∷ lane.arcs) net
  is_clock_route net lane joins port = record {
    route = (lane.first, lane.driven, lane.lead);
    clock = ap (λ (p : ℕ). arc.Port p) port;
    alone = count_first design no_copy lane.port lane.arcs ∙ joins;
  }

  -- two clock routes to a net are one
  pub clock_route_one : IsNumbered design.flat → ((cell : ℕ) (row : CellRow) → IsOf design cell row → FitsKind row.kind row) → (arcs brcs : List PathArc) (net : ℕ) → IsClockRoute design arcs net → IsClockRoute design brcs net → arcs ≡ brcs
  clock_route_one numbered fits [] brcs net one two = absurd one.route
  clock_route_one numbered fits (arc.Through cell pin out ∷ arcs) brcs net one two = absurd one.route
  clock_route_one numbered fits (arc.Port port ∷ arcs) [] net one two = absurd two.route
  clock_route_one numbered fits (arc.Port port ∷ arcs) (arc.Through cell pin out ∷ brcs) net one two = absurd two.route
  clock_route_one numbered fits (arc.Port port ∷ arcs) (arc.Port port' ∷ brcs) net one two =
      let joins : (p : ℕ) (xs : List PathArc) → count_by (passes no_copy design) (arc.Port p ∷ xs) ≡ 0 → joins_in design xs ≡ 0 =
      λ p xs e. sym (count_first design no_copy p xs) ∙ e in
      let same = route_one design numbered fits (suc (length arcs)) one.route.0 two.route.0 port port' arcs brcs net (omega arith) one.route.1 two.route.1 one.route.2 two.route.2 (joins port arcs one.alone) (joins port' brcs two.alone) in
      let ports : port ≡ port' = same.0 in
      let rest : arcs ≡ brcs = same.1 in cc

-- the lane of a pulse
abbrev pub lane_of : (design : Design) (run : Run) (net k : ℕ) → Came design run net k → Lane design net
lane_of design run net k came = record {
  port = came.port;
  used = came.used;
  is_used = came.is_used;
  first = came.first;
  driven = came.driven;
  delay = came.delay;
  port_delay = came.port_delay;
  arcs = came.arcs;
  delays = came.delays;
  lead = flows_lead design run.pulses came.first came.place came.arcs came.delays net k came.flows;
  arc_delays = came.arc_delays;
  one_gate = came.one_gate;
  clocked = came.clocked;
}
