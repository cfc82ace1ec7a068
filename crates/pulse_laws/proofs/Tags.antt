-- The pulses of a run have tags: picks that are all different on each net and agree.
use Rattle.std.proofs.Common.{true, ◌≡◌, ℕ, zero, suc, ◌<◌, ◌≤◌, false, cond, ◌⊎◌, ℤ, pos, ◌+ℤ◌, List, [], ◌∷◌, length, get_or, refl, sym, ap, ◌∙◌, subst, arith, inl, inr}
use Rattle.std.proofs.lemmas.Bool.{cases_order, cases_eq}
use Rattle.std.proofs.lemmas.Int.{ints}
use Rattle.std.proofs.lemmas.List.{get_or_default}
use Rattle.std.proofs.lemmas.Option.{slice_get_within, slice_get_cases}
use Rattle.std.proofs.Math.ListN.{get_or-eq_default}
use Rattle.pulse_laws.proofs.Build.{build, zip_from_places}
use Rattle.rsfq_ids.specs.declared.circuit.Pin.{Pin}
use Rattle.std.proofs.lemmas.List.Sums.{sum_by-cons}
use Rattle.std.specs.Prelude.{slice_get, Option, Some, None}
use Rattle.std.specs.Option.{option_map_or}
use Rattle.std.specs.List.{AllZip, count_by, range_with_len}
use Rattle.rsfq_ids.specs.declared.table.CellRow.{CellRow}
use Rattle.rsfq_ids.specs.declared.table.Kind.{Kind}
use Rattle.rsfq_ids.specs.declared.table.Kind.TheVariants as kind
use Rattle.rsfq_ids.specs.declared.circuit.Bench.{Bench}
use Rattle.rsfq_ids.specs.declared.circuit.PortUse.{PortUse}
use Rattle.rsfq_ids.specs.declared.circuit.PortUse.TheVariants as port_use
use Rattle.rsfq_ids.specs.declared.circuit.Driver.TheVariants as driver
use Rattle.rsfq_ids.specs.declared.circuit.Reader.{Reader}
use Rattle.rsfq_ids.specs.declared.circuit.Reader.TheVariants as reader
use Rattle.rsfq_ids.specs.declared.offence.PathArc.{PathArc}
use Rattle.rsfq_ids.specs.declared.offence.PathArc.TheVariants as arc
use Rattle.rsfq_ids.specs.declared.offence.PathPick.{PathPick}
use Rattle.rsfq_ids.specs.declared.offence.Offence.TheVariants as offence
use Rattle.rsfq_ids.specs.Circuit.{IsPin, IsDrivenBy, Reads, IsOf, row_of, is_gate, clock_pin}
use Rattle.rsfq_ids.specs.Bench.{IsUsed, bit_of}
use Rattle.rsfq_ids.specs.Run.{Run, numbers_of, times_of, IsRun}
use Rattle.rsfq_ids.specs.Path.{IsRoute, SameDelays, passes, IsPick, IsFromData}
use Rattle.rsfq_ids.specs.Offence.{Differ, OffenceExists}
use Rattle.pulse_laws.specs.Tags.{AreTags}
use Rattle.rsfq_ids.specs.WellFormed.{FitsKind}
use Rattle.pulse_laws.proofs.Straight.{flows_straight, no_copy}
use Rattle.std.proofs.lemmas.List.FromFn.{length-range_with_len, get_or-range_with_len}
use Rattle.rsfq_ids.specs.Time.{total}
use Rattle.rsfq_ids.specs.Numbering.{IsNumbered, IsRanked}
use Rattle.pulse_laws.proofs.Flows.{flows_one, flows_agree, flows_lead, flows_time, same_delay}
use Rattle.pulse_laws.proofs.Sources.{Rise, rise_filter, rise_range}
use Rattle.pulse_laws.proofs.Came.{gates, OnClock, came, level}
use Rattle.rsfq_ids.specs.Design.{Design}
use Rattle.pulse_laws.specs.Flows.{time_at, Flows, Came, number_of, pick_of, TellOrigins}

-- on a gate's clock pin pulse k has the number k
abbrev pub AreNumbered : Design → Run → List (List PathPick) → Type 0
AreNumbered design run tags = (cell : ℕ) (row : CellRow) (net pin : ℕ) → IsOf design cell row → is_gate row.kind ≡ true → IsPin design.flat pin (reader.Pin cell (clock_pin row)) net →
    (k : ℕ) (d : PathPick) → k < length (times_of run.pulses net) → (get_or (get_or tags pin []) k d).number ≡ k

gate_joins : (k : Kind) → cond (is_gate k) 1 0 ≤ cond (no_copy k) 1 0
gate_joins kind.Jtl = omega arith
gate_joins kind.Split = omega arith
gate_joins kind.Merge = omega arith
gate_joins kind.Gate = omega arith

row_joins : (o : Option CellRow) → cond (option_map_or (λ (row : CellRow). is_gate row.kind) o false) 1 0 ≤ cond (option_map_or (λ (row : CellRow). no_copy row.kind) o false) 1 0
row_joins None = omega arith
row_joins (Some row) = gate_joins row.kind

arc_joins : (design : Design) (a : PathArc) → cond (passes is_gate design a) 1 0 ≤ cond (passes no_copy design a) 1 0
arc_joins design (arc.Port port) = omega arith
arc_joins design (arc.Through cell pin out) = row_joins (row_of design cell)

pub gates_join : (design : Design) (arcs : List PathArc) → count_by (passes is_gate design) arcs ≤ count_by (passes no_copy design) arcs
gates_join design [] = omega arith
gates_join design (a ∷ arcs) =
    let head = arc_joins design a in
    let tail = gates_join design arcs in
    rw (sum_by-cons (λ x. cond (passes is_gate design x) 1 0) a arcs, sum_by-cons (λ x. cond (passes no_copy design x) 1 0) a arcs) (omega arith)

pub numbers_rise : (used : PortUse) (bench : Bench) (port : ℕ) (run : Run) → Rise 0 (numbers_of used bench port run)
numbers_rise port_use.Clock bench port run = rise_range 0 run.clocks
numbers_rise (port_use.Arrival low high) bench port run = rise_filter (λ j. bit_of bench port (get_or run.words j [])) 0 (length run.words)
numbers_rise (port_use.Strobed strobe) bench port run = rise_range 0 0

one_place : (xs : List ℕ) → Rise 0 xs → (i j : ℕ) → i < length xs → j < length xs → get_or xs i 0 ≡ get_or xs j 0 → i ≡ j
one_place xs rise i j l k same = elim (cases_order i j) [
  | inl e ↦ e
  | inr (inl below) ↦ (let h = rise.above i j below k in absurd (omega arith))
  | inr (inr above) ↦ (let h = rise.above j i above l in absurd (omega arith))
]

module _ (design : Design) (run : Run) where
  port_is_clock : ((port : ℕ) → IsUsed design.bench port port_use.Clock → port ≡ design.bench.clock) → (used : PortUse) (port place : ℕ) (arcs : List PathArc) → IsUsed design.bench port used → (IsFromData design.bench (arc.Port port ∷ arcs) → ⊥) →
      place < length (numbers_of used design.bench port run) → port ≡ design.bench.clock
  port_is_clock one_clock port_use.Clock port place arcs is none l = one_clock port is
  port_is_clock one_clock (port_use.Arrival low high) port place arcs is none l = absurd (none (port, port_use.Arrival low high, is, refl, refl))
  port_is_clock one_clock (port_use.Strobed strobe) port place arcs is none l = absurd (omega arith)

  -- where no data comes to a clock pin, pulses there came from the clock port through no gate
  pub on_clock : ((port : ℕ) → IsUsed design.bench port port_use.Clock → port ≡ design.bench.clock) → ((pin : ℕ) (path : List PathArc) → ¬ OffenceExists design (offence.DataOnClock pin path)) → OnClock design run
  on_clock one_clock none cell row net k of gate reads came =
      let path : List PathArc = arc.Port came.port ∷ came.arcs in
      let route : IsRoute design path net = (came.first, came.driven, flows_lead design run.pulses came.first came.place came.arcs came.delays net k came.flows) in
      let foreign : IsFromData design.bench path ⊎ (0 < count_by (passes no_copy design) path) → ⊥ =
      λ f. none reads.0 path (cell, clock_pin row, net, reads.1, record { clock_pin = (row, of, gate, refl); route = route; foreign = f }) in
      let joins = gates_join design came.arcs in (
        none_of (gates design run came.arcs) _ joins (λ h. foreign (inr (rw (sum_by-cons (λ x. cond (passes no_copy design x) 1 0) (arc.Port came.port) came.arcs) (omega arith)))),
        port_is_clock one_clock came.used came.port came.place came.arcs came.is_used (λ h. foreign (inl h)) came.launched,
      )
    where
      none_of : (g j : ℕ) → g ≤ j → (0 < j → ⊥) → g ≡ 0
      none_of zero j l none = refl
      none_of (suc g) j l none = absurd (none (omega arith))

  -- pulses at a gate's clock pin passed nothing that joins
  pub clock_joins : ((pin : ℕ) (path : List PathArc) → ¬ OffenceExists design (offence.DataOnClock pin path)) → (cell : ℕ) (row : CellRow) (net k : ℕ) → IsOf design cell row → is_gate row.kind ≡ true →
      Reads design.flat (reader.Pin cell (clock_pin row)) net → (came : Came design run net k) → count_by (passes no_copy design) came.arcs ≡ 0
  clock_joins none cell row net k of gate reads came =
      let path : List PathArc = arc.Port came.port ∷ came.arcs in
      let route : IsRoute design path net = (came.first, came.driven, flows_lead design run.pulses came.first came.place came.arcs came.delays net k came.flows) in
      none_at (count_by (passes no_copy design) came.arcs) (λ h. none reads.0 path (
        cell,
        clock_pin row,
        net,
        reads.1,
        record {
          clock_pin = (row, of, gate, refl);
          route = route;
          foreign = inr (rw (sum_by-cons (λ x. cond (passes no_copy design x) 1 0) (arc.Port came.port) came.arcs) (omega arith));
        },
      ))
    where
      none_at : (j : ℕ) → (0 < j → ⊥) → j ≡ 0
      none_at zero none = refl
      none_at (suc j) none = absurd (none (omega arith))

  -- a pulse of the clock that passed nothing that joins has the number of its place
  pub number_is_place : ((cell : ℕ) (row : CellRow) → IsOf design cell row → FitsKind row.kind row) → IsUsed design.bench design.bench.clock port_use.Clock → (net k : ℕ) (came : Came design run net k) → came.port ≡ design.bench.clock →
      count_by (passes no_copy design) came.arcs ≡ 0 → number_of design run net k came ≡ k
  number_is_place fits clock_used net k came port alone =
      let some : Some came.used ≡ Some port_use.Clock = sym (subst (λ (p : ℕ). IsUsed design.bench p came.used) port came.is_used) ∙ clock_used in
      let used : came.used ≡ port_use.Clock = cc in
      let numbers : numbers_of came.used design.bench came.port run ≡ range_with_len 0 run.clocks = ap (λ (u : PortUse). numbers_of u design.bench came.port run) used in
      let below : came.place < length (range_with_len 0 run.clocks) = subst (λ (xs : List ℕ). came.place < length xs) numbers came.launched in
      let here : came.place ≡ k = flows_straight design run.pulses fits came.first came.place came.arcs came.delays net k came.flows alone in
      ap (λ (xs : List ℕ). get_or xs came.place 0) numbers ∙ get_or-range_with_len 0 run.clocks came.place 0 (omega (arith, length-range_with_len 0 run.clocks)) ∙ omega arith

  -- pulses of one number from one port start as one
  pub same_start : IsNumbered design.flat → (net k other i : ℕ) (a : Came design run net k) (b : Came design run other i) → a.port ≡ b.port → number_of design run net k a ≡ number_of design run other i b →
      (a.first ≡ b.first) × (a.place ≡ b.place) × (a.delay ≡ b.delay)
  same_start numbered net k other i a b ports numbers =
      let first : a.first ≡ b.first = numbered.one_net (driver.Port b.port) a.first b.first (subst (λ p. IsDrivenBy design.flat a.first (driver.Port p)) ports a.driven) b.driven in
      let some : Some a.used ≡ Some b.used = sym (subst (λ p. IsUsed design.bench p a.used) ports a.is_used) ∙ b.is_used in
      let used : a.used ≡ b.used = cc in
      let lists : numbers_of a.used design.bench a.port run ≡ numbers_of b.used design.bench b.port run = cc in
      let launched : a.place < length (numbers_of b.used design.bench b.port run) = subst (λ (xs : List ℕ). a.place < length xs) lists a.launched in
      let same : get_or (numbers_of b.used design.bench b.port run) a.place 0 ≡ get_or (numbers_of b.used design.bench b.port run) b.place 0 = sym (ap (λ (xs : List ℕ). get_or xs a.place 0) lists) ∙ numbers in
      let place : a.place ≡ b.place = one_place (numbers_of b.used design.bench b.port run) (numbers_rise b.used design.bench b.port run) a.place b.place launched b.launched same in
      let start : time_at run.pulses a.first a.place ≡ (run.tick (number_of design run net k a) +ℤ b.delay) =
      ap (λ (x : ℕ). time_at run.pulses x a.place) first ∙ ap (λ (x : ℕ). time_at run.pulses b.first x) place ∙ b.start ∙ ap (λ (x : ℕ). run.tick x +ℤ b.delay) (sym numbers) in
      (first, place, same_delay _ _ a.delay b.delay a.start start)

  -- pulses of one number share what they share of their paths
  pub came_agree : IsNumbered design.flat → (net k other i : ℕ) (a : Came design run net k) (b : Came design run other i) → number_of design run net k a ≡ number_of design run other i b →
      SameDelays (arc.Port a.port ∷ a.arcs) (a.delay ∷ a.delays) (arc.Port b.port ∷ b.arcs) (b.delay ∷ b.delays)
  came_agree numbered net k other i a b numbers = λ heads.
      let ports : a.port ≡ b.port = cc in
      let start = same_start numbered net k other i a b ports numbers in
      let flow : Flows design run.pulses a.first a.place b.arcs b.delays other i =
      subst (λ (x : ℕ). Flows design run.pulses x a.place b.arcs b.delays other i) (sym start.0) (subst (λ (x : ℕ). Flows design run.pulses b.first x b.arcs b.delays other i) (sym start.1) b.flows) in
      (start.2, flows_agree design run.pulses numbered a.first a.place a.arcs a.delays b.arcs b.delays net k other i a.flows flow)

  -- pulses of one net, one path and one number are one
  pub came_one : IsNumbered design.flat → (net k i : ℕ) (a : Came design run net k) (b : Came design run net i) → arc.Port a.port ∷ a.arcs ≡ arc.Port b.port ∷ b.arcs → number_of design run net k a ≡ number_of design run net i b → k ≡ i
  came_one numbered net k i a b paths numbers =
      let ports : a.port ≡ b.port = cc in
      let arcs : a.arcs ≡ b.arcs = cc in
      let start = same_start numbered net k net i a b ports numbers in
      let flow : Flows design run.pulses a.first a.place a.arcs b.delays net i =
      subst (λ (x : ℕ). Flows design run.pulses x a.place a.arcs b.delays net i) (sym start.0) (subst (λ (x : ℕ). Flows design run.pulses b.first x a.arcs b.delays net i) (sym start.1)
      (subst (λ (x : List PathArc). Flows design run.pulses b.first b.place x b.delays net i) (sym arcs) b.flows)) in
      (flows_one design run.pulses numbered a.first a.place a.arcs a.delays b.delays net k net i a.flows flow).1

  pub is_pick : (pin : ℕ) (end : Pin) → slice_get design.flat.pins pin ≡ Some end → (k : ℕ) (came : Came design run end.net k) → IsPick design (pick_of design run end.net k pin came)
  is_pick pin end is k came =
      let count : count_by (passes is_gate design) (arc.Port came.port ∷ came.arcs) ≡ gates design run came.arcs =
      sum_by-cons (λ x. cond (passes is_gate design x) 1 0) (arc.Port came.port) came.arcs ∙ omega arith in
      record {
        path = (
          end,
          is,
          record {
            route = (came.first, came.driven, flows_lead design run.pulses came.first came.place came.arcs came.delays end.net k came.flows);
            one_gate = rw count came.one_gate;
            clocked = λ l. ap (λ (p : ℕ). arc.Port p) (came.clocked (rw (← count) l));
          },
        );
        delays = ((came.used, came.is_used, came.port_delay), came.arc_delays);
      }

  sum_up : (start first last delay rest : ℤ) → first ≡ (start +ℤ delay) → last ≡ (first +ℤ rest) → last ≡ (start +ℤ (delay +ℤ rest))
  sum_up start first last delay rest one two = omega (arith, ints)

  pub at_time : (net k pin : ℕ) (came : Came design run net k) → time_at run.pulses net k ≡ (run.tick (number_of design run net k came) +ℤ total (came.delay ∷ came.delays))
  at_time net k pin came = sum_up _ (time_at run.pulses came.first came.place) (time_at run.pulses net k) came.delay (total came.delays) came.start (flows_time design run.pulses came.first came.place came.arcs came.delays net k came.flows)

  -- what a list of tags at a pin is
  abbrev IsTagList : ℕ → List PathPick → Type 0
  IsTagList pin tags = (end : Pin) → slice_get design.flat.pins pin ≡ Some end → (length tags ≡ length (times_of run.pulses end.net))
      × ((k : ℕ) (d : PathPick) → k < length (times_of run.pulses end.net) → (came : Came design run end.net k) × (get_or tags k d ≡ pick_of design run end.net k pin came))

  differ : IsNumbered design.flat → (net k i pin : ℕ) (a : Came design run net k) (b : Came design run net i) → k < i → Differ (pick_of design run net k pin a) (pick_of design run net i pin b)
  differ numbered net k i pin a b l = elim (cases_eq (number_of design run net k a) (number_of design run net i b)) [
    | inl same ↦ inl (λ paths. let e = came_one numbered net k i a b paths same in absurd (omega arith))
    | inr other ↦ inr other
  ]

  module _ (numbered : IsNumbered design.flat) (tags : List (List PathPick)) (each : (pin : ℕ) (d : List PathPick) → pin < length design.flat.pins → IsTagList pin (get_or tags pin d)) (count : length tags ≡ length design.flat.pins) where
    timed : (pin : ℕ) (end : Pin) → slice_get design.flat.pins pin ≡ Some end →
        AllZip (λ tag time. IsPick design tag × (tag.ends ≡ pin) × (time ≡ (run.tick tag.number +ℤ total tag.delays))) (get_or tags pin []) (times_of run.pulses end.net)
    timed pin end is =
        let list = each pin [] (slice_get_within design.flat.pins pin end is) end is in
        zip_from_places (λ (tag : PathPick) (time : ℤ). IsPick design tag × (tag.ends ≡ pin) × (time ≡ (run.tick tag.number +ℤ total tag.delays))) (get_or tags pin []) (times_of run.pulses end.net) list.0
        (λ k d e l.
        let below : k < length (times_of run.pulses end.net) = omega (arith, list.0) in
        let tag = list.1 k d below in
        subst (λ (x : PathPick). IsPick design x × (x.ends ≡ pin) × (get_or (times_of run.pulses end.net) k e ≡ (run.tick x.number +ℤ total x.delays))) (sym tag.1)
        (is_pick pin end is k tag.0, refl, get_or_default (times_of run.pulses end.net) k e (pos 0) below ∙ at_time end.net k pin tag.0))

    -- each tag is that of a pulse at the pin
    whose : (pin k : ℕ) (d : PathPick) → k < length (get_or tags pin []) → (net : ℕ) × (came : Came design run net k) × (get_or (get_or tags pin []) k d ≡ pick_of design run net k pin came)
        × ((i : ℕ) (e : PathPick) → i < length (get_or tags pin []) → (other : Came design run net i) × (get_or (get_or tags pin []) i e ≡ pick_of design run net i pin other))
    whose pin k d l = elim (slice_get_cases design.flat.pins pin).1 [
      | inl (end, within, is, at) ↦
          (let list = each pin [] within end is in
          let here = list.1 k d (omega (arith, list.0)) in
          (end.net, here.0, here.1, λ i e below. list.1 i e (omega (arith, list.0))))
      | inr (past, none) ↦ (let empty : get_or tags pin [] ≡ [] = get_or-eq_default tags [] (omega arith) in absurd (nothing (get_or tags pin []) k empty l))
    ]
      where
        nothing : (xs : List PathPick) (k : ℕ) → xs ≡ [] → k < length xs → ⊥
        nothing [] k e l = omega arith
        nothing (x ∷ xs) k e l = cc

    pub in_order : ((cell : ℕ) (row : CellRow) (net k : ℕ) → IsOf design cell row → is_gate row.kind ≡ true → Reads design.flat (reader.Pin cell (clock_pin row)) net → (came : Came design run net k) → number_of design run net k came ≡ k) →
        AreNumbered design run tags
    in_order placed cell row net pin of gate is k d l =
        let list = each pin [] (slice_get_within design.flat.pins pin _ is) (record { reader = reader.Pin cell (clock_pin row); net = net }) is in
        let tag = list.1 k d l in
        ap (λ (x : PathPick). x.number) tag.1 ∙ placed cell row net k of gate (pin, is) tag.0

    pub are_tags : AreTags design run tags
    are_tags = record {
      timed = timed;
      distinct = λ pin i j d below l.
          (let one = whose pin i d (omega arith) in
          let two = one.3 j d l in
          rw (one.2, two.1) (differ numbered one.0 i j pin one.1 two.0 below));
      agree = λ pin other i d l j e k.
          (let one = whose pin i d l in
          let two = whose other j e k in
          rw (one.2, two.2) (came_agree numbered one.0 i two.0 j one.1 two.1));
    }

module _ (design : Design) (run : Run) (numbered : IsNumbered design.flat) (rank : ℕ → ℕ) (ranked : IsRanked design.flat rank)
    (one_clock : (port : ℕ) → IsUsed design.bench port port_use.Clock → port ≡ design.bench.clock) (no_data : (pin : ℕ) (path : List PathArc) → ¬ OffenceExists design (offence.DataOnClock pin path))
    (fits : (cell : ℕ) (row : CellRow) → IsOf design cell row → FitsKind row.kind row) (clock_used : IsUsed design.bench design.bench.clock port_use.Clock) (is_run : IsRun design run) where
  came_at : (from : Reader) (net : ℕ) → Reads design.flat from net → (k : ℕ) → k < length (times_of run.pulses net) → Came design run net k
  came_at from net reads k l =
      let d = numbered.has_driver from net reads in
      came design run is_run rank ranked (λ m cell pin r. numbered.has_driver (reader.Pin cell pin) m r) (on_clock design run one_clock no_data)
      (suc (level design run rank d.0)) net d.0 d.1 (omega arith) k l

  list_at : (pin : ℕ) (end : Pin) → slice_get design.flat.pins pin ≡ Some end → (tags : List PathPick) × (length tags ≡ length (times_of run.pulses end.net))
      × ((k : ℕ) (d : PathPick) → k < length (times_of run.pulses end.net) → (c : Came design run end.net k) × (get_or tags k d ≡ pick_of design run end.net k pin c))
  list_at pin end is =
      build (λ k tag. (c : Came design run end.net k) × (tag ≡ pick_of design run end.net k pin c)) (length (times_of run.pulses end.net))
      (λ k l. let c = came_at end.reader end.net (pin, is) k l in (pick_of design run end.net k pin c, (c, refl)))

  tags_at : (pin : ℕ) → pin < length design.flat.pins → (tags : List PathPick) × IsTagList design run pin tags
  tags_at pin l = elim (slice_get_cases design.flat.pins pin).1 [
    | inl (end, within, is, at) ↦
        (let list = list_at pin end is in (
          list.0,
          λ other same. let e : Some end ≡ Some other = sym is ∙ same in let same_pin : end ≡ other = cc in
              subst (λ (x : Pin). (length list.0 ≡ length (times_of run.pulses x.net)) × ((k : ℕ) (d : PathPick) → k < length (times_of run.pulses x.net) → (c : Came design run x.net k) × (get_or list.0 k d ≡ pick_of design run x.net k pin c)))
              same_pin (list.1, list.2),
        ))
    | inr (past, none) ↦ absurd (omega arith)
  ]

  pub tags : (tags : List (List PathPick)) × AreTags design run tags × AreNumbered design run tags × TellOrigins design run tags
  tags =
      let all = build (IsTagList design run) (length design.flat.pins) tags_at in (
        all.0,
        are_tags design run numbered all.0 all.2 all.1,
        in_order design run numbered all.0 all.2 all.1 (λ cell row net k of gate reads c.
            number_is_place design run fits clock_used net k c (on_clock design run one_clock no_data cell row net k of gate reads c).1
            (clock_joins design run no_data cell row net k of gate reads c)),
        λ pin end k d is l. (all.2 pin [] (slice_get_within design.flat.pins pin end is) end is).1 k d l,
      )
