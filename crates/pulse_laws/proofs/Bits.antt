-- Clock pulses rise, and a data pin is present at the clock entry to which some pulse is led by its steps.
use Rattle.std.proofs.Common.{◌≡◌, ℕ, suc, ◌+◌, ◌<◌, true, not, ◌&&◌, ◌↔◌, ℤ, pos, ◌+ℤ◌, ◌-ℤ◌, ◌*ℤ◌, ◌≤ℤ◌, ◌<ℤ◌, List, ◌∷◌, length, refl, sym, ap, ◌∙◌, subst, arith, inr}
use Rattle.std.proofs.lemmas.Int.{ints, by_lt_z}
use Rattle.std.proofs.lemmas.Bool.{eq-eqb, eqb-true}
use Rattle.std.proofs.lemmas.List.{get_or_default}
use Rattle.std.proofs.lemmas.List.Folds.{list_any_at, Any-from_list_any}
use Rattle.std.specs.Prelude.{int_le, int_lt, Some}
use Rattle.std.specs.List.{list_any}
use Rattle.rsfq_ids.specs.declared.table.CellRow.{CellRow}
use Rattle.rsfq_ids.specs.declared.circuit.Pin.{Pin}
use Rattle.rsfq_ids.specs.declared.circuit.Driver.{Driver}
use Rattle.rsfq_ids.specs.declared.circuit.Reader.{Reader}
use Rattle.rsfq_ids.specs.declared.circuit.Reader.TheVariants as reader
use Rattle.rsfq_ids.specs.declared.offence.PathArc.{PathArc}
use Rattle.rsfq_ids.specs.declared.offence.PathArc.TheVariants as arc
use Rattle.rsfq_ids.specs.declared.offence.PathPick.{PathPick}
use Rattle.rsfq_ids.specs.Time.{IsNear, total}
use Rattle.rsfq_ids.specs.Circuit.{IsDrivenBy, IsPin, Reads, IsOf, is_gate, clock_pin}
use Rattle.rsfq_ids.specs.Run.{Run, IsRun, times_of, is_present}
use Rattle.rsfq_ids.specs.Path.{SameDelays, IsPath, IsClockRoute, HasSteps, HasStepsAt}
use Rattle.rsfq_ids.specs.Offence.{IsDeadPin, OffenceExists}
use Rattle.rsfq_ids.specs.WellFormed.{FitsKind}
use Rattle.rsfq_ids.specs.declared.offence.Offence.TheVariants as offence
use Rattle.pulse_laws.proofs.Flows.{one_row}
use Rattle.pulse_laws.proofs.Came.{came, level}
use Rattle.pulse_laws.proofs.Tags.{on_clock, number_is_place, came_agree, is_pick, at_time}
use Rattle.pulse_laws.proofs.Presence.{AreRising, IsBehind, present_one}
use Rattle.pulse_laws.proofs.Fill.{AreDelays, meet_apart}
use Rattle.pulse_laws.proofs.Ceil.{times_mono}
use Rattle.pulse_laws.proofs.Lanes.{lane_of, lane_path, lane_delays, on_clock_pin, is_clock_route, clock_route_one}
use Rattle.rsfq_ids.specs.Design.{Design}
use Rattle.rsfq_ids.specs.Ready.{IsReady}
use Rattle.pulse_laws.specs.Flows.{time_at, Came, number_of, pick_of}

near_same : (dead a b : ℤ) → pos 1 ≤ℤ dead → a ≡ b → IsNear dead a b
near_same dead a b l e = record { before = omega (arith, ints); after = omega (arith, ints) }

module _ (design : Design) (run : Run) (rank : ℕ → ℕ) (ready : IsReady design rank) (is_run : IsRun design run) where
  abbrev pub Pulse : ℕ → ℕ → Type 0
  Pulse net k = Came design run net k

  abbrev pub number : (net k : ℕ) → Pulse net k → ℕ
  number net k a = number_of design run net k a

  abbrev pub path_arcs : (net k : ℕ) → Pulse net k → List PathArc
  path_arcs net k a = arc.Port a.port ∷ a.arcs

  pub fits : (cell : ℕ) (row : CellRow) → IsOf design cell row → FitsKind row.kind row
  fits cell row of = (ready.rows cell row of).kind

  pub pulse_of : (net : ℕ) (d : Driver) → IsDrivenBy design.flat net d → (k : ℕ) → k < length (times_of run.pulses net) → Pulse net k
  pulse_of net d is k l =
      came design run is_run rank ready.ranked (λ m cell pin r. ready.numbered.has_driver (reader.Pin cell pin) m r) (on_clock design run ready.one_clock ready.data_on_clock)
      (suc (level design run rank d)) net d is (omega arith) k l

  pub read_pulse : (from : Reader) (net : ℕ) → Reads design.flat from net → (k : ℕ) → k < length (times_of run.pulses net) → Pulse net k
  read_pulse from net reads k l = let d = ready.numbered.has_driver from net reads in pulse_of net d.0 d.1 k l

  -- the time of a pulse by the bench
  pub bench_time : (net k : ℕ) (a : Pulse net k) → time_at run.pulses net k ≡ ((pos (number net k a) *ℤ design.bench.period) +ℤ total (a.delay ∷ a.delays))
  bench_time net k a = at_time design run net k 0 a ∙ ap (λ (t : ℤ). t +ℤ total (a.delay ∷ a.delays)) (is_run.ticks (number net k a))

  module _ (cell clock : ℕ) (row : CellRow) (of : IsOf design cell row) (gate : is_gate row.kind ≡ true) (clock_reads : Reads design.flat (reader.Pin cell (clock_pin row)) clock) where
    pub clock_pulse : (k : ℕ) → k < length (times_of run.pulses clock) → Pulse clock k
    clock_pulse k l = read_pulse (reader.Pin cell (clock_pin row)) clock clock_reads k l

    pub clock_clean : (k : ℕ) (a : Pulse clock k) → IsClockRoute design (path_arcs clock k a) clock × (number clock k a ≡ k)
    clock_clean k a =
        let lane = lane_of design run clock k a in
        let clean = on_clock_pin design ready.one_clock ready.data_on_clock cell row clock of gate clock_reads lane in
        (is_clock_route design clock lane clean.0 clean.2, number_is_place design run fits ready.clock_used clock k a clean.2 clean.0)

    pub same_clock : (k : ℕ) (a : Pulse clock k) (arcs : List PathArc) → IsClockRoute design arcs clock → path_arcs clock k a ≡ arcs
    same_clock k a arcs route = clock_route_one design ready.numbered fits (path_arcs clock k a) arcs clock (clock_clean k a).0 route

    abbrev clock_pick : List PathArc → ℕ → List ℤ → PathPick
    clock_pick arcs k ds = record { arcs = arcs; delays = ds; number = k; ends = clock_reads.0 }

    two_rise : ((first second : PathPick) → ¬ OffenceExists design (offence.Dead cell first second)) → pos 1 ≤ℤ row.dead → (i j : ℕ) → i < j → (arcs : List PathArc) → IsPath design arcs clock → (ds es : List ℤ) → AreDelays design arcs ds → AreDelays design arcs es →
        ((pos i *ℤ design.bench.period) +ℤ total ds) <ℤ ((pos j *ℤ design.bench.period) +ℤ total es)
    two_rise no_dead dead i j l arcs path ds es d e = by_lt_z ((pos i *ℤ design.bench.period) +ℤ total ds) ((pos j *ℤ design.bench.period) +ℤ total es) (λ h. h)
        (λ h.
        (let mono = times_mono i j design.bench.period ready.period.from (omega arith) in
        let met = meet_apart design arcs arcs es ds ds es e d d e ((pos i *ℤ design.bench.period) -ℤ (pos j *ℤ design.bench.period)) (omega (arith, ints)) (omega (arith, ints)) in
        let m = met.meets in
        absurd (no_dead (clock_pick arcs j met.first) (clock_pick arcs i met.second) (
          row,
          record {
            meet = record {
              of = of;
              first = record { path = (_, clock_reads.1, path); delays = met.first_fits };
              second = record { path = (_, clock_reads.1, path); delays = met.second_fits };
              agree = λ same. absurd {A = SameDelays arcs met.first arcs met.second} (omega arith);
              differ = inr (λ same. omega arith);
              first_ends = (clock_pin row, clock, subst (λ b. IsDeadPin b row (clock_pin row)) (sym gate) refl, clock_reads.1);
              second_ends = (clock_pin row, clock, subst (λ b. IsDeadPin b row (clock_pin row)) (sym gate) refl, clock_reads.1);
            };
            near = near_same row.dead _ _ dead (omega (arith, ints));
          },
        ))))

    -- the pulses of a gate's clock rise
    pub rising : ((first second : PathPick) → ¬ OffenceExists design (offence.Dead cell first second)) → pos 1 ≤ℤ row.dead → AreRising (times_of run.pulses clock)
    rising no_dead dead i j below l =
        let a = clock_pulse i (omega arith) in
        let b = clock_pulse j l in
        let first = clock_clean i a in
        let second = clock_clean j b in
        let same : path_arcs clock i a ≡ path_arcs clock j b = same_clock i a (path_arcs clock j b) second.0 in
        let i_time : time_at run.pulses clock i ≡ ((pos i *ℤ design.bench.period) +ℤ total (a.delay ∷ a.delays)) = bench_time clock i a ∙ ap (λ (k : ℕ). (pos k *ℤ design.bench.period) +ℤ total (a.delay ∷ a.delays)) first.1 in
        let j_time : time_at run.pulses clock j ≡ ((pos j *ℤ design.bench.period) +ℤ total (b.delay ∷ b.delays)) = bench_time clock j b ∙ ap (λ (k : ℕ). (pos k *ℤ design.bench.period) +ℤ total (b.delay ∷ b.delays)) second.1 in
        rw (i_time, j_time)
        (two_rise no_dead dead i j below (path_arcs clock j b) (lane_path design clock (lane_of design run clock j b)) (a.delay ∷ a.delays) (b.delay ∷ b.delays)
        (subst (λ (xs : List PathArc). AreDelays design xs (a.delay ∷ a.delays)) same (lane_delays design clock (lane_of design run clock i a)))
        (lane_delays design clock (lane_of design run clock j b)))

    module _ (at net pin : ℕ) (is : IsPin design.flat pin (reader.Pin cell at) net) where
      later_than : (s t p m c k : ℕ) (late early : ℤ) → p ≡ m → (early <ℤ late) ↔ (pos p <ℤ (pos k +ℤ pos s)) → (early <ℤ late) ↔ (m < k + s)
      later_than s t p m c k late early same law = (λ h. let l = law.0 h in omega (arith, ints), λ h. law.1 (omega (arith, ints)))

      behind_at : (steps : ℤ) (arcs : List PathArc) → HasSteps design arcs pin steps → HasStepsAt design arcs pin (reader.Pin cell at) steps
      behind_at steps arcs has =
          let some : Some has.0 ≡ Some (record { reader = reader.Pin cell at; net = net }) = sym has.1 ∙ is in
          let same : has.0 ≡ record { reader = reader.Pin cell at; net = net } = cc in
          subst (λ (e : Pin). HasStepsAt design arcs pin e.reader steps) same has.2

      -- a pulse at a data pin is later than the first p + q pulses of the clock
      pub behind : (i : ℕ) (a : Pulse net i) (q : ℕ) → HasSteps design (path_arcs net i a) pin (pos q) → IsBehind (times_of run.pulses clock) (number net i a + q) (time_at run.pulses net i)
      behind i a q has m l =
          let law = behind_at (pos q) (path_arcs net i a) has in
          let c = clock_pulse m l in
          let clean = clock_clean m c in
          let clocked = law.1 in
          let same_row : clocked.0 ≡ row = one_row design cell clocked.0 row clocked.2 of in
          let same_net : clocked.1 ≡ clock = ready.numbered.one_read (reader.Pin cell (clock_pin row)) clocked.1 clock (subst (λ (r : CellRow). Reads design.flat (reader.Pin cell (clock_pin r)) clocked.1) same_row clocked.3) clock_reads in
          let route : IsClockRoute design law.0 clock = subst (λ (x : ℕ). IsClockRoute design law.0 x) same_net clocked.4 in
          let same_arcs : path_arcs clock m c ≡ law.0 = same_clock m c law.0 route in
          let sides = law.2 (pick_of design run net i pin a) (pick_of design run clock m clock_reads.0 c) (is_pick design run pin _ is i a) refl refl
          (is_pick design run clock_reads.0 _ clock_reads.1 m c) same_arcs (came_agree design run ready.numbered net i clock m a c) in
          rw (bench_time net i a, bench_time clock m c) (later_than q 0 (number clock m c) m 0 (number net i a) _ _ clean.1 sides)

      module _ (rise : AreRising (times_of run.pulses clock)) (k : ℕ) (within : k < length (times_of run.pulses clock)) where
        pub present_from : (i : ℕ) → i < length (times_of run.pulses net) → (a : Pulse net i) (q : ℕ) → HasSteps design (path_arcs net i a) pin (pos q) → number net i a + q ≡ k →
            is_present (times_of run.pulses net) (times_of run.pulses clock) (time_at run.pulses clock k) ≡ true
        present_from i l a q has same =
            list_any_at (λ t. int_le t (time_at run.pulses clock k) && not (list_any (λ b. int_le t b && int_lt b (time_at run.pulses clock k)) (times_of run.pulses clock))) (times_of run.pulses net) i (pos 0) l
            (present_one (times_of run.pulses clock) rise k within (number net i a + q) (time_at run.pulses net i) (behind i a q has) ∙ eq-eqb (number net i a + q) k same)

        -- the pulse that a present pin shows
        pub record Shown : Type 0 where
          pub place : ℕ
          pub below : place < length (times_of run.pulses net)
          pub pulse : Pulse net place
          pub steps : ℕ
          pub has : HasSteps design (path_arcs net place pulse) pin (pos steps)
          pub sum : number net place pulse + steps ≡ k

        pub present_to : ((i : ℕ) (a : Pulse net i) → (q : ℕ) × HasSteps design (path_arcs net i a) pin (pos q)) → is_present (times_of run.pulses net) (times_of run.pulses clock) (time_at run.pulses clock k) ≡ true → Shown
        present_to steps present =
            let found = Any-from_list_any (λ t. int_le t (time_at run.pulses clock k) && not (list_any (λ b. int_le t b && int_lt b (time_at run.pulses clock k)) (times_of run.pulses clock))) (times_of run.pulses net) present in
            let a = read_pulse (reader.Pin cell at) net (pin, is) found.0 found.2 in
            let q = steps found.0 a in
            let here : time_at run.pulses net found.0 ≡ found.1 = get_or_default (times_of run.pulses net) found.0 (pos 0) found.1 found.2 ∙ found.3 in
            let test = present_one (times_of run.pulses clock) rise k within (number net found.0 a + q.0) (time_at run.pulses net found.0) (behind found.0 a q.0 q.1) in
            record {
              place = found.0;
              below = found.2;
              pulse = a;
              steps = q.0;
              has = q.1;
              sum = eqb-true (number net found.0 a + q.0) k
                  (sym test
                  ∙ ap (λ (t : ℤ). int_le t (time_at run.pulses clock k) && not (list_any (λ b. int_le t b && int_lt b (time_at run.pulses clock k)) (times_of run.pulses clock))) here
                  ∙ found.4);
            }
