-- A bit of an output's stream shows the pulses that their steps lead to it.
use Rattle.std.proofs.Common.{◌≡◌, ℕ, ◌+◌, ◌<◌, true, ◌&&◌, ◌↔◌, ℤ, pos, ◌+ℤ◌, ◌<ℤ◌, List, length, refl, sym, ap, ◌∙◌, subst, arith}
use Rattle.std.proofs.lemmas.Int.{ints}
use Rattle.std.proofs.lemmas.Bool.{eq-eqb, eqb-true}
use Rattle.std.proofs.lemmas.List.{get_or_default}
use Rattle.std.proofs.lemmas.List.Folds.{list_any_at, Any-from_list_any}
use Rattle.std.specs.Prelude.{int_le, Some}
use Rattle.rsfq_ids.specs.declared.circuit.Pin.{Pin}
use Rattle.rsfq_ids.specs.declared.circuit.Strobe.{Strobe}
use Rattle.rsfq_ids.specs.declared.circuit.PortUse.TheVariants as port_use
use Rattle.rsfq_ids.specs.declared.circuit.Reader.TheVariants as reader
use Rattle.rsfq_ids.specs.declared.offence.PathArc.{PathArc}
use Rattle.rsfq_ids.specs.Circuit.{IsPin}
use Rattle.rsfq_ids.specs.Bench.{IsUsed, strobe_time}
use Rattle.rsfq_ids.specs.Run.{Run, IsRun, times_of, is_after_last, stream_bit}
use Rattle.rsfq_ids.specs.Path.{HasSteps, HasStepsAt, strobe_at}
use Rattle.pulse_laws.proofs.Tags.{is_pick}
use Rattle.pulse_laws.proofs.Presence.{stream_one}
use Rattle.pulse_laws.proofs.Bits.{Pulse, number, path_arcs, read_pulse, bench_time}
use Rattle.rsfq_ids.specs.Design.{Design}
use Rattle.rsfq_ids.specs.Ready.{IsReady}
use Rattle.pulse_laws.specs.Flows.{time_at, pick_of}

module _ (design : Design) (run : Run) (rank : ℕ → ℕ) (ready : IsReady design rank) (is_run : IsRun design run)
    (port net pin : ℕ) (strobe : Strobe) (used : IsUsed design.bench port (port_use.Strobed strobe)) (is : IsPin design.flat pin (reader.Port port) net) where
  later_than : (s p m k : ℕ) (late early : ℤ) → (early <ℤ late) ↔ (pos m <ℤ (pos k +ℤ pos s)) → (early <ℤ late) ↔ (m < k + s)
  later_than s p m k late early law = (λ h. let l = law.0 h in omega (arith, ints), λ h. law.1 (omega (arith, ints)))

  at_port : (steps : ℤ) (arcs : List PathArc) → HasSteps design arcs pin steps → HasStepsAt design arcs pin (reader.Port port) steps
  at_port steps arcs has =
      let some : Some has.0 ≡ Some (record { reader = reader.Port port; net = net }) = sym has.1 ∙ is in
      let same : has.0 ≡ record { reader = reader.Port port; net = net } = cc in
      subst (λ (x : Pin). HasStepsAt design arcs pin x.reader steps) same has.2

  -- a pulse at an output is later than the first p + q strobes
  pub strobed : (i : ℕ) (a : Pulse design run rank ready is_run net i) (q : ℕ) → HasSteps design (path_arcs design run rank ready is_run net i a) pin (pos q) → (m : ℕ) → (strobe_time strobe run.tick m <ℤ time_at run.pulses net i) ↔ (m < number design run rank ready is_run net i a + q)
  strobed i a q has m =
      let law = at_port (pos q) (path_arcs design run rank ready is_run net i a) has in
      let some : Some (port_use.Strobed law.0) ≡ Some (port_use.Strobed strobe) = sym law.1 ∙ used in
      let same : law.0 ≡ strobe = cc in
      let sides = law.2 (pick_of design run net i pin a) m (is_pick design run pin _ is i a) refl refl in
      let at : strobe_at design.bench law.0 m ≡ strobe_time strobe run.tick m = ap (λ (s : Strobe). strobe_at design.bench s m) same ∙ ap (λ (t : ℤ). strobe.offset +ℤ t) (sym (is_run.ticks m)) in
      rw (bench_time design run rank ready is_run net i a, ← at) (later_than q 0 m (number design run rank ready is_run net i a) _ _ sides)

  module _ (k : ℕ) where
    pub stream_from : (i : ℕ) → i < length (times_of run.pulses net) → (a : Pulse design run rank ready is_run net i) (q : ℕ) → HasSteps design (path_arcs design run rank ready is_run net i a) pin (pos q) → number design run rank ready is_run net i a + q ≡ k → stream_bit strobe run.tick k (times_of run.pulses net) ≡ true
    stream_from i l a q has same =
        list_any_at (λ time. is_after_last strobe run.tick k time && int_le time (strobe_time strobe run.tick k)) (times_of run.pulses net) i (pos 0) l
        (stream_one strobe run.tick k (number design run rank ready is_run net i a + q) (time_at run.pulses net i) (strobed i a q has) ∙ eq-eqb (number design run rank ready is_run net i a + q) k same)

    -- the pulse that a bit shows
    pub record StreamShown : Type 0 where
      pub place : ℕ
      pub below : place < length (times_of run.pulses net)
      pub pulse : Pulse design run rank ready is_run net place
      pub steps : ℕ
      pub has : HasSteps design (path_arcs design run rank ready is_run net place pulse) pin (pos steps)
      pub sum : number design run rank ready is_run net place pulse + steps ≡ k

    pub stream_to : ((i : ℕ) (a : Pulse design run rank ready is_run net i) → (q : ℕ) × HasSteps design (path_arcs design run rank ready is_run net i a) pin (pos q)) → stream_bit strobe run.tick k (times_of run.pulses net) ≡ true → StreamShown
    stream_to steps shown =
        let found = Any-from_list_any (λ time. is_after_last strobe run.tick k time && int_le time (strobe_time strobe run.tick k)) (times_of run.pulses net) shown in
        let a = read_pulse design run rank ready is_run (reader.Port port) net (pin, is) found.0 found.2 in
        let q = steps found.0 a in
        let here : time_at run.pulses net found.0 ≡ found.1 = get_or_default (times_of run.pulses net) found.0 (pos 0) found.1 found.2 ∙ found.3 in
        let test = stream_one strobe run.tick k (number design run rank ready is_run net found.0 a + q.0) (time_at run.pulses net found.0) (strobed found.0 a q.0 q.1) in
        record {
          place = found.0;
          below = found.2;
          pulse = a;
          steps = q.0;
          has = q.1;
          sum = eqb-true (number design run rank ready is_run net found.0 a + q.0) k (sym test ∙ ap (λ (t : ℤ). is_after_last strobe run.tick k t && int_le t (strobe_time strobe run.tick k)) here ∙ found.4);
        }
