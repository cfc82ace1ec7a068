-- Runs are clean where no offence of dead times or windows exists, by the tags of their pulses.
use Rattle.std.proofs.Common.{◌≡◌, ℕ, true, ℤ, ◌+ℤ◌, List, [], get_or, refl, sym, ap, ◌∙◌, subst, arith}
use Rattle.std.specs.List.{All}
use Rattle.rsfq_ids.specs.declared.circuit.Reader.TheVariants as reader
use Rattle.rsfq_ids.specs.declared.offence.PathPick.{PathPick}
use Rattle.rsfq_ids.specs.declared.offence.Against.TheVariants as against
use Rattle.rsfq_ids.specs.Time.{IsNear, IsInZone, total}
use Rattle.rsfq_ids.specs.Circuit.{IsPin, clock_pin}
use Rattle.rsfq_ids.specs.Bench.{AreTicks, strobe_time}
use Rattle.rsfq_ids.specs.Run.{Run, times_of, AreClocksClean, AreWindowsClean, AreStrobesClean, AvoidZone}
use Rattle.rsfq_ids.specs.Path.{IsPick, Agree, pick_time}
use Rattle.rsfq_ids.specs.Offence.{Differ, IsDeadPin, EndsAtCell, HasNoDead, HasNoWindow}
use Rattle.pulse_laws.specs.Tags.{AreTags}
use Rattle.pulse_laws.proofs.Zips.{pairs_along, each_along}
use Rattle.rsfq_ids.specs.Design.{Design}

module _ (design : Design) (run : Run) (tags : List (List PathPick)) (ticks : AreTicks design.bench run.tick) (tagged : AreTags design run tags) where
  -- a tag's time by the bench is its time by the ticks
  at_ticks : (x : PathPick) (time : ℤ) → time ≡ (run.tick x.number +ℤ total x.delays) → time ≡ pick_time design.bench x
  at_ticks x time e = e ∙ ap (λ (t : ℤ). t +ℤ total x.delays) (ticks x.number)

  pub clocks_clean : HasNoDead true design → AreClocksClean design run
  clocks_clean none cell row clock of gate reads =
      let pin : ℕ = reads.0 in
      let ends : (x : PathPick) → x.ends ≡ pin → EndsAtCell design.flat cell row x =
      λ x e. (clock_pin row, clock, subst (λ b. IsDeadPin b row (clock_pin row)) (sym gate) refl, subst (λ p. IsPin design.flat p (reader.Pin cell (clock_pin row)) clock) (sym e) reads.1) in
      pairs_along (λ (x : PathPick) (time : ℤ). IsPick design x × (x.ends ≡ pin) × (time ≡ (run.tick x.number +ℤ total x.delays)))
      (λ x y. Differ x y × Agree x y) (λ s t. ¬ IsNear row.dead s t)
      (λ x y s t one other apart near. none cell row x y of gate (
        row,
        record {
          meet = record {
            of = of;
            first = one.0;
            second = other.0;
            agree = apart.1;
            differ = apart.0;
            first_ends = ends x one.1;
            second_ends = ends y other.1;
          };
          near = rw (← at_ticks x s one.2, ← at_ticks y t other.2) near;
        },
      ))
      (get_or tags pin []) (times_of run.pulses clock) (tagged.timed pin _ reads.1)
      (λ i j d h l. (tagged.distinct pin i j d h l, tagged.agree pin pin i d (omega arith) j d l))

  pub windows_clean : HasNoWindow design → AreWindowsClean design run
  windows_clean none cell row at net clock of gate input data_reads clock_reads =
      let data_pin : ℕ = data_reads.0 in
      let pin : ℕ = clock_reads.0 in
      each_along (λ (x : PathPick) (time : ℤ). IsPick design x × (x.ends ≡ pin) × (time ≡ (run.tick x.number +ℤ total x.delays)))
      (λ clocked. All (λ x. Agree x clocked) (get_or tags data_pin [])) (λ c. AvoidZone row.setup row.hold c (times_of run.pulses net))
      (λ clocked c clock_tag agree. each_along (λ (x : PathPick) (time : ℤ). IsPick design x × (x.ends ≡ data_pin) × (time ≡ (run.tick x.number +ℤ total x.delays)))
      (λ x. Agree x clocked) (λ t. ¬ IsInZone row.setup row.hold c t)
      (λ x t tag agrees zone. none data_pin x (against.Clock clocked) (record {
        pick = tag.0;
        ends = tag.1;
        against = (
          _,
          data_reads.1,
          (
            row,
            clock,
            of,
            gate,
            input,
            clock_tag.0,
            subst (λ p. IsPin design.flat p (reader.Pin cell (clock_pin row)) clock) (sym clock_tag.1) clock_reads.1,
            agrees,
            rw (← at_ticks clocked c clock_tag.2, ← at_ticks x t tag.2) zone,
          ),
        );
      }))
      (get_or tags data_pin []) (times_of run.pulses net) (tagged.timed data_pin _ data_reads.1) agree)
      (get_or tags pin []) (times_of run.pulses clock) (tagged.timed pin _ clock_reads.1)
      (λ j e l i d k. tagged.agree data_pin pin i d k j e l)

  pub strobes_clean : HasNoWindow design → AreStrobesClean design run
  strobes_clean none port strobe net used reads k =
      let pin : ℕ = reads.0 in
      each_along (λ (x : PathPick) (time : ℤ). IsPick design x × (x.ends ≡ pin) × (time ≡ (run.tick x.number +ℤ total x.delays)))
      (λ x. Unit {0}) (λ t. ¬ IsInZone strobe.setup strobe.hold (strobe_time strobe run.tick k) t)
      (λ x t tag here zone. none pin x (against.Strobe k) (record {
        pick = tag.0;
        ends = tag.1;
        against = (_, reads.1, (strobe, used, rw (← at_ticks x t tag.2, ← ticks k) zone));
      }))
      (get_or tags pin []) (times_of run.pulses net) (tagged.timed pin _ reads.1) (λ i d l. tt)
