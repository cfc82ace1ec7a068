-- A path without window offences has steps, and they are a natural number where no pulse runs ahead.
use Rattle.std.proofs.Common.{◌≡◌, ℕ, ◌<◌, true, ◌↔◌, ℤ, pos, ◌+ℤ◌, ◌-ℤ◌, ◌*ℤ◌, ◌≤ℤ◌, ◌<ℤ◌, List, length, refl, subst, arith, inl, inr}
use Rattle.std.proofs.lemmas.Int.{ints, by_lt_z}
use Rattle.std.proofs.lemmas.Bool.{cases_eq}
use Rattle.rsfq_ids.specs.declared.table.CellRow.{CellRow}
use Rattle.rsfq_ids.specs.declared.circuit.Strobe.{Strobe}
use Rattle.rsfq_ids.specs.declared.circuit.PortUse.TheVariants as port_use
use Rattle.rsfq_ids.specs.declared.circuit.Reader.TheVariants as reader
use Rattle.rsfq_ids.specs.declared.offence.PathArc.{PathArc}
use Rattle.rsfq_ids.specs.declared.offence.PathPick.{PathPick}
use Rattle.rsfq_ids.specs.declared.offence.Against.TheVariants as against
use Rattle.rsfq_ids.specs.Time.{IsInZone, total}
use Rattle.rsfq_ids.specs.Circuit.{IsPin, IsOf, is_gate, clock_pin}
use Rattle.rsfq_ids.specs.Bench.{IsUsed}
use Rattle.rsfq_ids.specs.Path.{IsPath, IsClockRoute, SameDelays, HasSteps, strobe_at}
use Rattle.rsfq_ids.specs.declared.offence.Against.{Against}
use Rattle.rsfq_ids.specs.declared.offence.Offence.TheVariants as offence
use Rattle.pulse_laws.proofs.Fill.{AreDelays, Meets, fill, meet_apart, meet_shared, share}
use Rattle.pulse_laws.proofs.Ceil.{Covers, ceil, covers_side, times_zero, times_suc}
use Rattle.rsfq_ids.specs.Design.{Design}
use Rattle.rsfq_ids.specs.Offence.{OffenceExists}

in_zone : (setup hold at time : ℤ) → pos 1 ≤ℤ setup → pos 1 ≤ℤ hold → time ≡ at → IsInZone setup hold at time
in_zone setup hold at time s h same = record { after = omega (arith, ints); before = omega (arith, ints) }

one_period : (t a b : ℤ) → ((pos 0 *ℤ t) +ℤ b) <ℤ ((pos 1 *ℤ t) +ℤ a) → pos 0 <ℤ (t +ℤ (a -ℤ b))
one_period t a b h = let e = times_zero t in let f = times_suc 0 t in omega (arith, ints)

no_ahead_is : (a b : ℤ) → (a ≤ℤ b → ⊥) → b <ℤ a
no_ahead_is a b none = by_lt_z b a (λ h. h) (λ h. absurd (none h))

module _ (design : Design) (period : pos 1 ≤ℤ design.bench.period) where
  abbrev pub T : ℤ
  T = design.bench.period

  -- a pick along arcs
  abbrev pub along : List PathArc → ℕ → List ℤ → ℕ → PathPick
  along arcs pin delays number = record { arcs = arcs; delays = delays; number = number; ends = pin }

  module _ (pin cpin cell at net clock : ℕ) (row : CellRow) (of : IsOf design cell row) (gate : is_gate row.kind ≡ true) (input : at < length row.inputs) (is : IsPin design.flat pin (reader.Pin cell at) net)
      (is_clock : IsPin design.flat cpin (reader.Pin cell (clock_pin row)) clock) (setup : pos 1 ≤ℤ row.setup) (hold : pos 1 ≤ℤ row.hold) (arcs carcs : List PathArc) (path : IsPath design arcs net)
      (cpath : IsPath design carcs clock) (route : IsClockRoute design carcs clock)
      (no_window : (pulse : PathPick) (held : Against) → ¬ OffenceExists design (offence.Window pin pulse held)) where
    -- delays that two pulses may have together
    pub record Pair (p n : ℕ) (ds es : List ℤ) : Type 0 where
      pub first : AreDelays design arcs ds
      pub second : AreDelays design carcs es
      pub agree : p ≡ n → SameDelays arcs ds carcs es

    never_same : (p n : ℕ) (ds es : List ℤ) → Pair p n ds es → ((pos p *ℤ T) +ℤ total ds) ≡ ((pos n *ℤ T) +ℤ total es) → ⊥
    never_same p n ds es pair same = no_window (along arcs pin ds p) (against.Clock (along carcs cpin es n)) (record {
      pick = record { path = (_, is, path); delays = pair.first };
      ends = refl;
      against = (
        _,
        is,
        (
          row,
          clock,
          of,
          gate,
          input,
          record { path = (_, is_clock, cpath); delays = pair.second },
          is_clock,
          pair.agree,
          in_zone row.setup row.hold ((pos n *ℤ T) +ℤ total es) ((pos p *ℤ T) +ℤ total ds) setup hold same,
        ),
      );
    })

    met : (p n : ℕ) (ds es ds' es' : List ℤ) → Pair p n ds es → Pair p n ds' es' → (v : ℤ) → (total ds -ℤ total es) ≤ℤ v → v ≤ℤ (total ds' -ℤ total es') → (met : Meets design arcs carcs v) × Pair p n met.first met.second
    met p n ds es ds' es' one two v l m = elim (cases_eq p n) [
      | inl same ↦
          (let got = meet_shared design arcs carcs ds es ds' es' one.first one.second (one.agree same) two.first two.second (two.agree same) v l m in
          (got.0, record { first = got.0.first_fits; second = got.0.second_fits; agree = λ e. got.1 }))
      | inr other ↦
          (let got = meet_apart design arcs carcs ds es ds' es' one.first one.second two.first two.second v l m in
          (got, record { first = got.first_fits; second = got.second_fits; agree = λ e. absurd (other e) }))
    ]

    -- all pulses of two numbers lie in one order
    one_side : (p n : ℕ) (ds es ds' es' : List ℤ) → Pair p n ds es → Pair p n ds' es' → ((pos n *ℤ T) +ℤ total es') <ℤ ((pos p *ℤ T) +ℤ total ds') → ((pos n *ℤ T) +ℤ total es) <ℤ ((pos p *ℤ T) +ℤ total ds)
    one_side p n ds es ds' es' one two later = by_lt_z ((pos n *ℤ T) +ℤ total es) ((pos p *ℤ T) +ℤ total ds) (λ h. h)
        (λ h.
        (let got = met p n ds es ds' es' one two ((pos n *ℤ T) -ℤ (pos p *ℤ T)) (omega (arith, ints)) (omega (arith, ints)) in
        let m = got.0.meets in
        absurd (never_same p n got.0.first got.0.second got.1 (omega (arith, ints)))))

    module _ (ds es : List ℤ) (ds_fit : AreDelays design arcs ds) (es_fit : AreDelays design carcs es) (shared : SameDelays arcs ds carcs es) where
      base : (p n : ℕ) → Pair p n ds es
      base p n = record { first = ds_fit; second = es_fit; agree = λ e. shared }

      first_later : (no_ahead : (pulse : PathPick) (held : Against) → ¬ OffenceExists design (offence.Ahead pin pulse held)) → pos 0 <ℤ (T +ℤ (total ds -ℤ total es))
      first_later no_ahead = one_period T (total ds) (total es) (no_ahead_is _ _ (λ early. no_ahead (along arcs pin ds 1) (against.Clock (along carcs cpin es 0)) (
        refl,
        record {
          pick = record { path = (_, is, path); delays = ds_fit };
          ends = refl;
          against = (_, is, (row, clock, of, gate, input, record { path = (_, is_clock, cpath); delays = es_fit }, is_clock, (λ e. shared), (refl, early)));
        },
      )))

      covered : (no_ahead : (pulse : PathPick) (held : Against) → ¬ OffenceExists design (offence.Ahead pin pulse held)) → (q : ℕ) × Covers T (total ds -ℤ total es) q
      covered no_ahead = ceil T (total ds -ℤ total es) period (first_later no_ahead)

      shift : (a b c d : ℤ) → (a +ℤ d) <ℤ (b +ℤ c) → a <ℤ (b +ℤ (c -ℤ d))
      shift a b c d h = omega (arith, ints)

      shift_back : (a b c d : ℤ) → a <ℤ (b +ℤ (c -ℤ d)) → (a +ℤ d) <ℤ (b +ℤ c)
      shift_back a b c d h = omega (arith, ints)

      side : (q : ℕ) → Covers T (total ds -ℤ total es) q → (p n : ℕ) (fs gs : List ℤ) → Pair p n fs gs → (((pos n *ℤ T) +ℤ total gs) <ℤ ((pos p *ℤ T) +ℤ total fs)) ↔ (pos n <ℤ (pos p +ℤ pos q))
      side q covers p n fs gs pair = (
        λ h. let l = (covers_side T (total ds -ℤ total es) q period covers p n).0 (shift _ _ (total ds) (total es) (one_side p n ds es fs gs (base p n) pair h)) in omega (arith, ints),
        λ h. one_side p n fs gs ds es pair (base p n) (shift_back _ _ (total ds) (total es) ((covers_side T (total ds -ℤ total es) q period covers p n).1 (omega (arith, ints)))),
      )

      pub steps_by : (q : ℕ) → Covers T (total ds -ℤ total es) q → HasSteps design arcs pin (pos q)
      steps_by q covers = (
        _,
        is,
        (
          carcs,
          (row, clock, of, (cpin, is_clock), route),
          λ pulse clocked pick same ends cpick csame agree.
              side q covers pulse.number clocked.number pulse.delays clocked.delays (record {
                first = subst (λ (xs : List PathArc). AreDelays design xs pulse.delays) same pick.delays;
                second = subst (λ (xs : List PathArc). AreDelays design xs clocked.delays) csame cpick.delays;
                agree = λ e. subst (λ (xs : List PathArc). SameDelays xs pulse.delays carcs clocked.delays) same (subst (λ (xs : List PathArc). SameDelays pulse.arcs pulse.delays xs clocked.delays) csame (agree e));
              }),
        ),
      )

      pub pin_steps_shared : (no_ahead : (pulse : PathPick) (held : Against) → ¬ OffenceExists design (offence.Ahead pin pulse held)) → (q : ℕ) × HasSteps design arcs pin (pos q)
      pin_steps_shared no_ahead = let q = covered no_ahead in (q.0, steps_by q.0 q.1)

    -- the steps of a path to a data pin
    pub pin_steps : (ds es : List ℤ) → AreDelays design arcs ds → AreDelays design carcs es → (no_ahead : (pulse : PathPick) (held : Against) → ¬ OffenceExists design (offence.Ahead pin pulse held)) → (q : ℕ) × HasSteps design arcs pin (pos q)
    pin_steps ds es d e no_ahead = let shared = share design arcs carcs ds es d e in pin_steps_shared ds shared.0 d shared.1 shared.2 no_ahead

  module _ (pin port net : ℕ) (strobe : Strobe) (is : IsPin design.flat pin (reader.Port port) net) (used : IsUsed design.bench port (port_use.Strobed strobe)) (setup : pos 1 ≤ℤ strobe.setup) (hold : pos 1 ≤ℤ strobe.hold)
      (arcs : List PathArc) (path : IsPath design arcs net)
      (no_window : (pulse : PathPick) (held : Against) → ¬ OffenceExists design (offence.Window pin pulse held)) where
    never_at_strobe : (p n : ℕ) (ds : List ℤ) → AreDelays design arcs ds → ((pos p *ℤ T) +ℤ total ds) ≡ strobe_at design.bench strobe n → ⊥
    never_at_strobe p n ds fit same = no_window (along arcs pin ds p) (against.Strobe n) (record {
      pick = record { path = (_, is, path); delays = fit };
      ends = refl;
      against = (_, is, (strobe, used, in_zone strobe.setup strobe.hold (strobe_at design.bench strobe n) ((pos p *ℤ T) +ℤ total ds) setup hold same));
    })

    one_side_of_strobe : (p n : ℕ) (ds ds' : List ℤ) → AreDelays design arcs ds → AreDelays design arcs ds' → (strobe_at design.bench strobe n) <ℤ ((pos p *ℤ T) +ℤ total ds') → (strobe_at design.bench strobe n) <ℤ ((pos p *ℤ T) +ℤ total ds)
    one_side_of_strobe p n ds ds' one two later = by_lt_z (strobe_at design.bench strobe n) ((pos p *ℤ T) +ℤ total ds) (λ h. h)
        (λ h.
        (let got = fill design arcs ds ds' one two ((strobe_at design.bench strobe n) -ℤ (pos p *ℤ T)) (omega (arith, ints)) (omega (arith, ints)) in
        let m = got.2 in
        absurd (never_at_strobe p n got.0 got.1 (omega (arith, ints)))))

    side_of_strobe : (ds : List ℤ) → AreDelays design arcs ds → (q : ℕ) → Covers T (total ds -ℤ strobe.offset) q → (p n : ℕ) (fs : List ℤ) → AreDelays design arcs fs → ((strobe_at design.bench strobe n) <ℤ ((pos p *ℤ T) +ℤ total fs)) ↔ (pos n <ℤ (pos p +ℤ pos q))
    side_of_strobe ds fit q covers p n fs fits = (
      λ h. let one = one_side_of_strobe p n ds fs fit fits h in let l = (covers_side T (total ds -ℤ strobe.offset) q period covers p n).0 (omega (arith, ints)) in omega (arith, ints),
      λ h. let l = (covers_side T (total ds -ℤ strobe.offset) q period covers p n).1 (omega (arith, ints)) in one_side_of_strobe p n fs ds fits fit (omega (arith, ints)),
    )

    pub output_steps_by : (ds : List ℤ) → AreDelays design arcs ds → (q : ℕ) → Covers T (total ds -ℤ strobe.offset) q → HasSteps design arcs pin (pos q)
    output_steps_by ds fit q covers = (
      _,
      is,
      (strobe, used, λ pulse n pick same ends. side_of_strobe ds fit q covers pulse.number n pulse.delays (subst (λ (xs : List PathArc). AreDelays design xs pulse.delays) same pick.delays)),
    )

    -- the steps of a path to an output
    pub output_steps : (ds : List ℤ) → AreDelays design arcs ds → (no_ahead : (pulse : PathPick) (held : Against) → ¬ OffenceExists design (offence.Ahead pin pulse held)) → (q : ℕ) × HasSteps design arcs pin (pos q)
    output_steps ds fit no_ahead = (covered.0, output_steps_by ds fit covered.0 covered.1)
      where
        early : (t a b : ℤ) → (b +ℤ (pos 0 *ℤ t)) <ℤ ((pos 1 *ℤ t) +ℤ a) → pos 0 <ℤ (t +ℤ (a -ℤ b))
        early t a b h = let e = times_zero t in let f = times_suc 0 t in omega (arith, ints)

        covered : (q : ℕ) × Covers T (total ds -ℤ strobe.offset) q
        covered = ceil T (total ds -ℤ strobe.offset) period (early T (total ds) strobe.offset (no_ahead_is _ _ (λ h. no_ahead (along arcs pin ds 1) (against.Strobe 0) (
          refl,
          record {
            pick = record { path = (_, is, path); delays = fit };
            ends = refl;
            against = (_, is, (strobe, used, (refl, h)));
          },
        ))))
