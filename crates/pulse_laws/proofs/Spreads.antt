-- Differences of pulses.
use Rattle.std.proofs.Common.{◌≡◌, true, false, ℤ, pos, ◌+ℤ◌, ◌-ℤ◌, ◌*ℤ◌, [], length, get_or, refl, sym, ap, ◌∙◌, subst, arith}
use Rattle.std.proofs.lemmas.Int.{ints}
use Rattle.std.proofs.lemmas.Bool.{eqb-true}
use Rattle.rsfq_ids.specs.declared.offence.PathPick.{PathPick}
use Rattle.rsfq_ids.specs.Time.{IsWithin, total}
use Rattle.rsfq_ids.specs.Run.{times_of}
use Rattle.rsfq_ids.specs.Path.{IsPick, Agree}
use Rattle.pulse_laws.proofs.Zips.{zip_length, zip_at}
use Rattle.pulse_laws.specs.Statements.{SpreadsFill, RunsKeepSpreads}
use Rattle.pulse_laws.proofs.Fill.{meet_apart, meet_shared}

pub spreads_fill : SpreadsFill
spreads_fill design true arcs others low high v spread within =
    let (ds, es, one, at) = spread.least in
    let (ds', es', two, at') = spread.most in
    let from = within.from in
    let to = within.to in
    let met = meet_shared design arcs others ds es ds' es' one.first one.second (one.agree refl) two.first two.second (two.agree refl) v (omega (arith, ints)) (omega (arith, ints)) in
    (met.0.first, met.0.second, record { first = met.0.first_fits; second = met.0.second_fits; agree = λ e. met.1 }, met.0.meets)
spreads_fill design false arcs others low high v spread within =
    let (ds, es, one, at) = spread.least in
    let (ds', es', two, at') = spread.most in
    let from = within.from in
    let to = within.to in
    let met = meet_apart design arcs others ds es ds' es' one.first one.second two.first two.second v (omega (arith, ints)) (omega (arith, ints)) in
    (met.first, met.second, record { first = met.first_fits; second = met.second_fits; agree = λ e. cc }, met.meets)

apart : (a b p q s t low high : ℤ) → a ≡ (p +ℤ s) → b ≡ (q +ℤ t) → IsWithin low high (s -ℤ t) → IsWithin low high ((a -ℤ b) -ℤ (p -ℤ q))
apart a b p q s t low high one two within = let from = within.from in let to = within.to in record { from = omega (arith, ints); to = omega (arith, ints) }

pub runs_keep_spreads : RunsKeepSpreads
runs_keep_spreads design run tags ticks tagged pin other end stop i k x y low high is is' l m here there spread =
    let one = zip_at (λ (tag : PathPick) (time : ℤ). IsPick design tag × (tag.ends ≡ pin) × (time ≡ (run.tick tag.number +ℤ total tag.delays))) (get_or tags pin []) (times_of run.pulses end.net) i x (pos 0) (tagged.timed pin end is) (omega (arith, same_first)) in
    let two = zip_at (λ (tag : PathPick) (time : ℤ). IsPick design tag × (tag.ends ≡ other) × (time ≡ (run.tick tag.number +ℤ total tag.delays))) (get_or tags other []) (times_of run.pulses stop.net) k y (pos 0) (tagged.timed other stop is') (omega (arith, same_second)) in
    let agree = tagged.agree pin other i x (omega (arith, same_first)) k y (omega (arith, same_second)) in
    go (sym here) (sym there) one two agree
  where
    same_first : length (get_or tags pin []) ≡ length (times_of run.pulses end.net)
    same_first = zip_length (λ (tag : PathPick) (time : ℤ). IsPick design tag × (tag.ends ≡ pin) × (time ≡ (run.tick tag.number +ℤ total tag.delays))) (get_or tags pin []) (times_of run.pulses end.net) (tagged.timed pin end is)

    same_second : length (get_or tags other []) ≡ length (times_of run.pulses stop.net)
    same_second = zip_length (λ (tag : PathPick) (time : ℤ). IsPick design tag × (tag.ends ≡ other) × (time ≡ (run.tick tag.number +ℤ total tag.delays))) (get_or tags other []) (times_of run.pulses stop.net) (tagged.timed other stop is')

    go : {u v : PathPick} → u ≡ x → v ≡ y → IsPick design u × (u.ends ≡ pin) × (get_or (times_of run.pulses end.net) i (pos 0) ≡ (run.tick u.number +ℤ total u.delays)) → IsPick design v × (v.ends ≡ other) × (get_or (times_of run.pulses stop.net) k (pos 0) ≡ (run.tick v.number +ℤ total v.delays)) →
        Agree u v → IsWithin low high ((get_or (times_of run.pulses end.net) i (pos 0) -ℤ get_or (times_of run.pulses stop.net) k (pos 0)) -ℤ ((pos x.number *ℤ design.bench.period) -ℤ (pos y.number *ℤ design.bench.period)))
    go {u} {v} first second one two agree =
        let a = subst (λ (p : PathPick). IsPick design p × (p.ends ≡ pin) × (get_or (times_of run.pulses end.net) i (pos 0) ≡ (run.tick p.number +ℤ total p.delays))) first one in
        let b = subst (λ (p : PathPick). IsPick design p × (p.ends ≡ other) × (get_or (times_of run.pulses stop.net) k (pos 0) ≡ (run.tick p.number +ℤ total p.delays))) second two in
        let agrees : Agree x y = subst (λ (p : PathPick). Agree p y) first (subst (λ (p : PathPick). Agree u p) second agree) in
        apart _ _ _ _ (total x.delays) (total y.delays) low high (a.2 ∙ ap (λ (t : ℤ). t +ℤ total x.delays) (ticks x.number)) (b.2 ∙ ap (λ (t : ℤ). t +ℤ total y.delays) (ticks y.number))
        (spread.within x.delays y.delays (record { first = a.0.delays; second = b.0.delays; agree = λ e. agrees (eqb-true x.number y.number e) }))
