-- The facts on an output, of values as the code passes them.
use Rattle.std.proofs.Common.{◌≡◌, ℕ, suc, ◌+◌, ◌⊎◌, true, false, w64, ℤ, pos, negsuc, ◌+ℤ◌, ◌-ℤ◌, ◌*ℤ◌, ◌≤ℤ◌, ◌<ℤ◌, List, sym, ap, ◌∙◌, subst, inl, inr, arith}
use Rattle.std.proofs.lemmas.Int.{ints, to_z-of_z}
use Rattle.std.specs.List.{AllZip}
use Rattle.rsfq_ids.specs.declared.circuit.Strobe.{Strobe}
use Rattle.rsfq_ids.specs.declared.offence.PathArc.{PathArc}
use Rattle.rsfq_ids.specs.Design.{Design}
use Rattle.rsfq_ids.specs.Time.{IsWithin}
use Rattle.rsfq_ids.specs.Path.{IsRoute}
use Rattle.rsfq_ids.specs.Ready.{IsSetUp}
use Rattle.wire_timing.specs.declared.reach.Reach.{Reach}
use Rattle.wire_timing.specs.Wires.{HasOnlyJtls}
use Rattle.wire_timing.specs.Window.{IsFirstAt}
use Rattle.wire_timing.specs.Reach.{HasBounds, IsStrobedPin, Reaches, IsSmall, IsTimely, IsStepCount, IsSpare, IsRaisedPath, raise}
use Rattle.wire_timing.proofs.Shape.{strobe_fits}
use Rattle.wire_timing.proofs.Routes.{route_one}
use Rattle.wire_timing.proofs.Periods.{times_positive}
use Rattle.wire_timing.proofs.Outputs.{first_at}
use lib.Signed.{lt_z}
use mir.Val.{SFits, to_z, of_z}

pub spare_shown : (spare begins low : ℤ) → IsSpare begins low spare → IsWithin (negsuc 2000000000) (pos 1000001000000000) begins → IsWithin (pos 0) (pos 100001000000000) low → to_z w64 (of_z w64 spare) ≡ spare
spare_shown spare begins low is within small = to_z-of_z w64 spare (go is.least)
  where
    go : (spare ≡ pos 0) ⊎ ((low +ℤ spare) ≡ begins) → SFits w64 spare
    go (inl none) = omega (arith, ints)
    go (inr at) = let a = within.to in let b = small.from in let n = is.natural in omega (arith, ints)

pub steps_shown : (period period' : ℤ) (strobe : Strobe) (high high' : ℤ) (q : ℕ) → period' ≡ period → high' ≡ high → IsStepCount period' strobe high' q → IsStepCount period strobe high q
steps_shown period period' strobe high high' q p h steps = subst (λ (z : ℤ). IsStepCount period strobe z q) h (subst (λ (z : ℤ). IsStepCount z strobe high' q) p steps)

pub clear_shown : (ends low' low period middle turned span : ℤ) → ends ≡ ((middle +ℤ turned) -ℤ period) → low' ≡ low → turned ≡ span → lt_z low' ends ≡ false → (middle +ℤ span) ≤ℤ (low +ℤ period)
clear_shown ends low' low period middle turned span e l t h = let k : ends ≤ℤ low' = grind (arith, ints) in omega (arith, ints)

pub late_shown : (ends low' low period middle turned span : ℤ) → ends ≡ ((middle +ℤ turned) -ℤ period) → low' ≡ low → turned ≡ span → lt_z low' ends ≡ true → (low +ℤ period) <ℤ (middle +ℤ span)
late_shown ends low' low period middle turned span e l t h = let k : low' <ℤ ends = grind (arith, ints) in omega (arith, ints)

module _ (design : Design) (set_up : IsSetUp design) (jtls : HasOnlyJtls design) where
  -- the bounds of a route to a net that is reached
  pub bounds_of_route : (net : ℕ) (reach : Reach) (arcs shown : List PathArc) → Reaches design net reach → IsRoute design arcs net → shown ≡ arcs → (bounds : List (ℤ × ℤ)) × AllZip (HasBounds design) shown bounds
  bounds_of_route net reach arcs shown reaches route e =
      (reaches.bounds, subst (λ (xs : List PathArc). AllZip (HasBounds design) xs reaches.bounds) (route_one design set_up jtls reaches.arcs arcs net reaches.route route ∙ sym e) reaches.bounded)

  module _ (pin net : ℕ) (strobe : Strobe) (output : IsStrobedPin design pin strobe net) where
    pub timely : (period sum : ℤ) → period ≡ design.bench.period → pos 0 ≤ℤ sum → sum ≤ℤ pos 100001000000000 → IsTimely period strobe sum
    timely period sum same l h =
        let (port, is, used) = output in
        let fits = strobe_fits design set_up jtls port strobe used in
        subst (λ (t : ℤ). IsTimely t strobe sum) (sym same) (record { period_fits = set_up.bench_fits.period; offset = fits.0; early = fits.1; setup = fits.2; hold = fits.3; natural = l; small = h })

    pub period_shown : SFits w64 design.bench.period
    period_shown = let l = set_up.bench_fits.period.from in let h = set_up.bench_fits.period.to in omega (arith, ints)

    -- whole periods up to the steps are within limits
    pub turned_within : (high : ℤ) (q : ℕ) → pos 0 ≤ℤ high → high ≤ℤ pos 100001000000000 → IsStepCount design.bench.period strobe high q → IsWithin (pos 0) (pos 1000000000000000) (pos q *ℤ design.bench.period)
    turned_within high q l h steps =
        let (port, is, used) = output in
        let fits = strobe_fits design set_up jtls port strobe used in
        let n = times_positive q design.bench.period set_up.bench_fits.period.from in
        let f = steps.from in
        let o = fits.0.from in
        let s = fits.2.to in
        let t = set_up.bench_fits.period.to in record { from = n; to = omega (arith, ints) }

    pub begins_within : (begins turned : ℤ) → begins ≡ ((((strobe.offset +ℤ turned) -ℤ design.bench.period) -ℤ strobe.setup) +ℤ pos 1) → IsWithin (pos 0) (pos 1000000000000000) turned → IsWithin (negsuc 2000000000) (pos 1000001000000000) begins
    begins_within begins turned e within =
        let (port, is, used) = output in
        let fits = strobe_fits design set_up jtls port strobe used in
        let a = within.from in
        let b = within.to in
        let o = fits.0.from in
        let p = fits.0.to in
        let s = fits.2.from in
        let u = fits.2.to in
        let f = set_up.bench_fits.period.from in
        let t = set_up.bench_fits.period.to in record { from = omega (arith, ints); to = omega (arith, ints) }

    -- where the zone begins, as it is passed on
    pub begins_shown : (result turned shown period : ℤ) → result ≡ ((((strobe.offset +ℤ shown) -ℤ period) -ℤ strobe.setup) +ℤ pos 1) → shown ≡ turned → period ≡ design.bench.period → IsWithin (pos 0) (pos 1000000000000000) turned →
        (to_z w64 (of_z w64 result) ≡ ((((strobe.offset +ℤ turned) -ℤ design.bench.period) -ℤ strobe.setup) +ℤ pos 1)) × IsWithin (negsuc 2000000000) (pos 1000001000000000) (to_z w64 (of_z w64 result))
    begins_shown result turned shown period e t p within =
        let is : result ≡ ((((strobe.offset +ℤ turned) -ℤ design.bench.period) -ℤ strobe.setup) +ℤ pos 1) =
        e ∙ ap (λ (z : ℤ). (((strobe.offset +ℤ z) -ℤ period) -ℤ strobe.setup) +ℤ pos 1) t ∙ ap (λ (z : ℤ). (((strobe.offset +ℤ turned) -ℤ z) -ℤ strobe.setup) +ℤ pos 1) p in
        let there = begins_within result turned is within in
        let a = there.from in
        let b = there.to in
        let fits : SFits w64 result = omega (arith, ints) in
        let whole = to_z-of_z w64 result fits in (whole ∙ is, subst (λ (z : ℤ). IsWithin (negsuc 2000000000) (pos 1000001000000000) z) (sym whole) there)

    -- the same of where the zone ends
    pub ends_shown : (result turned shown period : ℤ) → result ≡ (((strobe.offset +ℤ strobe.hold) +ℤ shown) -ℤ period) → shown ≡ turned → period ≡ design.bench.period → IsWithin (pos 0) (pos 1000000000000000) turned →
        (to_z w64 (of_z w64 result) ≡ (((strobe.offset +ℤ strobe.hold) +ℤ turned) -ℤ design.bench.period))
    ends_shown result turned shown period e t p within =
        let is : result ≡ (((strobe.offset +ℤ strobe.hold) +ℤ turned) -ℤ design.bench.period) =
        e ∙ ap (λ (z : ℤ). ((strobe.offset +ℤ strobe.hold) +ℤ z) -ℤ period) t ∙ ap (λ (z : ℤ). ((strobe.offset +ℤ strobe.hold) +ℤ turned) -ℤ z) p in
        let (port, at, used) = output in
        let fits = strobe_fits design set_up jtls port strobe used in
        let a = within.from in
        let b = within.to in
        let o = fits.0.from in
        let q = fits.0.to in
        let h = fits.3.from in
        let u = fits.3.to in
        let f = set_up.bench_fits.period.from in
        let g = set_up.bench_fits.period.to in
        let small : SFits w64 result = omega (arith, ints) in to_z-of_z w64 result small ∙ is

    pub first_shown : (reach : Reach) → Reaches design net reach → IsSmall 100001 reach → (q : ℕ) → IsStepCount design.bench.period strobe reach.high q → (turned begins low spare passed : ℤ) → turned ≡ (pos q *ℤ design.bench.period) →
        begins ≡ ((((strobe.offset +ℤ turned) -ℤ design.bench.period) -ℤ strobe.setup) +ℤ pos 1) → low ≡ reach.low → passed ≡ spare → (reach.low +ℤ design.bench.period) <ℤ ((strobe.offset +ℤ strobe.hold) +ℤ turned) →
        IsSpare begins low spare → (arcs : List PathArc) (delays : List ℤ) → IsRaisedPath design net passed arcs delays → (p n : ℕ) → p + q ≡ suc n → (p ≡ 0) ⊎ (n ≡ 0) →
        IsFirstAt design pin (record { arcs = arcs; delays = delays; number = p; ends = pin }) n
    first_shown reach reaches small q steps turned begins low spare passed t b l s offends is_spare arcs delays path p n apart zero =
        let (port, is, used) = output in
        first_at design set_up jtls pin port net strobe is used reach reaches q steps (subst (λ (z : ℤ). (reach.low +ℤ design.bench.period) <ℤ ((strobe.offset +ℤ strobe.hold) +ℤ z)) t offends) small.order p n apart zero spare
        (subst (λ (z : ℤ). IsSpare z reach.low spare) (b ∙ ap (λ (z : ℤ). (((strobe.offset +ℤ z) -ℤ design.bench.period) -ℤ strobe.setup) +ℤ pos 1) t) (subst (λ (z : ℤ). IsSpare begins z spare) l is_spare))
        arcs delays path.route (subst (λ (z : ℤ). (bounds : List (ℤ × ℤ)) → AllZip (HasBounds design) arcs bounds → delays ≡ raise z bounds) s path.raised)
