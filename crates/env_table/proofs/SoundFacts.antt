-- The uses that lines give fit the bits, and make a well-formed bench.
use Rattle.std.proofs.Common.{◌≡◌, ◌∙◌, ℕ, zero, suc, ◌<◌, ◌==◌, ◌||◌, ◌&&◌, Bool, true, false, not, cond, sym, refl, ap, subst, arith, ℤ, ◌<ℤ◌, w64, to_z, of_z, List, [], ◌∷◌, ◌++◌, length, map, get_or, Option, Some, None, is_some, eqb-true, eq-eqb}
use Rattle.std.specs.Prelude.{int_lt, slice_get}
use Rattle.std.specs.Option.{option_map_or}
use Rattle.std.specs.List.{All, list_all, list_any}
use Rattle.std.proofs.lemmas.Int.{ints, to_z-of_z}
use Rattle.std.proofs.lemmas.List.{get_or-map, length-map}
use Rattle.std.proofs.lemmas.List.Elements.{All-append, All-cons, All-nil}
use Rattle.std.proofs.lemmas.List.Folds.{list_any-append}
use Rattle.std.proofs.lemmas.Option.{get_or_from_slice_get, slice_get-get_or, slice_get_within}
use Rattle.rsfq_ids.specs.declared.circuit.Bench.{Bench}
use Rattle.rsfq_ids.specs.declared.circuit.Flat.{Flat}
use Rattle.rsfq_ids.specs.declared.circuit.PortBit.{PortBit}
use Rattle.rsfq_ids.specs.declared.circuit.PortUse.{PortUse}
use Rattle.rsfq_ids.specs.declared.circuit.PortUse.TheVariants as port_use
use Rattle.rsfq_ids.specs.WellFormed.{FitsUse as FitsBench, IsBench, IsPositiveTime, IsTime}
use Rattle.env_table.specs.declared.env.EnvLine.{EnvLine}
use Rattle.env_table.specs.declared.uses.ClockBit.{ClockBit}
use Rattle.env_table.specs.Names.{bits_of}
use Rattle.env_table.specs.Lines.{FitsUse}
use Rattle.env_table.specs.Binding.{clocks_as, fits_direction, is_output, is_within, strobe_fault}
use Rattle.env_table.specs.Bound.{AreSound, HasTimes, line_fault_in}
use Rattle.env_table.proofs.BindFacts.{Sets, directed, no_use, unused}
use Rattle.env_table.proofs.FaultFacts.{each_within}
use Rattle.env_table.proofs.PortFacts.{bits_below}

-- what all pass, each passes
each_passes : (p : ℕ → Bool) (xs : List ℕ) (x : ℕ) → list_all p xs ≡ true → list_any (λ y. y == x) xs ≡ true → p x ≡ true
each_passes p [] x all there = cc
each_passes p (y ∷ ys) x all there = go (y == x) refl (p y) refl all there (λ later more. each_passes p ys x later more)
  where
    go : (same : Bool) → (y == x) ≡ same → (b : Bool) → p y ≡ b → (b && list_all p ys) ≡ true → (same || list_any (λ y. y == x) ys) ≡ true
        → (list_all p ys ≡ true → list_any (λ y. y == x) ys ≡ true → p x ≡ true) → p x ≡ true
    go same is false passes all there later = cc
    go true is true passes all there later = ap p (sym (eqb-true y x is)) ∙ passes
    go false is true passes all there later = later all there

-- an element is among the elements
is_there : (xs : List ℕ) (k d : ℕ) → k < length xs → list_any (λ y. y == get_or xs k d) xs ≡ true
is_there [] k d less = absurd (omega arith)
is_there (x ∷ xs) zero d less = let same : (x == x) ≡ true = eq-eqb x x refl in rw same refl
is_there (x ∷ xs) (suc k) d less = or_right (x == get_or xs k d) (list_any (λ y. y == get_or xs k d) xs) (is_there xs k d (omega arith))
  where
    or_right : (a b : Bool) → b ≡ true → (a || b) ≡ true
    or_right true b e = refl
    or_right false b e = e

some_injective : {X : Type 0} (x y : X) → Some x ≡ Some y → x ≡ y
some_injective x y e = cc

fits_has : (used : PortUse) (jitter : ℤ) → FitsUse used jitter → HasTimes used
fits_has port_use.Clock jitter fits = tt
fits_has (port_use.Arrival low high) jitter fits = (fits.0, fits.1, fits.2)
fits_has (port_use.Strobed strobe) jitter fits = (fits.0, fits.1, fits.2)

pub sound_none : (ports : List PortBit) (uses : List (Option PortUse)) → length uses ≡ length ports → ((bit : ℕ) → get_or uses bit None ≡ None) → AreSound ports uses []
sound_none ports uses many none = record {
  count = many;
  directions = λ bit used less is. let bad = sym (none bit) ∙ is in cc;
  times = λ bit used less is. let bad = sym (none bit) ∙ is in cc;
  there = All-nil (λ clock. clock.port < length uses);
  clock_used = All-nil (λ clock. get_or uses clock.port None ≡ Some port_use.Clock);
  jitter = All-nil (λ clock. IsTime clock.jitter);
  clock_named = λ bit less is. let bad = sym (none bit) ∙ is in cc;
}

-- what holds of all clocks that a line names
clocks_all : (P : ClockBit → Type 0) (used : PortUse) (jitter : ℤ) (bits : List ℕ)
    → (used ≡ port_use.Clock → (k d : ℕ) → k < length bits → P (record { port = get_or bits k d; jitter = jitter })) → All P (clocks_as used jitter bits)
clocks_all P port_use.Clock jitter [] each = All-nil P
clocks_all P port_use.Clock jitter (bit ∷ bits) each =
    All-cons P (record { port = bit; jitter = jitter }) (clocks_as port_use.Clock jitter bits) (each refl 0 bit (omega arith)) (clocks_all P port_use.Clock jitter bits (λ is k d less. each is (suc k) d (omega arith)))
clocks_all P (port_use.Arrival low high) jitter bits each = All-nil P
clocks_all P (port_use.Strobed strobe) jitter bits each = All-nil P

clocks_named : (jitter : ℤ) (bits : List ℕ) (bit : ℕ) → list_any (λ other. other == bit) bits ≡ true → list_any (λ clock. clock.port == bit) (clocks_as port_use.Clock jitter bits) ≡ true
clocks_named jitter [] bit e = cc
clocks_named jitter (other ∷ bits) bit e = go (other == bit) e (λ later. clocks_named jitter bits bit later)
  where
    go : (b : Bool) → (b || list_any (λ other. other == bit) bits) ≡ true → (list_any (λ other. other == bit) bits ≡ true → list_any (λ clock. clock.port == bit) (clocks_as port_use.Clock jitter bits) ≡ true)
        → (b || list_any (λ clock. clock.port == bit) (clocks_as port_use.Clock jitter bits)) ≡ true
    go true e later = refl
    go false e later = later e

or_left : (a b : Bool) → a ≡ true → (a || b) ≡ true
or_left true b e = refl
or_left false b e = cc

or_second : (a b : Bool) → b ≡ true → (a || b) ≡ true
or_second true b e = refl
or_second false b e = e

-- one more line that binds
pub sound_more : (ports : List PortBit) (line : EnvLine) (old new : List (Option PortUse)) (clocks added : List ClockBit)
    → AreSound ports old clocks → line_fault_in ports old line ≡ None → FitsUse line.used line.jitter → length new ≡ length old → Sets ports line old new
    → added ≡ clocks ++ clocks_as line.used line.jitter (bits_of ports line.port) → AreSound ports new added
sound_more ports line old new clocks added sound none fits many sets is = record {
  count = many ∙ sound.count;
  directions = λ bit used less some. by_line (λ used. fits_direction used (is_output ports bit) ≡ true) bit used less some
      (λ named. each_passes (λ bit. fits_direction line.used (is_output ports bit)) (bits_of ports line.port) bit (directed ports old line none) named) (sound.directions bit used);
  times = λ bit used less some. by_line HasTimes bit used less some (λ named. fits_has line.used line.jitter fits) (sound.times bit used);
  there = subst (λ clocks. All (λ clock. clock.port < length new) clocks) (sym is)
      (All-append (λ clock. clock.port < length new) clocks (clocks_as line.used line.jitter bits)
      (λ k d less. let below = sound.there k d less in omega arith)
      (clocks_all (λ clock. clock.port < length new) line.used line.jitter bits (λ clock k d less. let below = bits_below ports line.port k d less in omega (arith, sound.count))));
  clock_used = subst (λ clocks. All (λ clock. get_or new clock.port None ≡ Some port_use.Clock) clocks) (sym is)
      (All-append (λ clock. get_or new clock.port None ≡ Some port_use.Clock) clocks (clocks_as line.used line.jitter bits)
      (λ k d less. kept (get_or clocks k d).port port_use.Clock (sound.there k d less) (sound.clock_used k d less))
      (clocks_all (λ clock. get_or new clock.port None ≡ Some port_use.Clock) line.used line.jitter bits
      (λ clock k d less. let below = bits_below ports line.port k d less in
      sets (get_or bits k d) (omega (arith, sound.count)) ∙ (ap (λ b. cond b (Some line.used) (get_or old (get_or bits k d) None)) (is_there bits k d less) ∙ ap (λ (used : PortUse). Some used) clock))));
  jitter = subst (λ clocks. All (λ clock. IsTime clock.jitter) clocks) (sym is)
      (All-append (λ clock. IsTime clock.jitter) clocks (clocks_as line.used line.jitter bits) sound.jitter
      (clocks_all (λ clock. IsTime clock.jitter) line.used line.jitter bits (λ clock k d less. subst (λ used. FitsUse used line.jitter) clock fits)));
  clock_named = λ bit less some. ap (list_any (λ clock. clock.port == bit)) is
      ∙ (list_any-append (λ clock. clock.port == bit) clocks (clocks_as line.used line.jitter bits) ∙ named_clock bit less some);
}
  where
    bits : List ℕ
    bits = bits_of ports line.port

    -- a use that was there stays
    kept : (bit : ℕ) (used : PortUse) → bit < length old → get_or old bit None ≡ Some used → get_or new bit None ≡ Some used
    kept bit used less some = go (list_any (λ other. other == bit) bits) refl
      where
        go : (b : Bool) → list_any (λ other. other == bit) bits ≡ b → get_or new bit None ≡ Some used
        go true named =
            let free = no_use old bits bit (unused ports old line none) named in
            let bad : true ≡ false = sym (ap (λ (o : Option PortUse). is_some o) some) ∙ free in cc
        go false named = sets bit less ∙ (ap (λ b. cond b (Some line.used) (get_or old bit None)) named ∙ some)

    -- a use is the line's or was there
    by_line : (P : PortUse → Type 0) (bit : ℕ) (used : PortUse) → bit < length new → get_or new bit None ≡ Some used
        → (list_any (λ other. other == bit) bits ≡ true → P line.used) → (bit < length old → get_or old bit None ≡ Some used → P used) → P used
    by_line P bit used less some of_line before = go (list_any (λ other. other == bit) bits) refl
      where
        go : (b : Bool) → list_any (λ other. other == bit) bits ≡ b → P used
        go true named =
            let now : Some line.used ≡ Some used = sym (sets bit (omega arith) ∙ ap (λ b. cond b (Some line.used) (get_or old bit None)) named) ∙ some in
            subst P (some_injective line.used used now) (of_line named)
        go false named = before (omega arith) (sym (sets bit (omega arith) ∙ ap (λ b. cond b (Some line.used) (get_or old bit None)) named) ∙ some)

    named_clock : (bit : ℕ) → bit < length new → get_or new bit None ≡ Some port_use.Clock
        → (list_any (λ clock. clock.port == bit) clocks || list_any (λ clock. clock.port == bit) (clocks_as line.used line.jitter bits)) ≡ true
    named_clock bit less some = go (list_any (λ other. other == bit) bits) refl
      where
        go : (b : Bool) → list_any (λ other. other == bit) bits ≡ b
            → (list_any (λ clock. clock.port == bit) clocks || list_any (λ clock. clock.port == bit) (clocks_as line.used line.jitter bits)) ≡ true
        go true named =
            let now : Some line.used ≡ Some port_use.Clock = sym (sets bit (omega arith) ∙ ap (λ b. cond b (Some line.used) (get_or old bit None)) named) ∙ some in
            let clock : line.used ≡ port_use.Clock = some_injective line.used port_use.Clock now in
            or_second (list_any (λ clock. clock.port == bit) clocks) (list_any (λ clock. clock.port == bit) (clocks_as line.used line.jitter bits))
            (subst (λ used. list_any (λ clock. clock.port == bit) (clocks_as used line.jitter bits) ≡ true) (sym clock) (clocks_named line.jitter bits bit named))
        go false named =
            or_left (list_any (λ clock. clock.port == bit) clocks) (list_any (λ clock. clock.port == bit) (clocks_as line.used line.jitter bits))
            (sound.clock_named bit (omega arith) (sym (sets bit (omega arith) ∙ ap (λ b. cond b (Some line.used) (get_or old bit None)) named) ∙ some))

-- ---- the bench

-- a time is kept by a machine's number
pub time_kept : (z : ℤ) → IsTime z → to_z w64 (of_z w64 z) ≡ z
time_kept z time = to_z-of_z w64 z (search (arith, ints))

pub is_time : (z : ℤ) → IsPositiveTime z → IsTime z
is_time z time = grind (arith, ints)

less_from : (x y : ℤ) → int_lt x y ≡ true → x <ℤ y
less_from x y e = grind (arith, ints)

only_one : (one other : ℕ) → ((one == other) || false) ≡ true → other ≡ one
only_one one other e = go (one == other) refl e
  where
    go : (b : Bool) → (one == other) ≡ b → (b || false) ≡ true → other ≡ one
    go true is e = sym (eqb-true one other is)
    go false is e = cc

not_output : (b : Bool) → not b ≡ true → b ≡ false
not_output true e = cc
not_output false e = refl

-- lines that bind without a fault make a well-formed bench
pub sound_bench : (flat : Flat) (bench : Bench) (uses : List (Option PortUse)) → IsPositiveTime bench.period → map (λ used. Some used) bench.uses ≡ uses
    → AreSound flat.ports uses (record { port = bench.clock; jitter = bench.jitter } ∷ []) → strobe_fault bench.period flat.ports uses ≡ None → IsBench flat bench
sound_bench flat bench uses period is sound within = record {
  ports = same ∙ sound.count;
  uses = λ at port used there used_is. fits at port used there used_is;
  clock = slice_get-get_or bench.uses bench.clock port_use.Clock (omega (arith, same, clock_there))
      ∙ sym (get_or-map (λ (used : PortUse). Some used) bench.uses bench.clock port_use.Clock None (omega (arith, same, clock_there))) ∙ (ap (λ (xs : List (Option PortUse)). get_or xs bench.clock None) is ∙ clock_is);
  period = period;
  jitter = sound.jitter 0 (record { port = bench.clock; jitter = bench.jitter }) (omega arith);
}
  where
    same : length bench.uses ≡ length uses
    same = sym (length-map bench.uses (λ (used : PortUse). Some used)) ∙ ap (λ (xs : List (Option PortUse)). length xs) is

    clock_there : bench.clock < length uses
    clock_there = sound.there 0 (record { port = bench.clock; jitter = bench.jitter }) (omega arith)

    clock_is : get_or uses bench.clock None ≡ Some port_use.Clock
    clock_is = sound.clock_used 0 (record { port = bench.clock; jitter = bench.jitter }) (omega arith)

    fits_as : (at : ℕ) (port : PortBit) (used : PortUse) → at < length uses → get_or uses at None ≡ Some used → HasTimes used → fits_direction used port.output ≡ true
        → is_within bench.period (Some used) ≡ true → FitsBench bench at port used
    fits_as at port port_use.Clock less some times direction inside = (only_one bench.clock at (sound.clock_named at less some), not_output port.output direction)
    fits_as at port (port_use.Arrival low high) less some times direction inside = (
      (λ clock. let bad : ◌≡◌ {A = Option PortUse} (Some (port_use.Arrival low high)) (Some port_use.Clock) = sym some ∙ (ap (λ n. get_or uses n None) clock ∙ clock_is) in cc),
      not_output port.output direction,
      times.0,
      times.1,
      times.2,
    )
    fits_as at port (port_use.Strobed strobe) less some times direction inside = (direction, times.0, less_from strobe.offset bench.period inside, times.1, times.2)

    fits : (at : ℕ) (port : PortBit) (used : PortUse) → slice_get flat.ports at ≡ Some port → slice_get bench.uses at ≡ Some used → FitsBench bench at port used
    fits at port used there used_is =
        let less : at < length bench.uses = slice_get_within bench.uses at used used_is in
        let some : get_or uses at None ≡ Some used =
        sym (ap (λ (xs : List (Option PortUse)). get_or xs at None) is) ∙ (get_or-map (λ (used : PortUse). Some used) bench.uses at used None less ∙ ap (λ (used : PortUse). Some used) (get_or_from_slice_get bench.uses at used used used_is)) in
        let below : at < length uses = omega (arith, same) in
        fits_as at port used below some (sound.times at used below some)
        (ap (λ o. fits_direction used (option_map_or (λ (port : PortBit). port.output) o false)) (sym there) ∙ sound.directions at used below some)
        (ap (is_within bench.period) (sym some) ∙ each_within bench.period flat.ports uses at sound.count within below)
