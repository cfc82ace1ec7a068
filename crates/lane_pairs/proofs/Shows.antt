-- The pulses that are printed of a pair.
use Rattle.std.proofs.Common.{◌≡◌, ◌⊎◌, ℕ, zero, suc, ◌<◌, ℤ, pos, negsuc, ◌-ℤ◌, ◌*ℤ◌, List, [], ◌∷◌, get_or, take, refl, sym, ap, subst, arith}
use Rattle.std.proofs.lemmas.Int.{ints}
use Rattle.std.specs.List.{AllZip}
use Rattle.rsfq_ids.specs.declared.offence.PathArc.{PathArc}
use Rattle.rsfq_ids.specs.declared.offence.PathPick.{PathPick}
use Rattle.rsfq_ids.specs.declared.circuit.Strobe.{Strobe}
use Rattle.rsfq_ids.specs.WellFormed.{IsTime}
use Rattle.rsfq_ids.specs.Design.{Design}
use Rattle.rsfq_ids.specs.Time.{IsWithin, total}
use Rattle.rsfq_ids.specs.Path.{IsPathTo, IsDelay, SameDelays}
use Rattle.pulse_pairs.specs.declared.meeting.Interval.{Interval}
use Rattle.pulse_pairs.specs.Choice.{IsArc, AreLaneIntervals, ShareArcs, IsArcSpread, MayTake, AreChosen, SpreadsAreExact}
use Rattle.lane_pairs.specs.Arcs.{HasInterval, HaveIntervals, IsSharedAt}
use Rattle.lane_pairs.specs.Pulses.{ArePair, AreShown, AreChosenOn, HaveDelays, HaveStrobeDelays, IsChosenOn, IsStrobePair, IsStrobeShown, strobe_interval}
use Rattle.lane_pairs.proofs.Pulses.{difference_of, times_between}
use Rattle.lane_pairs.proofs.Intervals.{zip_take, zip_length, intervals_one, intervals_there, delays_within, delays_may}
use Rattle.lane_pairs.proofs.Common.{shares_taken, taken_shares, shared_one}

module _ (design : Design) (x y : List PathArc) where
  -- ---- of the intervals

  pub share_arcs : (shared : ℕ) (difference : ℤ) (own others : List Interval) → HaveDelays design shared x y difference → HaveIntervals design x own → HaveIntervals design y others → ShareArcs shared own others
  share_arcs shared difference own others have has has' =
      let n = zip_length (HasInterval design) x own has in
      let m = zip_length (HasInterval design) y others has' in
      let a = have.first in
      let b = have.second in
      record {
        first = omega arith;
        second = omega arith;
        same = intervals_one design (take shared y) (take shared own) (take shared others) (subst (λ (arcs : List PathArc). HaveIntervals design arcs (take shared own)) have.same (zip_take (HasInterval design) shared x own has)) (zip_take (HasInterval design) shared y others has');
      }

  pub within_spread : SpreadsAreExact → (shared : ℕ) (difference : ℤ) (own others : List Interval) (spread : Interval) → AreLaneIntervals own → AreLaneIntervals others → HaveDelays design shared x y difference → HaveIntervals design x own → HaveIntervals design y others → IsArcSpread shared own others spread →
      IsWithin spread.low spread.high difference
  within_spread exact shared difference own others spread lane lane' have has has' is =
      (exact shared own others spread difference lane lane' (share_arcs shared difference own others have has has') is).0.1
      (have.delays, have.ends, record { first = delays_within design x own have.delays has have.first_may; second = delays_within design y others have.ends has' have.second_may; agree = have.agree }, have.meets)

  pub chosen_on : (shared : ℕ) (difference : ℤ) (own others : List Interval) (delays ends : List ℤ) → HaveIntervals design x own → HaveIntervals design y others → AreChosen shared own others difference delays ends → AreChosenOn design shared x y difference delays ends
  chosen_on shared difference own others delays ends has has' chosen = λ own' others' is is'.
      subst (λ (zs : List Interval). AreChosen shared own' zs difference delays ends) (intervals_one design y others others' has' is')
      (subst (λ (zs : List Interval). AreChosen shared zs others difference delays ends) (intervals_one design x own own' has is) chosen)

  -- ---- of the pulses

  module _ (at to : ℕ) where
    first_may : (apart difference : ℤ) (first second : PathPick) → ArePair design x at y to apart difference first second → AllZip (IsDelay design) x first.delays
    first_may apart difference first second pair = subst (λ (arcs : List PathArc). AllZip (IsDelay design) arcs first.delays) pair.first_arcs pair.first_pick.delays

    second_may : (apart difference : ℤ) (first second : PathPick) → ArePair design x at y to apart difference first second → AllZip (IsDelay design) y second.delays
    second_may apart difference first second pair = subst (λ (arcs : List PathArc). AllZip (IsDelay design) arcs second.delays) pair.second_arcs pair.second_pick.delays

    sums : (apart difference : ℤ) (first second : PathPick) → ArePair design x at y to apart difference first second → (total first.delays -ℤ total second.delays) ≡ (difference -ℤ (apart *ℤ design.bench.period))
    sums apart difference first second pair = let e = difference_of design x at y to apart difference first second pair in omega (arith, ints)

    none_shared : (apart difference : ℤ) (shared : ℕ) (first second : PathPick) → shared ≡ 0 → ArePair design x at y to apart difference first second → HaveDelays design shared x y (difference -ℤ (apart *ℤ design.bench.period))
    none_shared apart difference shared first second none pair = subst (λ (k : ℕ). HaveDelays design k x y (difference -ℤ (apart *ℤ design.bench.period))) (sym none) (record {
      first = omega arith;
      second = omega arith;
      same = refl;
      delays = first.delays;
      ends = second.delays;
      first_may = first_may apart difference first second pair;
      second_may = second_may apart difference first second pair;
      agree = refl;
      meets = sums apart difference first second pair;
    })

    pub have_delays : (apart difference : ℤ) (shared : ℕ) (first second : PathPick) → IsSharedAt apart x y shared → ArePair design x at y to apart difference first second → HaveDelays design shared x y (difference -ℤ (apart *ℤ design.bench.period))
    have_delays (pos zero) difference shared first second common pair =
        let numbers = pair.numbers in
        let one : first.number ≡ second.number = omega (arith, ints) in
        let same : SameDelays x first.delays y second.delays = subst (λ (arcs : List PathArc). SameDelays arcs first.delays y second.delays) pair.first_arcs (subst (λ (arcs : List PathArc). SameDelays first.arcs first.delays arcs second.delays) pair.second_arcs (pair.agree one)) in
        let may = first_may (pos zero) difference first second pair in
        let may' = second_may (pos zero) difference first second pair in
        record {
          first = common.first;
          second = common.second;
          same = common.same;
          delays = first.delays;
          ends = second.delays;
          first_may = may;
          second_may = may';
          agree = shares_taken shared x first.delays y second.delays common (zip_length (IsDelay design) x first.delays may) (zip_length (IsDelay design) y second.delays may') same;
          meets = sums (pos zero) difference first second pair;
        }
    have_delays (pos (suc n)) difference shared first second common pair = none_shared (pos (suc n)) difference shared first second common pair
    have_delays (negsuc n) difference shared first second common pair = none_shared (negsuc n) difference shared first second common pair

    agree_at : (apart : ℤ) (shared p n : ℕ) (delays ends : List ℤ) → IsSharedAt apart x y shared → (pos p -ℤ pos n) ≡ apart → take shared delays ≡ take shared ends → p ≡ n → SameDelays x delays y ends
    agree_at (pos zero) shared p n delays ends common numbers agree one = taken_shares shared x delays y ends common agree
    agree_at (pos (suc k)) shared p n delays ends common numbers agree one = absurd (omega (arith, ints))
    agree_at (negsuc k) shared p n delays ends common numbers agree one = absurd (omega (arith, ints))

    -- the two pulses that are made
    pub shown : (apart difference : ℤ) (shared : ℕ) (old_first old_second first second : PathPick) → ArePair design x at y to apart difference old_first old_second → IsSharedAt apart x y shared → AreChosenOn design shared x y (difference -ℤ (apart *ℤ design.bench.period)) first.delays second.delays →
        first.arcs ≡ x → second.arcs ≡ y → first.ends ≡ at → second.ends ≡ to → (first.number ≡ 0) ⊎ (second.number ≡ 0) → (pos first.number -ℤ pos second.number) ≡ apart → AreShown design x at y to apart difference first second
    shown apart difference shared old_first old_second first second pair common on first_arcs second_arcs first_ends second_ends one_zero numbers =
        let (own, has) = intervals_there design x old_first.delays (first_may apart difference old_first old_second pair) in
        let (others, has') = intervals_there design y old_second.delays (second_may apart difference old_first old_second pair) in
        let chosen = on own others has has' in
        let may = delays_may design x own first.delays has chosen.together.first in
        let may' = delays_may design y others second.delays has' chosen.together.second in
        let path : IsPathTo design x at = subst (λ (arcs : List PathArc). IsPathTo design arcs at) pair.first_arcs (subst (λ (pin : ℕ). IsPathTo design old_first.arcs pin) pair.first_ends pair.first_pick.path) in
        let path' : IsPathTo design y to = subst (λ (arcs : List PathArc). IsPathTo design arcs to) pair.second_arcs (subst (λ (pin : ℕ). IsPathTo design old_second.arcs pin) pair.second_ends pair.second_pick.path) in
        let meets = chosen.meets in
        let turned = times_between first.number second.number apart design.bench.period numbers in
        record {
          pair = record {
            first_pick = record {
              path = subst (λ (arcs : List PathArc). IsPathTo design arcs first.ends) (sym first_arcs) (subst (λ (pin : ℕ). IsPathTo design x pin) (sym first_ends) path);
              delays = subst (λ (arcs : List PathArc). AllZip (IsDelay design) arcs first.delays) (sym first_arcs) may;
            };
            second_pick = record {
              path = subst (λ (arcs : List PathArc). IsPathTo design arcs second.ends) (sym second_arcs) (subst (λ (pin : ℕ). IsPathTo design y pin) (sym second_ends) path');
              delays = subst (λ (arcs : List PathArc). AllZip (IsDelay design) arcs second.delays) (sym second_arcs) may';
            };
            first_arcs = first_arcs;
            second_arcs = second_arcs;
            first_ends = first_ends;
            second_ends = second_ends;
            agree = λ one.
                subst (λ (arcs : List PathArc). SameDelays arcs first.delays second.arcs second.delays) (sym first_arcs)
                (subst (λ (arcs : List PathArc). SameDelays x first.delays arcs second.delays) (sym second_arcs) (agree_at apart shared first.number second.number first.delays second.delays common numbers chosen.together.agree one));
            numbers = numbers;
            times = omega (arith, ints);
          };
          zero = one_zero;
          chosen = λ other is.
              subst (λ (k : ℕ). AreChosenOn design k x y (difference -ℤ (apart *ℤ design.bench.period)) first.delays second.delays) (shared_one apart shared other x y common is) on;
        }

-- ---- at an output

module _ (design : Design) (x : List PathArc) (strobe : Strobe) where
  pub strobe_lane : IsTime strobe.offset → AreLaneIntervals (strobe_interval strobe ∷ [])
  strobe_lane time = record { each = one; few = omega arith }
    where
      one : (k : ℕ) (d : Interval) → k < 1 → IsArc (get_or (strobe_interval strobe ∷ []) k d)
      one zero d l = let a = time.from in let b = time.to in record { natural = omega (arith, ints); order = omega (arith, ints); most = omega (arith, ints) }
      one (suc k) d l = absurd (omega arith)

  pub share_none : (own : List Interval) → ShareArcs 0 own (strobe_interval strobe ∷ [])
  share_none own = record { first = omega arith; second = omega arith; same = refl }

  pub strobe_spread : SpreadsAreExact → (difference : ℤ) (own : List Interval) (spread : Interval) → AreLaneIntervals own → IsTime strobe.offset → HaveStrobeDelays design x strobe difference → HaveIntervals design x own → IsArcSpread 0 own (strobe_interval strobe ∷ []) spread → IsWithin spread.low spread.high difference
  strobe_spread exact difference own spread lane time have has is =
      let meets = have.meets in
      (exact 0 own (strobe_interval strobe ∷ []) spread difference lane (strobe_lane time) (share_none own) is).0.1
      (have.delays, strobe.offset ∷ [], record { first = delays_within design x own have.delays has have.may; second = (record { from = omega (arith, ints); to = omega (arith, ints) }, tt); agree = refl }, omega (arith, ints))

  pub strobe_chosen : (difference : ℤ) (own : List Interval) (delays ends : List ℤ) → HaveIntervals design x own → AreChosen 0 own (strobe_interval strobe ∷ []) difference delays ends → IsChosenOn design x strobe difference delays
  strobe_chosen difference own delays ends has chosen = λ own' is. (ends, subst (λ (zs : List Interval). AreChosen 0 zs (strobe_interval strobe ∷ []) difference delays ends) (intervals_one design x own own' has is) chosen)

  module _ (at : ℕ) where
    strobe_may : (apart difference : ℤ) (pulse : PathPick) (number : ℕ) → IsStrobePair design x at strobe apart difference pulse number → AllZip (IsDelay design) x pulse.delays
    strobe_may apart difference pulse number pair = subst (λ (arcs : List PathArc). AllZip (IsDelay design) arcs pulse.delays) pair.arcs pair.pick.delays

    pub have_strobe : (apart difference : ℤ) (pulse : PathPick) (number : ℕ) → IsStrobePair design x at strobe apart difference pulse number → HaveStrobeDelays design x strobe (difference -ℤ (apart *ℤ design.bench.period))
    have_strobe apart difference pulse number pair = record {
      delays = pulse.delays;
      may = strobe_may apart difference pulse number pair;
      meets = (let e = times_between pulse.number number apart design.bench.period pair.numbers in let f = pair.times in omega (arith, ints));
    }

    only_offset : (ends : List ℤ) → AllZip MayTake (strobe_interval strobe ∷ []) ends → total ends ≡ strobe.offset
    only_offset [] may = absurd may
    only_offset (e ∷ []) may = let a = may.0.from in let b = may.0.to in omega (arith, ints)
    only_offset (e ∷ f ∷ ends) may = absurd may.1

    pub strobe_shown : (apart difference : ℤ) (old pulse : PathPick) (before number : ℕ) → IsStrobePair design x at strobe apart difference old before → IsChosenOn design x strobe (difference -ℤ (apart *ℤ design.bench.period)) pulse.delays → pulse.arcs ≡ x → pulse.ends ≡ at →
        (pulse.number ≡ 0) ⊎ (number ≡ 0) → (pos pulse.number -ℤ pos number) ≡ apart → IsStrobeShown design x at strobe apart difference pulse number
    strobe_shown apart difference old pulse before number pair on arcs_are ends_are one_zero numbers =
        let (own, has) = intervals_there design x old.delays (strobe_may apart difference old before pair) in
        let (ends, chosen) = on own has in
        let may = delays_may design x own pulse.delays has chosen.together.first in
        let path : IsPathTo design x at = subst (λ (arcs : List PathArc). IsPathTo design arcs at) pair.arcs (subst (λ (pin : ℕ). IsPathTo design old.arcs pin) pair.ends pair.pick.path) in
        let offset = only_offset ends chosen.together.second in
        let meets = chosen.meets in
        let turned = times_between pulse.number number apart design.bench.period numbers in
        record {
          pair = record {
            pick = record {
              path = subst (λ (arcs : List PathArc). IsPathTo design arcs pulse.ends) (sym arcs_are) (subst (λ (pin : ℕ). IsPathTo design x pin) (sym ends_are) path);
              delays = subst (λ (arcs : List PathArc). AllZip (IsDelay design) arcs pulse.delays) (sym arcs_are) may;
            };
            arcs = arcs_are;
            ends = ends_are;
            numbers = numbers;
            times = omega (arith, ints);
          };
          zero = one_zero;
          chosen = on;
        }

pub fixed_is : (strobe : Strobe) (z : ℤ) → z ≡ strobe.offset → (record { low = z; high = z } ∷ []) ≡ (strobe_interval strobe ∷ [])
fixed_is strobe z e = ap (λ (w : ℤ). let made : List Interval = record { low = w; high = w } ∷ [] in made) e
