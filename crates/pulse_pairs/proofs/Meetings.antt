-- The first pulses whose difference lies in a zone.
use Rattle.std.proofs.Common.{◌≡◌, ◌↔◌, zero, suc, ℤ, pos, negsuc, ◌+ℤ◌, ◌-ℤ◌, ◌*ℤ◌, ◌≤ℤ◌, ◌<ℤ◌, refl, sym, ap, subst, arith}
use Rattle.std.proofs.lemmas.Int.{ints, clamps, by_lt_z}
use Rattle.std.specs.Prelude.{Option, Some, None, IfSome}
use Rattle.std.specs.Int.{int_max, int_min}
use Rattle.rsfq_ids.specs.Time.{IsWithin}
use Rattle.pulse_pairs.specs.declared.meeting.Interval.{Interval}
use Rattle.pulse_pairs.specs.declared.meeting.Spreads.{Spreads}
use Rattle.pulse_pairs.specs.declared.meeting.Numbers.{Numbers}
use Rattle.pulse_pairs.specs.declared.meeting.Numbers.TheVariants as numbers
use Rattle.pulse_pairs.specs.declared.meeting.Meeting.{Meeting}
use Rattle.pulse_pairs.specs.Pairs.{IsSmall, IsSmallInterval, AreSmall, IsPeriodsUp, IsBetween, IsDifference, Meets, IsFirstMeeting, IsFirst, IsFirstIn, IsFirstFrom, IsFirstBelow, IsOrdered, IsStepCount, MeetingsAreOne, StepCountsAreOne, spread_at}
use Rattle.pulse_pairs.proofs.Times.{times_add, times_one, times_zero, times_mono, few}

-- ---- at one number

pub meet_some : (T : ℤ) (spread zone : Interval) (apart t low high n r : ℤ) → t ≡ (apart *ℤ T) → low ≡ int_max (t +ℤ spread.low) zone.low → high ≡ int_min (t +ℤ spread.high) zone.high → low ≤ℤ high → n ≡ apart → r ≡ low →
    IsFirstIn (λ m. m ≡ apart) T spread zone (Some (record { apart = n; difference = r }))
meet_some T spread zone apart t low high n r turned at_low at_high some same is =
    let e : (n *ℤ T) ≡ (apart *ℤ T) = ap (λ (z : ℤ). z *ℤ T) same in (
      same,
      record { from = omega (arith, ints, clamps); to = omega (arith, ints, clamps) },
      record { from = omega (arith, ints, clamps); to = omega (arith, ints, clamps) },
      λ m d m_is between within. omega (arith, ints),
      λ d between within. (let f = between.from in let g = within.from in omega (arith, ints, clamps)),
    )

pub meet_none : (T : ℤ) (spread zone : Interval) (apart t low high : ℤ) → t ≡ (apart *ℤ T) → low ≡ int_max (t +ℤ spread.low) zone.low → high ≡ int_min (t +ℤ spread.high) zone.high → high <ℤ low → IsFirstIn (λ m. m ≡ apart) T spread zone None
meet_none T spread zone apart t low high turned at_low at_high none = λ m d m_is between within.
    let e : (m *ℤ T) ≡ (apart *ℤ T) = ap (λ (z : ℤ). z *ℤ T) m_is in
    let f = between.from in
    let g = between.to in
    let h = within.from in
    let i = within.to in
    omega (arith, ints, clamps)

-- ---- at the first number that reaches the zone

-- a number that is too low does not reach it
too_low : (T : ℤ) (spread zone : Interval) (reached m d : ℤ) → pos 1 ≤ℤ T → IsPeriodsUp T (zone.low -ℤ spread.high) reached → m <ℤ reached → IsBetween T spread m d → IsWithin zone.low zone.high d → ⊥
too_low T spread zone reached m d period up less between within =
    let near = up.near in
    let mono = times_mono (m +ℤ pos 1) reached T period (omega (arith, ints)) in
    let e = times_add m (pos 1) T in
    let f = times_one T in
    let g = between.to in
    let h = within.from in
    absurd (omega (arith, ints))

-- where a number does not meet the zone though it is high enough for it, no higher one does
too_high : (T : ℤ) (spread zone : Interval) (start m d : ℤ) → pos 1 ≤ℤ T → (zone.low -ℤ spread.high) ≤ℤ (start *ℤ T) → start ≤ℤ m → IsBetween T spread m d → IsWithin zone.low zone.high d → (e : ℤ) × IsBetween T spread start e × IsWithin zone.low zone.high e
too_high T spread zone start m d period reaches above between within =
    let mono = times_mono start m T period above in
    let f = between.from in
    let g = between.to in
    let h = within.from in
    let i = within.to in
    (int_max ((start *ℤ T) +ℤ spread.low) zone.low, record { from = omega (arith, ints, clamps); to = omega (arith, ints, clamps) }, record { from = omega (arith, ints, clamps); to = omega (arith, ints, clamps) })

-- what a number that reaches the zone, and is the least that may be tried, answers is the first
from_there : (T : ℤ) (spread zone : Interval) (start : ℤ) (In : ℤ → Type 0) (found : Option Meeting) → pos 1 ≤ℤ T → (zone.low -ℤ spread.high) ≤ℤ (start *ℤ T) → In start → ((m d : ℤ) → In m → IsBetween T spread m d → IsWithin zone.low zone.high d → start ≤ℤ m) →
    IsFirstIn (λ m. m ≡ start) T spread zone found → IsFirstIn In T spread zone found
from_there T spread zone start In None period reaches inside lowest none = λ m d m_in between within. (let (e, there, here) = too_high T spread zone start m d period reaches (lowest m d m_in between within) between within in none start e refl there here)
from_there T spread zone start In (Some found) period reaches inside lowest (at, between, within, apart, difference) =
    (subst In (sym at) inside, between, within, λ m d m_in there here. (let l = lowest m d m_in there here in omega (arith, ints)), difference)

pub first_from : (T : ℤ) (spread zone : Interval) (reached start : ℤ) (found : Option Meeting) → pos 1 ≤ℤ T → IsPeriodsUp T (zone.low -ℤ spread.high) reached → start ≡ int_max reached (pos 1) → IsFirstIn (λ m. m ≡ start) T spread zone found → IsFirstFrom T spread zone found
first_from T spread zone reached start found period up is first =
    let above : reached ≤ℤ start = omega (arith, ints, clamps) in
    let mono = times_mono reached start T period above in
    let up_to = up.up_to in
    from_there T spread zone start (λ m. pos 1 ≤ℤ m) found period (omega (arith, ints)) (omega (arith, ints, clamps))
    (λ m d one between within. by_lt_z m reached (λ less. absurd (too_low T spread zone reached m d period up less between within)) (λ high. omega (arith, ints, clamps))) first

pub first_below : (T : ℤ) (spread zone : Interval) (reached : ℤ) (found : Option Meeting) → pos 1 ≤ℤ T → IsPeriodsUp T (zone.low -ℤ spread.high) reached → reached <ℤ pos 0 → IsFirstIn (λ m. m ≡ reached) T spread zone found → IsFirstBelow T spread zone found
first_below T spread zone reached found period up negative first =
    from_there T spread zone reached (λ m. m <ℤ pos 0) found period up.up_to negative
    (λ m d below between within. by_lt_z m reached (λ less. absurd (too_low T spread zone reached m d period up less between within)) (λ high. high)) first

pub none_below : (T : ℤ) (spread zone : Interval) (reached : ℤ) → pos 1 ≤ℤ T → IsPeriodsUp T (zone.low -ℤ spread.high) reached → pos 0 ≤ℤ reached → IsFirstBelow T spread zone None
none_below T spread zone reached period up natural = λ m d below between within. too_low T spread zone reached m d period up (omega (arith, ints)) between within

-- the same of values that are shown as they are cast
pub first_is : (T : ℤ) (spread zone : Interval) (start T' start' : ℤ) (found : Option Meeting) → IsFirstIn (λ m. m ≡ start') T' spread zone found → T' ≡ T → start' ≡ start → IsFirstIn (λ m. m ≡ start) T spread zone found
first_is T spread zone start T' start' found first e f =
    subst (λ (z : ℤ). IsFirstIn (λ m. m ≡ z) T spread zone found) f (subst (λ (z : ℤ). IsFirstIn (λ m. m ≡ start') z spread zone found) e first)

-- a start that is a number of periods is small where what it reaches is
pub reached_small : (T time reached : ℤ) → IsWithin (pos 1) (pos 1000000000) T → IsSmall 3 time → IsPeriodsUp T time reached → IsSmall 4 (reached *ℤ T)
reached_small T time reached period small up =
    let a = period.from in
    let b = period.to in
    let c = small.from in
    let d = small.to in
    let e = up.up_to in
    let f = up.near in
    record { from = omega (arith, ints); to = omega (arith, ints) }

pub start_small : (T time reached start : ℤ) → IsWithin (pos 1) (pos 1000000000) T → IsSmall 3 time → IsPeriodsUp T time reached → start ≡ int_max reached (pos 1) → IsSmall 4 (start *ℤ T)
start_small T time reached start period small up is =
    by_lt_z reached (pos 1)
    (λ less.
    (let one : start ≡ pos 1 = omega (arith, ints, clamps) in
    let e : (start *ℤ T) ≡ (pos 1 *ℤ T) = ap (λ (z : ℤ). z *ℤ T) one in
    let f = times_one T in
    let a = period.from in
    let b = period.to in
    record { from = omega (arith, ints); to = omega (arith, ints) }))
    (λ high.
    (let same : start ≡ reached = omega (arith, ints, clamps) in
    let e : (start *ℤ T) ≡ (reached *ℤ T) = ap (λ (z : ℤ). z *ℤ T) same in
    let r = reached_small T time reached period small up in
    let a = r.from in
    let b = r.to in
    record { from = omega (arith, ints); to = omega (arith, ints) }))

-- ---- all numbers

-- which spread holds for a number
between_positive : (T : ℤ) (spreads : Spreads) (m d : ℤ) → pos 1 ≤ℤ m → IsDifference T spreads m d ↔ IsBetween T spreads.apart m d
between_positive T spreads (pos zero) d l = absurd (omega (arith, ints))
between_positive T spreads (pos (suc m)) d l = (λ h. h, λ h. h)
between_positive T spreads (negsuc m) d l = absurd (omega (arith, ints))

between_negative : (T : ℤ) (spreads : Spreads) (m d : ℤ) → m <ℤ pos 0 → IsDifference T spreads m d ↔ IsBetween T spreads.apart m d
between_negative T spreads (pos m) d l = absurd (omega (arith, ints))
between_negative T spreads (negsuc m) d l = (λ h. h, λ h. h)

between_zero : (T : ℤ) (spreads : Spreads) (m d : ℤ) → m ≡ pos 0 → IsDifference T spreads m d ↔ IsBetween T spreads.level m d
between_zero T spreads (pos zero) d l = (λ h. h, λ h. h)
between_zero T spreads (pos (suc m)) d l = absurd (omega (arith, ints))
between_zero T spreads (negsuc m) d l = absurd (omega (arith, ints))

-- where only numbers from 1 on are tried
pub positive : (T : ℤ) (spreads : Spreads) (zone : Interval) (found : Option Meeting) → IsFirstFrom T spreads.apart zone found → IsFirst T spreads zone numbers.Positive found
positive T spreads zone None none = λ m d meets. none m d meets.number ((between_positive T spreads m d meets.number).0 meets.may) meets.inside
positive T spreads zone (Some found) (one, between, within, apart, difference) = record {
  meets = record { number = one; may = (between_positive T spreads found.apart found.difference one).1 between; inside = within };
  least_apart = λ m d meets. apart m d meets.number ((between_positive T spreads m d meets.number).0 meets.may) meets.inside;
  least_difference = λ d meets. difference d ((between_positive T spreads found.apart d one).0 meets.may) meets.inside;
}

-- the least number below 0
pub found_below : (T : ℤ) (spreads : Spreads) (zone : Interval) (found : Meeting) → IsFirstBelow T spreads.apart zone (Some found) → IsFirstMeeting T spreads zone numbers.All found
found_below T spreads zone found (below, between, within, apart, difference) = record {
  meets = record { number = tt; may = (between_negative T spreads found.apart found.difference below).1 between; inside = within };
  least_apart = λ m d meets. by_lt_z m (pos 0) (λ l. apart m d l ((between_negative T spreads m d l).0 meets.may) meets.inside) (λ h. omega (arith, ints));
  least_difference = λ d meets. difference d ((between_negative T spreads found.apart d below).0 meets.may) meets.inside;
}

-- none below 0 is there
none_there : (T : ℤ) (spreads : Spreads) (zone : Interval) (tried : Numbers) (m d : ℤ) → IsFirstBelow T spreads.apart zone None → Meets T spreads zone tried m d → pos 0 ≤ℤ m
none_there T spreads zone tried m d none meets = by_lt_z m (pos 0) (λ l. absurd (none m d l ((between_negative T spreads m d l).0 meets.may) meets.inside)) (λ h. h)

pub found_level : (T : ℤ) (spreads : Spreads) (zone : Interval) (zero_is : ℤ) (found : Meeting) → zero_is ≡ pos 0 → IsFirstBelow T spreads.apart zone None → IsFirstIn (λ m. m ≡ zero_is) T spreads.level zone (Some found) → IsFirstMeeting T spreads zone numbers.All found
found_level T spreads zone zero_is found is none (at, between, within, apart, difference) =
    let here : found.apart ≡ pos 0 = omega (arith, ints) in
    record {
      meets = record { number = tt; may = (between_zero T spreads found.apart found.difference here).1 between; inside = within };
      least_apart = λ m d meets. (let h = none_there T spreads zone numbers.All m d none meets in omega (arith, ints));
      least_difference = λ d meets. difference d ((between_zero T spreads found.apart d here).0 meets.may) meets.inside;
    }

none_level : (T : ℤ) (spreads : Spreads) (zone : Interval) (zero_is m d : ℤ) → zero_is ≡ pos 0 → IsFirstBelow T spreads.apart zone None → IsFirstIn (λ m. m ≡ zero_is) T spreads.level zone None → Meets T spreads zone numbers.All m d → pos 1 ≤ℤ m
none_level T spreads zone zero_is m d is none level meets =
    let natural = none_there T spreads zone numbers.All m d none meets in
    by_lt_z m (pos 1)
    (λ l. (let here : m ≡ pos 0 = omega (arith, ints) in absurd (level m d (omega (arith, ints)) ((between_zero T spreads m d here).0 meets.may) meets.inside)))
    (λ h. h)

pub found_all : (T : ℤ) (spreads : Spreads) (zone : Interval) (zero_is : ℤ) (found : Option Meeting) → zero_is ≡ pos 0 → IsFirstBelow T spreads.apart zone None → IsFirstIn (λ m. m ≡ zero_is) T spreads.level zone None → IsFirstFrom T spreads.apart zone found →
    IsFirst T spreads zone numbers.All found
found_all T spreads zone zero_is None is none level from = λ m d meets.
    let one = none_level T spreads zone zero_is m d is none level meets in from m d one ((between_positive T spreads m d one).0 meets.may) meets.inside
found_all T spreads zone zero_is (Some found) is none level (one, between, within, apart, difference) = record {
  meets = record { number = tt; may = (between_positive T spreads found.apart found.difference one).1 between; inside = within };
  least_apart = λ m d meets. (let high = none_level T spreads zone zero_is m d is none level meets in apart m d high ((between_positive T spreads m d high).0 meets.may) meets.inside);
  least_difference = λ d meets. difference d ((between_positive T spreads found.apart d one).0 meets.may) meets.inside;
}

-- the periods between the numbers that are answered are short, and so these are few
pub turned_apart : (T : ℤ) (spreads : Spreads) (zone : Interval) (tried : Numbers) (found : Option Meeting) → AreSmall spreads → IsSmallInterval 1 zone → IsFirst T spreads zone tried found → IfSome found (λ m. IsSmall 4 (m.apart *ℤ T))
turned_apart T spreads zone tried None small small_zone first = tt
turned_apart T spreads zone tried (Some found) small small_zone first = near (spread_at spreads found.apart) (small_at spreads found.apart small) first.meets.may first.meets.inside
  where
    small_at : (spreads : Spreads) (m : ℤ) → AreSmall spreads → IsSmallInterval 1 (spread_at spreads m)
    small_at spreads (pos zero) small = small.level
    small_at spreads (pos (suc m)) small = small.apart
    small_at spreads (negsuc m) small = small.apart

    near : (spread : Interval) → IsSmallInterval 1 spread → IsBetween T spread found.apart found.difference → IsWithin zone.low zone.high found.difference → IsSmall 4 (found.apart *ℤ T)
    near spread fit between inside =
        let a = fit.low.from in
        let b = fit.low.to in
        let e = fit.high.from in
        let f = fit.high.to in
        let g = small_zone.low.from in
        let h = small_zone.high.to in
        let i = between.from in
        let j = between.to in
        let k = inside.from in
        let l = inside.to in
        record { from = omega (arith, ints); to = omega (arith, ints) }

pub few_apart : (T : ℤ) (found : Option Meeting) → IsWithin (pos 1) (pos 1000000000) T → IfSome found (λ m. IsSmall 4 (m.apart *ℤ T)) → IfSome found (λ m. IsSmall 4 m.apart)
few_apart T None period turned = tt
few_apart T (Some found) period turned = few found.apart T period.from turned

-- ---- steps

-- between a difference and another, all are
pub between_both : (T : ℤ) (spreads : Spreads) (m a b d : ℤ) → IsDifference T spreads m a → IsDifference T spreads m b → a ≤ℤ d → d ≤ℤ b → IsDifference T spreads m d
between_both T spreads m a b d one two l h = let f = one.from in let g = two.to in record { from = omega (arith, ints); to = omega (arith, ints) }

level_is : (T : ℤ) (spreads : Spreads) (m : ℤ) → IsOrdered spreads → IsDifference T spreads m ((m *ℤ T) +ℤ spreads.level.low)
level_is T spreads (pos zero) order = let a = order.level in record { from = omega (arith, ints); to = omega (arith, ints) }
level_is T spreads (pos (suc n)) order = let a = order.level in let b = order.low in let c = order.high in record { from = omega (arith, ints); to = omega (arith, ints) }
level_is T spreads (negsuc n) order = let a = order.level in let b = order.low in let c = order.high in record { from = omega (arith, ints); to = omega (arith, ints) }

pub step_count : (T : ℤ) (spreads : Spreads) (steps : ℤ) → pos 1 ≤ℤ T → IsOrdered spreads → ((m : ℤ) → IsDifference T spreads m (pos 0) → ⊥) → IsPeriodsUp T spreads.level.low steps → IsStepCount T spreads steps
step_count T spreads steps period order apart up = λ m d may. (λ later. after m d may later, λ above. behind m d may above)
  where
    near : (m : ℤ) → pos 0 <ℤ (m +ℤ steps) → pos 0 <ℤ ((m *ℤ T) +ℤ spreads.level.low)
    near m above =
        let mono = times_mono (pos 1 -ℤ steps) m T period (omega (arith, ints)) in
        let e = times_add (pos 1 -ℤ steps) steps T in
        let whole : ((pos 1 -ℤ steps) +ℤ steps) ≡ pos 1 = omega (arith, ints) in
        let f : (((pos 1 -ℤ steps) +ℤ steps) *ℤ T) ≡ (pos 1 *ℤ T) = ap (λ (z : ℤ). z *ℤ T) whole in
        let g = times_one T in
        let h = up.near in
        omega (arith, ints)

    far : (m : ℤ) → (m +ℤ steps) ≤ℤ pos 0 → ((m *ℤ T) +ℤ spreads.level.low) ≤ℤ pos 0
    far m below =
        let mono = times_mono m (pos 0 -ℤ steps) T period (omega (arith, ints)) in
        let e = times_add (pos 0 -ℤ steps) steps T in
        let whole : ((pos 0 -ℤ steps) +ℤ steps) ≡ pos 0 = omega (arith, ints) in
        let f : (((pos 0 -ℤ steps) +ℤ steps) *ℤ T) ≡ (pos 0 *ℤ T) = ap (λ (z : ℤ). z *ℤ T) whole in
        let g = times_zero T in
        let h = up.up_to in
        omega (arith, ints)

    after : (m d : ℤ) → IsDifference T spreads m d → pos 0 <ℤ d → pos 0 <ℤ (m +ℤ steps)
    after m d may later =
        by_lt_z (pos 0) (m +ℤ steps) (λ h. h)
        (λ below. (let low = far m below in absurd (apart m (between_both T spreads m _ d (pos 0) (level_is T spreads m order) may low (omega (arith, ints))))))

    behind : (m d : ℤ) → IsDifference T spreads m d → pos 0 <ℤ (m +ℤ steps) → pos 0 <ℤ d
    behind m d may above =
        by_lt_z (pos 0) d (λ h. h)
        (λ early. (let high = near m above in absurd (apart m (between_both T spreads m d _ (pos 0) may (level_is T spreads m order) early (omega (arith, ints))))))

-- ---- only one

pub meetings_are_one : MeetingsAreOne
meetings_are_one T spreads zone tried found other one two =
    let a = one.least_apart other.apart other.difference two.meets in
    let b = two.least_apart found.apart found.difference one.meets in
    let same : found.apart ≡ other.apart = omega (arith, ints) in
    let c = one.least_difference other.difference (subst (λ (m : ℤ). Meets T spreads zone tried m other.difference) (sym same) two.meets) in
    let d = two.least_difference found.difference (subst (λ (m : ℤ). Meets T spreads zone tried m found.difference) same one.meets) in
    (same, omega (arith, ints))

no_more : (T : ℤ) (spreads : Spreads) (steps others : ℤ) → IsOrdered spreads → IsStepCount T spreads steps → IsStepCount T spreads others → steps <ℤ others → ⊥
no_more T spreads steps others order one two less =
    let at = level_is T spreads (pos 0 -ℤ steps) order in
    let here = one (pos 0 -ℤ steps) _ at in
    let there = two (pos 0 -ℤ steps) _ at in
    let later = there.1 (omega (arith, ints)) in
    let none = here.0 later in
    absurd (omega (arith, ints))

pub step_counts_are_one : StepCountsAreOne
step_counts_are_one T spreads steps others order one two =
    by_lt_z steps others (λ l. absurd (no_more T spreads steps others order one two l)) (λ h. by_lt_z others steps (λ l. absurd (no_more T spreads others steps order two one l)) (λ g. omega (arith, ints)))
