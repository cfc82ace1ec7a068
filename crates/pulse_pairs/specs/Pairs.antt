-- The pulses of two lanes at one place, and which of them come into a zone.
use Rattle.std.specs.Prelude.{◌≡◌, ◌↔◌, ◌⊎◌, ℕ, zero, suc, ◌*◌, ℤ, pos, negsuc, ◌+ℤ◌, ◌-ℤ◌, ◌*ℤ◌, ◌≤ℤ◌, ◌<ℤ◌, Option, Some, None}
use Rattle.rsfq_ids.specs.Time.{IsWithin}
use Rattle.pulse_pairs.specs.declared.meeting.Interval.{Interval}
use Rattle.pulse_pairs.specs.declared.meeting.Spreads.{Spreads}
use Rattle.pulse_pairs.specs.declared.meeting.Numbers.{Numbers}
use Rattle.pulse_pairs.specs.declared.meeting.Numbers.TheVariants as numbers
use Rattle.pulse_pairs.specs.declared.meeting.Meeting.{Meeting}

-- ---- numbers that are computed with without a check

-- at most so many times 10^15, up or down
abbrev pub IsSmall : ℕ → ℤ → Type 0
IsSmall limit n = IsWithin (pos 0 -ℤ pos (limit * 1000000000000000)) (pos (limit * 1000000000000000)) n

pub record IsSmallInterval (limit : ℕ) (interval : Interval) : Type 0 where
  pub low : IsSmall limit interval.low
  pub high : IsSmall limit interval.high

pub record AreSmall (spreads : Spreads) : Type 0 where
  pub level : IsSmallInterval 1 spreads.level
  pub apart : IsSmallInterval 1 spreads.apart

-- the least number of periods that reaches a time
pub record IsPeriodsUp (period time number : ℤ) : Type 0 where
  pub up_to : time ≤ℤ (number *ℤ period)
  pub near : (number *ℤ period) <ℤ (time +ℤ period)

-- ---- differences of pulses

-- so many periods, and an amount from the spread
abbrev pub IsBetween : ℤ → Interval → ℤ → ℤ → Type 0
IsBetween period spread apart difference = IsWithin ((apart *ℤ period) +ℤ spread.low) ((apart *ℤ period) +ℤ spread.high) difference

-- the spread of two pulses, of one number or of numbers so far apart
abbrev pub spread_at : Spreads → ℤ → Interval
spread_at spreads (pos zero) = spreads.level
spread_at spreads (pos (suc n)) = spreads.apart
spread_at spreads (negsuc n) = spreads.apart

-- By so much a pulse of the first lane may be later than one of the second whose number is lower by `apart`.
abbrev pub IsDifference : ℤ → Spreads → ℤ → ℤ → Type 0
IsDifference period spreads apart difference = IsBetween period (spread_at spreads apart) apart difference

-- by how many numbers the pulses may be apart
abbrev pub IsTried : Numbers → ℤ → Type 0
IsTried numbers.All apart = Unit {0}
IsTried numbers.Positive apart = pos 1 ≤ℤ apart

-- Pulses so many numbers apart may have this difference, which lies in the zone.
pub record Meets (period : ℤ) (spreads : Spreads) (zone : Interval) (tried : Numbers) (apart difference : ℤ) : Type 0 where
  pub number : IsTried tried apart
  pub may : IsDifference period spreads apart difference
  pub inside : IsWithin zone.low zone.high difference

-- The first such pulses: the number least from negative to positive, and for that number the least difference.
pub record IsFirstMeeting (period : ℤ) (spreads : Spreads) (zone : Interval) (tried : Numbers) (found : Meeting) : Type 0 where
  pub meets : Meets period spreads zone tried found.apart found.difference
  pub least_apart : (apart difference : ℤ) → Meets period spreads zone tried apart difference → found.apart ≤ℤ apart
  pub least_difference : (difference : ℤ) → Meets period spreads zone tried found.apart difference → found.difference ≤ℤ difference

-- Either they are answered, or there are none.
abbrev pub IsFirst : ℤ → Spreads → Interval → Numbers → Option Meeting → Type 0
IsFirst period spreads zone tried None = (apart difference : ℤ) → ¬ Meets period spreads zone tried apart difference
IsFirst period spreads zone tried (Some found) = IsFirstMeeting period spreads zone tried found

-- the same of pulses that are at least 1 number apart, and of those that are less than 0 numbers apart
abbrev pub IsFirstIn : (ℤ → Type 0) → ℤ → Interval → Interval → Option Meeting → Type 0
IsFirstIn In period spread zone None = (apart difference : ℤ) → In apart → IsBetween period spread apart difference → ¬ IsWithin zone.low zone.high difference
IsFirstIn In period spread zone (Some found) =
    In found.apart × IsBetween period spread found.apart found.difference × IsWithin zone.low zone.high found.difference
    × ((apart difference : ℤ) → In apart → IsBetween period spread apart difference → IsWithin zone.low zone.high difference → found.apart ≤ℤ apart)
    × ((difference : ℤ) → IsBetween period spread found.apart difference → IsWithin zone.low zone.high difference → found.difference ≤ℤ difference)

abbrev pub IsFirstFrom : ℤ → Interval → Interval → Option Meeting → Type 0
IsFirstFrom = IsFirstIn (λ apart. pos 1 ≤ℤ apart)

abbrev pub IsFirstBelow : ℤ → Interval → Interval → Option Meeting → Type 0
IsFirstBelow = IsFirstIn (λ apart. apart <ℤ pos 0)

-- ---- a pulse of the next number that is not later

abbrev pub IsAhead : ℤ → Spreads → ℤ → Type 0
IsAhead period spreads difference = IsDifference period spreads (pos 1) difference × (difference ≤ℤ pos 0)

pub record IsFirstAhead (period : ℤ) (spreads : Spreads) (difference : ℤ) : Type 0 where
  pub ahead : IsAhead period spreads difference
  pub least : (other : ℤ) → IsAhead period spreads other → difference ≤ℤ other

-- ---- printed numbers and steps

-- The two numbers that are printed of pulses so far apart: one of them is 0.
pub record ArePrinted (apart : ℤ) (first second : ℕ) : Type 0 where
  pub zero : (first ≡ 0) ⊎ (second ≡ 0)
  pub far : (pos first -ℤ pos second) ≡ apart

-- spreads of two lanes: neither is empty, and pulses of one number, which may share delays, differ no more than others
pub record IsOrdered (spreads : Spreads) : Type 0 where
  pub level : spreads.level.low ≤ℤ spreads.level.high
  pub low : spreads.apart.low ≤ℤ spreads.level.low
  pub high : spreads.level.high ≤ℤ spreads.apart.high

-- The steps of the first lane: a pulse is later than a pulse of the second exactly where its number and the steps together are above the number of that one, whatever the delays.
abbrev pub IsStepCount : ℤ → Spreads → ℤ → Type 0
IsStepCount period spreads steps = (apart difference : ℤ) → IsDifference period spreads apart difference → (pos 0 <ℤ difference) ↔ (pos 0 <ℤ (apart +ℤ steps))

-- ---- laws

-- Only one meeting is the first.
abbrev pub MeetingsAreOne : Type 0
MeetingsAreOne = (period : ℤ) (spreads : Spreads) (zone : Interval) (tried : Numbers) (found other : Meeting) → IsFirstMeeting period spreads zone tried found → IsFirstMeeting period spreads zone tried other → (found.apart ≡ other.apart) × (found.difference ≡ other.difference)

-- Only one number is the steps of two lanes.
abbrev pub StepCountsAreOne : Type 0
StepCountsAreOne = (period : ℤ) (spreads : Spreads) (steps others : ℤ) → IsOrdered spreads → IsStepCount period spreads steps → IsStepCount period spreads others → steps ≡ others
