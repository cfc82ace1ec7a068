-- Delays on two lanes, and those that are chosen to show a difference.
use Rattle.std.specs.Prelude.{◌≡◌, ◌↔◌, ◌⊎◌, ℕ, ◌<◌, ◌≤◌, ℤ, pos, ◌+ℤ◌, ◌-ℤ◌, ◌≤ℤ◌, List, [], ◌∷◌, map, length, take, drop}
use Rattle.std.specs.Int.{int_min}
use Rattle.std.specs.List.{All, AllZip}
use Rattle.rsfq_ids.specs.declared.limits.TheConstants.{TIME_LIMIT}
use Rattle.rsfq_ids.specs.Time.{IsWithin, total}
use Rattle.pulse_pairs.specs.declared.meeting.Interval.{Interval}

-- an interval of delays that an arc may have, in fs
pub record IsArc (arc : Interval) : Type 0 where
  pub natural : pos 0 ≤ℤ arc.low
  pub order : arc.low ≤ℤ arc.high
  pub most : arc.high ≤ℤ pos TIME_LIMIT

-- a lane: the arcs of a path, at most one more than there are cells
pub record AreLaneIntervals (arcs : List Interval) : Type 0 where
  pub each : All IsArc arcs
  pub few : length arcs < 1000000

-- a delay that an arc may take; its least; its greatest
abbrev pub MayTake : Interval → ℤ → Type 0
MayTake arc delay = IsWithin arc.low arc.high delay

abbrev pub IsLeast : Interval → ℤ → Type 0
IsLeast arc delay = delay ≡ arc.low

abbrev pub IsGreatest : Interval → ℤ → Type 0
IsGreatest arc delay = delay ≡ arc.high

-- the two lanes begin with so many arcs in common
pub record ShareArcs (shared : ℕ) (x y : List Interval) : Type 0 where
  pub first : shared ≤ length x
  pub second : shared ≤ length y
  pub same : take shared x ≡ take shared y

-- Delays that a pulse of each lane may have together: on the arcs that they share they are one pulse.
pub record AreDelaysTogether (shared : ℕ) (x y : List Interval) (delays ends : List ℤ) : Type 0 where
  pub first : AllZip MayTake x delays
  pub second : AllZip MayTake y ends
  pub agree : take shared delays ≡ take shared ends

-- the sums of least and of greatest delays
abbrev pub least_sum : List Interval → ℤ
least_sum arcs = total (map (λ arc. arc.low) arcs)

abbrev pub greatest_sum : List Interval → ℤ
greatest_sum arcs = total (map (λ arc. arc.high) arcs)

-- The least and the greatest difference of two lanes: the arcs that they share cancel.
pub record IsArcSpread (shared : ℕ) (x y : List Interval) (spread : Interval) : Type 0 where
  pub least : spread.low ≡ (least_sum (drop shared x) -ℤ greatest_sum (drop shared y))
  pub most : spread.high ≡ (greatest_sum (drop shared x) -ℤ least_sum (drop shared y))

-- Delays raised from their least in order: each arc has its greatest delay, or all later ones have their least.
abbrev pub AreRaised : List Interval → List ℤ → Type 0
AreRaised (arc ∷ arcs) (delay ∷ delays) = (IsGreatest arc delay ⊎ AllZip IsLeast arcs delays) × AreRaised arcs delays
AreRaised arcs delays = Unit {0}

-- Delays lowered from their greatest in order: each arc has its least delay, or all later ones have their greatest.
abbrev pub AreLowered : List Interval → List ℤ → Type 0
AreLowered (arc ∷ arcs) (delay ∷ delays) = (IsLeast arc delay ⊎ AllZip IsGreatest arcs delays) × AreLowered arcs delays
AreLowered arcs delays = Unit {0}

-- The delays that are printed of two lanes with this difference of their sums. The shared arcs have their least delay in both. The other arcs of the first lane are raised in order; and those of the second are lowered in order once all of the first have their greatest delay.
pub record AreChosen (shared : ℕ) (x y : List Interval) (difference : ℤ) (delays ends : List ℤ) : Type 0 where
  pub together : AreDelaysTogether shared x y delays ends
  pub meets : (total delays -ℤ total ends) ≡ difference
  pub shared_least : AllZip IsLeast (take shared x) (take shared delays)
  pub raised : AreRaised (drop shared x) (drop shared delays)
  pub lowered : AreLowered (drop shared y) (drop shared ends)
  pub first_before : AllZip IsGreatest (drop shared x) (drop shared delays) ⊎ AllZip IsGreatest (drop shared y) (drop shared ends)

-- ---- how they are made

-- delays raised from their least by a sum, in order
abbrev pub raise : ℤ → List Interval → List ℤ
raise spare [] = []
raise spare (arc ∷ arcs) = (arc.low +ℤ int_min spare (arc.high -ℤ arc.low)) ∷ raise (spare -ℤ int_min spare (arc.high -ℤ arc.low)) arcs

-- delays lowered from their greatest by a sum, in order
abbrev pub lower : ℤ → List Interval → List ℤ
lower spare [] = []
lower spare (arc ∷ arcs) = (arc.high -ℤ int_min spare (arc.high -ℤ arc.low)) ∷ lower (spare -ℤ int_min spare (arc.high -ℤ arc.low)) arcs

-- By how much the delays of the first lane are raised, and those of the second lowered, for a difference.
pub record IsSplit (shared : ℕ) (x y : List Interval) (difference raised lowered : ℤ) : Type 0 where
  pub spare : ℤ
  pub spare_is : spare ≡ (difference -ℤ (least_sum (drop shared x) -ℤ greatest_sum (drop shared y)))
  pub raised_is : raised ≡ int_min spare (greatest_sum (drop shared x) -ℤ least_sum (drop shared x))
  pub lowered_is : lowered ≡ (spare -ℤ raised)
  pub raised_small : IsWithin (pos 0) (pos 2000000000000000) raised
  pub lowered_small : IsWithin (pos 0) (pos 2000000000000000) lowered

-- ---- laws

-- The differences of delays that two pulses may have together are exactly the whole numbers of the spread, and each is shown by delays that are chosen.
abbrev pub SpreadsAreExact : Type 0
SpreadsAreExact =
    (shared : ℕ) (x y : List Interval) (spread : Interval) (difference : ℤ) → AreLaneIntervals x → AreLaneIntervals y → ShareArcs shared x y → IsArcSpread shared x y spread →
    (IsWithin spread.low spread.high difference ↔ ((delays : List ℤ) × (ends : List ℤ) × AreDelaysTogether shared x y delays ends × ((total delays -ℤ total ends) ≡ difference)))
    × (IsWithin spread.low spread.high difference → (delays : List ℤ) × (ends : List ℤ) × AreChosen shared x y difference delays ends)

-- Only one pair of lists of delays is chosen.
abbrev pub ChoicesAreOne : Type 0
ChoicesAreOne =
    (shared : ℕ) (x y : List Interval) (difference : ℤ) (delays ends others stops : List ℤ) → AreLaneIntervals x → AreLaneIntervals y → ShareArcs shared x y → AreChosen shared x y difference delays ends → AreChosen shared x y difference others stops →
    (delays ≡ others) × (ends ≡ stops)

-- Shared arcs narrow the spread, and it is never empty.
abbrev pub SharedIsNarrower : Type 0
SharedIsNarrower =
    (shared : ℕ) (x y : List Interval) (level apart : Interval) → AreLaneIntervals x → AreLaneIntervals y → ShareArcs shared x y → IsArcSpread shared x y level → IsArcSpread 0 x y apart → (level.low ≤ℤ level.high) × (apart.low ≤ℤ level.low) × (level.high ≤ℤ apart.high)
