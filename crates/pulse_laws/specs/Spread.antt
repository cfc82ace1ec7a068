-- How far the times of two pulses may differ.
use Rattle.std.specs.Prelude.{◌≡◌, Bool, true, ℤ, ◌-ℤ◌, List}
use Rattle.std.specs.List.{AllZip}
use Rattle.rsfq_ids.specs.declared.offence.PathArc.{PathArc}
use Rattle.rsfq_ids.specs.Time.{IsWithin, total}
use Rattle.rsfq_ids.specs.Path.{IsDelay, SameDelays}
use Rattle.rsfq_ids.specs.Design.{Design}

-- Delays on two paths that two pulses may have together, of one number or of two.
pub record AreTogether (design : Design) (same : Bool) (arcs others : List PathArc) (delays ends : List ℤ) : Type 0 where
  pub first : AllZip (IsDelay design) arcs delays
  pub second : AllZip (IsDelay design) others ends
  pub agree : same ≡ true → SameDelays arcs delays others ends

-- delays with this difference of their sums
abbrev pub IsReached : Design → Bool → List PathArc → List PathArc → ℤ → Type 0
IsReached design same arcs others difference = (delays : List ℤ) × (ends : List ℤ) × AreTogether design same arcs others delays ends × ((total delays -ℤ total ends) ≡ difference)

-- The least and the greatest difference of two pulses on these paths, less the periods between their numbers.
pub record IsSpread (design : Design) (same : Bool) (arcs others : List PathArc) (low high : ℤ) : Type 0 where
  pub within : (delays ends : List ℤ) → AreTogether design same arcs others delays ends → IsWithin low high (total delays -ℤ total ends)
  pub least : IsReached design same arcs others low
  pub most : IsReached design same arcs others high
