-- Places that are still to be looked at.
use Rattle.std.specs.Prelude.{◌≡◌, ℕ, ◌<◌, Bool, true, List}
use Rattle.std.specs.List.{Contains}
use Rattle.rsfq_ids.specs.Formula.{opposite}
use Rattle.cdcl_core.specs.declared.trail.TrueLit.{TrueLit}
use Rattle.cdcl_core.specs.Oldest.{IsAt}

-- the greatest of some places that is below another one, and the places that are kept below it
pub record IsNextBelow (old new : List ℕ) (place next : ℕ) : Type 0 where
  pub below : next < place
  pub none : (n : ℕ) → next < n → n < place → Contains old n → ⊥
  pub kept : (n : ℕ) → n < next → Contains old n → Contains new n

-- below a place, each true literal whose opposite is marked is among those to be looked at
abbrev pub AreQueued : List TrueLit → (ℕ → Bool) → ℕ → List ℕ → Type 0
AreQueued trail marked place queue = (n lit : ℕ) → n < place → IsAt trail n (opposite lit) → marked lit ≡ true → Contains queue n
