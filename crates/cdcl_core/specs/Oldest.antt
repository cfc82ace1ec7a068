-- The oldest of the true literals, and what the trail's fields show.
use Rattle.std.specs.Prelude.{◌≡◌, ℕ, ◌+◌, ◌-◌, ◌*◌, ◌<◌, List, [], ◌∷◌, length, drop, false, ⊤}
use Rattle.cdcl_core.specs.declared.trail.TrueLit.{TrueLit}
use Rattle.proof_arena.specs.Step.{is_among}
use Rattle.cdcl_core.specs.Trail.{IsFree}

-- so many of the oldest
abbrev pub oldest : ℕ → List TrueLit → List TrueLit
oldest n trail = drop (length trail - n) trail

-- what contracts see of a trail: how many variables there are, and the true literals, the newest first
pub record Truths : Type 0 where
  pub vars : ℕ
  pub trail : List TrueLit

pub record IsPlainEntry (vars : ℕ) (older : List TrueLit) (lit : ℕ) : Type 0 where
  pub within : lit < 2 * vars
  pub free : IsFree older lit

-- each literal had no value before it became true
abbrev pub IsPlain : ℕ → List TrueLit → Type 0
IsPlain vars [] = ⊤
IsPlain vars (entry ∷ older) = IsPlainEntry vars older entry.lit × IsPlain vars older

-- no number twice
abbrev pub AreOnce : List ℕ → Type 0
AreOnce [] = ⊤
AreOnce (x ∷ xs) = (is_among xs x ≡ false) × AreOnce xs

-- a literal became true at a place, from the oldest on
pub record IsAt (trail : List TrueLit) (place lit : ℕ) : Type 0 where
  pub entry : TrueLit
  pub there : oldest (place + 1) trail ≡ entry ∷ oldest place trail
  pub has : entry.lit ≡ lit
