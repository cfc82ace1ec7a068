-- The trail that the fields hold.
use Rattle.std.specs.Prelude.{◌≡◌, ℕ, zero, suc, ◌*◌, ◌<◌, ◌≤◌, ◌^◌, List, [], ◌∷◌, length, None}
use Rattle.std.specs.List.{slice_index_or}
use Rattle.cdcl_core.specs.declared.trail.TrueLit.{TrueLit}
use Rattle.cdcl_core.specs.declared.trail.Trail.TheInside.{Inside}
use Rattle.cdcl_core.specs.Trail.{level_in}
use Rattle.cdcl_core.specs.Oldest.{Truths, IsPlain}

abbrev pub entry_at : List TrueLit → ℕ → TrueLit
entry_at entries n = slice_index_or entries n (record { lit = 0; level = 0; reason = None })

-- so many entries from the first on, the last of them first
abbrev pub newest : List TrueLit → ℕ → List TrueLit
newest entries zero = []
newest entries (suc n) = entry_at entries n ∷ newest entries n

abbrev pub truths_of : Inside → Truths
truths_of a = record { vars = length a.entries.items; trail = newest a.entries.items a.count }

pub record IsKept (a : Inside) : Type 0 where
  pub count : a.count ≤ length a.entries.items
  pub few : length a.entries.items < 2 ^ 32
  pub size : length a.levels.items ≡ 2 * length a.entries.items
  pub plain : IsPlain (length a.entries.items) (newest a.entries.items a.count)
  pub places_size : length a.places.items ≡ 2 * length a.entries.items
  pub places : (n : ℕ) → n < a.count → slice_index_or a.places.items (entry_at a.entries.items n).lit 0 ≡ n
  pub table : (lit : ℕ) → lit < 2 * length a.entries.items → slice_index_or a.levels.items lit None ≡ level_in (newest a.entries.items a.count) lit
