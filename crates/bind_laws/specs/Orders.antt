-- An order of the modules that are bound.
use Rattle.std.specs.Prelude.{◌≢◌, ◌↔◌, ℕ, ◌<◌, List, length, take, slice_index}
use Rattle.std.specs.List.{AllPairs, Contains}
use Rattle.bind_forms.specs.Modules.{Setting, Instantiates, IsReached}

-- The modules that the top reaches, each once, in an order in which each stands behind all that it instantiates.
pub record IsOrder (setting : Setting) (order : List ℕ) : Type 0 where
  pub each : (at : ℕ) → Contains order at ↔ IsReached setting at
  pub once : AllPairs (λ one other. one ≢ other) order
  pub after : (place inner : ℕ) → place < length order → Instantiates setting (slice_index order place) inner → Contains (take place order) inner
