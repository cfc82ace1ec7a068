-- What is answered where there is no fault.
use Rattle.std.specs.Prelude.{◌≢◌, ◌↔◌, ℕ, ◌<◌, length, take, slice_index}
use Rattle.std.specs.List.{AllPairs, Contains}
use Rattle.bind_forms.specs.Modules.{Setting, IsTop, IsReached, Instantiates}
use Rattle.bind_faults.specs.declared.find.Reached.{Reached}
use Rattle.bind_faults.specs.Checks.{AreReached}

-- The modules that the top reaches, and an order of them, each once, in which each stands behind all that it instantiates.
pub record IsReachedBy (setting : Setting) (found : Reached) : Type 0 where
  pub top_is : IsTop setting found.top
  pub flags : AreReached setting found.reached.items
  pub order_is : (at : ℕ) → Contains found.order.items at ↔ IsReached setting at
  pub once : AllPairs (λ one other. one ≢ other) found.order.items
  pub after : (place inner : ℕ) → place < length found.order.items → Instantiates setting (slice_index found.order.items place) inner → Contains (take place found.order.items) inner
