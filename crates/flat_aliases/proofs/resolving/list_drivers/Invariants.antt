use Rattle.std.proofs.Common.{◌≡◌, ℕ, ◌<◌, length, Some, None}
use Rattle.std.specs.Prelude.{slice_get}
use Rattle.flat_aliases.specs.declared.held.Held.TheVariants.{Nothing, One, Two}
use Rattle.flat_aliases.proofs.resolving.list_drivers.Given as goal

abbrev pub invariant-loop-place : goal.invariant-loop-place
invariant-loop-place l = record {
  count : length l.drivers ≡ l.place;
  none : (k : ℕ) → slice_get l.drivers k ≡ Some None → slice_get l.held k ≡ Some Nothing;
  one : (k driver : ℕ) → slice_get l.drivers k ≡ Some (Some driver) → slice_get l.held k ≡ Some (One driver);
  before : (k one other : ℕ) → k < l.place → slice_get l.held k ≡ Some (Two one other) → ⊥;
}
