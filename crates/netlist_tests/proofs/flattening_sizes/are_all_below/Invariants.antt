use Rattle.std.proofs.Common.{◌≡◌, ◌<◌, ℕ, Some}
use Rattle.std.specs.Prelude.{slice_get}
use Rattle.bind_forms.specs.declared.bound.BoundModule.{BoundModule}
use Rattle.flat_places.specs.Rounds.{AreBelow}
use Rattle.netlist_tests.proofs.flattening_sizes.are_all_below.Given as goal

abbrev pub invariant-loop-owner : goal.invariant-loop-owner
invariant-loop-owner l = (at : ℕ) (one : BoundModule) → at < l.owner-index → slice_get l.modules at ≡ Some one → AreBelow l.count one.instances
