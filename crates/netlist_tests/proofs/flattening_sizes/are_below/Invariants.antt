use Rattle.std.proofs.Common.{◌≡◌, ◌<◌, ℕ, Some}
use Rattle.std.specs.Prelude.{slice_get}
use Rattle.bind_forms.specs.declared.bound.BoundInstance.{BoundInstance}
use Rattle.flat_places.specs.Hierarchy.{module_of}
use Rattle.netlist_tests.proofs.flattening_sizes.are_below.Given as goal

abbrev pub invariant-loop-instance : goal.invariant-loop-instance
invariant-loop-instance l = (place inner : ℕ) (one : BoundInstance) → place < l.instance-index → slice_get l.instances place ≡ Some one → module_of one.kind ≡ Some inner → inner < l.count
