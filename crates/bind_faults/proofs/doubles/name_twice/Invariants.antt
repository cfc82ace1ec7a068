use Rattle.std.proofs.Common.{ℕ, List, ◌<◌}
use Rattle.bind_forms.specs.Faults.{Place}
use Rattle.bind_kinds.specs.Netlist.{setting_of}
use Rattle.bind_faults.specs.Doubles.{IsWithin}
use Rattle.bind_faults.proofs.doubles.name_twice.Given as goal

abbrev pub invariant-loop-at : goal.invariant-loop-at
invariant-loop-at l = (place : Place) (name : List ℕ) → place.at < l.at → ¬ IsWithin (setting_of l.netlist) place name
