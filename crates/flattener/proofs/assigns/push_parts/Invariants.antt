use Rattle.std.proofs.Common.{◌≡◌, ◌++◌, drop}
use Rattle.std.specs.List.{flat_map}
use Rattle.flat_places.specs.Assigns.{part_key}
use Rattle.flattener.proofs.assigns.push_parts.Given as goal

abbrev pub invariant-loop-part : goal.invariant-loop-part
invariant-loop-part l = l.key.items ++ flat_map part_key (drop l.part-index l.parts) ≡ l.initial.key.items ++ flat_map part_key l.parts
