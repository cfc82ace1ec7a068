use Rattle.std.proofs.Common.{◌≡◌, ◌++◌, drop, map}
use Rattle.std.specs.List.{zip}
use Rattle.flat_places.specs.Bits.{ends_link}
use Rattle.flattener.proofs.offsets.push_pairs.Given as goal

abbrev pub invariant-loop-at : goal.invariant-loop-at
invariant-loop-at l = l.links.items ++ map ends_link (zip (drop l.at l.sources) (drop l.at l.targets)) ≡ l.initial.links.items ++ map ends_link (zip l.sources l.targets)
