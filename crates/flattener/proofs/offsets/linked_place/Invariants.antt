use Rattle.std.proofs.Common.{◌≡◌, drop}
use Rattle.flat_places.specs.Bits.{linked_parts}
use Rattle.flattener.proofs.offsets.linked_place.Given as goal

abbrev pub invariant-loop-link : goal.invariant-loop-link
invariant-loop-link l = linked_parts (drop l.link-index l.links) l.port ≡ linked_parts l.links l.port
