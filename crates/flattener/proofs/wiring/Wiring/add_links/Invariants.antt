use Rattle.std.proofs.Common.{◌≡◌, ◌++◌, drop}
use Rattle.std.specs.List.{flat_map}
use Rattle.flat_places.specs.Pieces.{links_of_link}
use Rattle.flattener.proofs.wiring.Wiring.add_links.Given as goal

abbrev pub invariant-loop-link : goal.invariant-loop-link
invariant-loop-link l = record {
  links : l.self.links.items ++ flat_map (links_of_link l.ports l.inner l.offsets) (drop l.link-index l.links) ≡ l.initial.self.links.items ++ flat_map (links_of_link l.ports l.inner l.offsets) l.links;
  places : l.self.places ≡ l.initial.self.places;
  cells : l.self.cells ≡ l.initial.self.cells;
  reads : l.self.reads.items ≡ l.initial.self.reads.items;
  outputs : l.self.outputs.items ≡ l.initial.self.outputs.items;
}
