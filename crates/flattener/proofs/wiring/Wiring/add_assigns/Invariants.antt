use Rattle.std.proofs.Common.{◌≡◌, ◌++◌, drop}
use Rattle.std.specs.List.{flat_map}
use Rattle.flat_places.specs.Assigns.{picked_assigns}
use Rattle.flat_places.specs.Bits.{assign_links}
use Rattle.flattener.proofs.wiring.Wiring.add_assigns.Given as goal

abbrev pub invariant-loop-place : goal.invariant-loop-place
invariant-loop-place l = record {
  links : l.self.links.items ++ flat_map (assign_links l.offsets) (picked_assigns l.assigns (drop l.place-index l.places)) ≡ l.initial.self.links.items ++ flat_map (assign_links l.offsets) (picked_assigns l.assigns l.places);
  places : l.self.places ≡ l.initial.self.places;
  cells : l.self.cells ≡ l.initial.self.cells;
  reads : l.self.reads.items ≡ l.initial.self.reads.items;
  outputs : l.self.outputs.items ≡ l.initial.self.outputs.items;
}
