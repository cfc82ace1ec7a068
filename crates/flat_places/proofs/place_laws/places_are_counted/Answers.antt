use Rattle.flat_places.proofs.Counted.{places_length, cells_length}
use Rattle.flat_places.proofs.place_laws.places_are_counted.Goals as goal

pub returns-clause-places : goal.returns-clause-places
returns-clause-places c = places_length c.args.bound.now

pub returns-clause-cells : goal.returns-clause-cells
returns-clause-cells c = cells_length c.args.bound.now
