use Rattle.flat_places.proofs.Listed.{place_there, place_listed}
use Rattle.flat_places.proofs.place_laws.places_are_listed.Goals as goal

pub returns-clause-sound : goal.returns-clause-sound
returns-clause-sound c = place_there c.args.bound.now

pub returns-clause-complete : goal.returns-clause-complete
returns-clause-complete c = place_listed c.args.bound.now
