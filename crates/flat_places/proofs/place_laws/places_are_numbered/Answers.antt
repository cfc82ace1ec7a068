use Rattle.flat_places.proofs.Numbered.{number_is}
use Rattle.flat_places.proofs.place_laws.places_are_numbered.Goals as goal

pub returns : goal.returns
returns c = number_is c.args.bound.now
