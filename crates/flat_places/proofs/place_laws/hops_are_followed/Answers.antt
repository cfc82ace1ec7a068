use Rattle.flat_places.proofs.Followed.{hop_follows, follows_hop}
use Rattle.flat_places.proofs.place_laws.hops_are_followed.Goals as goal

pub returns-clause-sound : goal.returns-clause-sound
returns-clause-sound c = hop_follows c.args.bound.now

pub returns-clause-complete : goal.returns-clause-complete
returns-clause-complete c = follows_hop c.args.bound.now
