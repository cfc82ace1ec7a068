use Rattle.flat_places.proofs.Resolved.{named_ring, no_ring}
use Rattle.flat_places.proofs.number_laws.numbers_tell_rings.Goals as goal

pub returns-clause-ring : goal.returns-clause-ring
returns-clause-ring c = named_ring c.args.cells.now c.args.bound.now c.requires.bound c.requires.deep

pub returns-clause-none : goal.returns-clause-none
returns-clause-none c = no_ring c.args.cells.now c.args.bound.now c.requires.bound c.requires.deep
