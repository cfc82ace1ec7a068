use Rattle.flat_places.proofs.Resolved.{read_from, not_read}
use Rattle.flat_places.proofs.number_laws.numbers_tell_readers.Goals as goal

pub returns-clause-driven : goal.returns-clause-driven
returns-clause-driven c = read_from c.args.cells.now c.args.bound.now c.requires.bound c.requires.deep

pub returns-clause-undriven : goal.returns-clause-undriven
returns-clause-undriven c = not_read c.args.cells.now c.args.bound.now c.requires.bound c.requires.deep
