use Rattle.flat_places.proofs.Distinct.{one_net}
use Rattle.flat_places.proofs.Resolved.{one_driver, one_number, first_two}
use Rattle.flat_places.proofs.number_laws.numbers_tell_two.Goals as goal

pub returns-clause-once : goal.returns-clause-once
returns-clause-once c = one_driver c.args.cells.now c.args.bound.now c.requires.bound c.requires.deep

pub returns-clause-two : goal.returns-clause-two
returns-clause-two c = first_two c.args.cells.now c.args.bound.now c.requires.bound c.requires.deep

pub returns-clause-alone : goal.returns-clause-alone
returns-clause-alone c = one_number c.args.cells.now c.args.bound.now c.requires.bound c.requires.deep

pub returns-clause-distinct : goal.returns-clause-distinct
returns-clause-distinct c = one_net c.args.cells.now
