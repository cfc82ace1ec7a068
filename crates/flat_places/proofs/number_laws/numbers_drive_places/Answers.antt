use Rattle.flat_places.proofs.Driven.{drives_found, drives_at, drives_listed}
use Rattle.flat_places.proofs.Resolved.{is_inside}
use Rattle.flat_places.proofs.number_laws.numbers_drive_places.Goals as goal

pub returns-clause-inside : goal.returns-clause-inside
returns-clause-inside c = is_inside c.args.cells.now c.args.bound.now c.requires.bound c.requires.deep

pub returns-clause-sound : goal.returns-clause-sound
returns-clause-sound c = drives_found c.args.cells.now c.args.bound.now c.requires.bound c.requires.deep

pub returns-clause-complete : goal.returns-clause-complete
returns-clause-complete c = drives_at c.args.cells.now c.args.bound.now c.requires.bound c.requires.deep

pub returns-clause-nets : goal.returns-clause-nets
returns-clause-nets c = drives_listed c.args.cells.now c.args.bound.now c.requires.bound c.requires.deep
