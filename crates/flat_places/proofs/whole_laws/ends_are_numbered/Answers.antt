use Rattle.flat_places.proofs.Ends.{are_starts, are_reads}
use Rattle.flat_places.proofs.whole_laws.ends_are_numbered.Goals as goal

pub returns-clause-starts : goal.returns-clause-starts
returns-clause-starts c = are_starts c.args.cells.now c.args.bound.now c.requires.bound c.requires.deep

pub returns-clause-reads : goal.returns-clause-reads
returns-clause-reads c = are_reads c.args.cells.now c.args.bound.now c.requires.bound c.requires.deep
