use Rattle.std.proofs.Common.{◌+◌, None}
use Rattle.flat_places.specs.Hierarchy.{wires_of, bits_of}
use Rattle.flat_places.specs.Bits.{offsets_from}
use Rattle.flat_places.proofs.Celled.{inside_cells}
use Rattle.flat_places.proofs.Wholes.{whole_places, whole_links}
use Rattle.flat_places.proofs.whole_laws.whole_is_listed.Goals as goal

pub returns-clause-places : goal.returns-clause-places
returns-clause-places c = whole_places c.args.cells.now c.args.bound.now c.requires.bound c.requires.deep

pub returns-clause-links : goal.returns-clause-links
returns-clause-links c = whole_links c.args.cells.now c.args.bound.now c.requires.bound c.requires.deep

pub returns-clause-cells : goal.returns-clause-cells
returns-clause-cells c =
    let bound = c.args.bound.now in
    inside_cells c.args.cells.now bound c.requires.bound 64 bound.top c.requires.deep None (offsets_from 0 (wires_of bound bound.top)) (0 + bits_of (wires_of bound bound.top))
