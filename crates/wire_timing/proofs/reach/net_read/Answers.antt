use Rattle.wire_timing.specs.Wires.{design_of}
use Rattle.wire_timing.proofs.Shape.{pin_read, pin_within}
use Rattle.wire_timing.proofs.reach.net_read.Goals as goal

pub bounds-as_slice-index : goal.bounds-as_slice-index
bounds-as_slice-index c = pin_within (design_of c.args.table.now c.args.flat.now c.args.bench.now) c.requires.set_up c.requires.jtls c.as_slice.result.now c.args.cell c.index.result c.as_slice.ensures.value c.index.ensures.number c.requires.cell

pub bounds-as_slice-index-2 : goal.bounds-as_slice-index-2
bounds-as_slice-index-2 c = pin_within (design_of c.args.table.now c.args.flat.now c.args.bench.now) c.requires.set_up c.requires.jtls c.as_slice.result.now c.args.cell c.index.result c.as_slice.ensures.value c.index.ensures.number c.requires.cell

pub returns-clause-pin : goal.returns-clause-pin
returns-clause-pin c = (pin_read (design_of c.args.table.now c.args.flat.now c.args.bench.now) c.requires.set_up c.requires.jtls c.as_slice.result.now c.args.cell c.index.result c.index-as_slice-index.result c.as_slice.ensures.value c.index.ensures.number c.requires.cell).1

pub returns-clause-below : goal.returns-clause-below
returns-clause-below c = (pin_read (design_of c.args.table.now c.args.flat.now c.args.bench.now) c.requires.set_up c.requires.jtls c.as_slice.result.now c.args.cell c.index.result c.index-as_slice-index.result c.as_slice.ensures.value c.index.ensures.number c.requires.cell).2
