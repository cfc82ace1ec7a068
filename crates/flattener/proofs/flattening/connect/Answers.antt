use Rattle.std.proofs.Common.{◌∙◌, refl}
use Rattle.rsfq_ids.specs.declared.circuit.Flat.{Flat}
use Rattle.flattener.specs.Written.{piece_of}
use Rattle.flattener.proofs.Connecting.{rows_of, is_circuit, is_flat}
use Rattle.flattener.proofs.flattening.connect.Goals as goal

pub returns-clause-circuit : goal.returns-clause-circuit
returns-clause-circuit c =
    let ends = c.in_ok-ends.ends in
    let flat : Flat = record { ports = ends.ports; cells = c.args.wiring.cells; nets = ends.nets; pins = c.in_ok-pins.pins } in
    let e = c.in_ok-ends.ensures in
    let p = c.in_ok-pins.ensures.ok in
    is_circuit c.args.source.cells.now c.args.source.bound.now flat e.has_shape e.nets (p.listed ∙ e.readers) p.read

pub returns-clause-flat : goal.returns-clause-flat
returns-clause-flat c =
    let table = c.args.source.cells.now in
    let bound = c.args.source.bound.now in
    let ends = c.in_ok-ends.ends in
    let flat : Flat = record { ports = ends.ports; cells = c.args.wiring.cells; nets = ends.nets; pins = c.in_ok-pins.pins } in
    let e = c.in_ok-ends.ensures in
    let p = c.in_ok-pins.ensures.ok in
    is_flat table bound flat c.requires.source.is_bound e.has_shape e.few_cells (rows_of table bound (piece_of c.args.wiring) c.args.wiring.cells c.requires.written refl) e.nets (p.listed ∙ e.readers) p.read
