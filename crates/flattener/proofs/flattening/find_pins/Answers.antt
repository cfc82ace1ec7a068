use Rattle.std.proofs.Common.{◌∙◌, ◌++◌, List, length, refl, sym, ap, subst, arith}
use Rattle.std.specs.List.{All}
use Rattle.rsfq_ids.specs.declared.circuit.Driver.{Driver}
use Rattle.rsfq_ids.specs.declared.circuit.PortBit.{PortBit}
use Rattle.rsfq_ids.specs.declared.circuit.Pin.{Pin}
use Rattle.rsfq_ids.specs.WellFormed.{drivers_of, readers_of}
use Rattle.flat_places.specs.Whole.{IsShapeOf, ReadsNet}
use Rattle.flat_names.proofs.Lists.{ok_then}
use Rattle.flattener.specs.declared.shape.Shape.{Shape}
use Rattle.flattener.specs.Ends.{input_places, output_places}
use Rattle.flattener.specs.Gathered.{ArePins}
use Rattle.flattener.specs.Shape.{HasPins}
use Rattle.flattener.specs.Written.{piece_of}
use Rattle.flattener.proofs.Connecting.{shaped}
use Rattle.flattener.proofs.Resolving.{same_shape}
use Rattle.flattener.proofs.flattening.find_pins.Goals as goal

pub pins-requires : goal.pins-requires
pins-requires c =
    let table = c.args.source.cells.now in
    let bound = c.args.source.bound.now in
    let ends = c.args.ends.now in
    let e = c.requires.ends in
    let ports = c.as_slice.ensures.value in
    let cells = c.as_slice-2.ensures.value in
    let same = same_shape c.as_slice.result.now ends.ports c.as_slice-2.result.now c.args.wiring.now.cells ports cells in
    let few_cells = e.few_cells in
    let few_ports = e.few_ports in
    let ports_length = ap length ports in
    let cells_length = ap length cells in
    shaped _ (piece_of c.args.wiring.now) c.requires.source c.requires.within c.requires.written (subst (IsShapeOf bound) (sym same) e.has_shape) (omega (arith, few_cells, cells_length)) (omega (arith, few_ports, ports_length))
    (c.as_slice-3.ensures.value ∙ e.nets ∙ ap (drivers_of table) (sym same))
    (c.as_slice-5.ensures.value ∙ e.readers ∙ ap (readers_of table) (sym same))
    (c.as_slice-4.ensures.value ∙ e.starts ∙ ap (λ (ps : List PortBit). input_places ps ++ c.args.wiring.now.outputs.items) (sym ports))
    (c.as_slice-6.ensures.value ∙ e.reads ∙ ap (λ (ps : List PortBit). c.args.wiring.now.reads.items ++ output_places ps) (sym ports))
    c.as_slice-7.ensures.value refl c.as_slice-3.ensures.small c.whole_is_listed.ensures.places c.ends_are_numbered.ensures.starts c.ends_are_numbered.ensures.reads

pub returns-clause-ok : goal.returns-clause-ok
returns-clause-ok c =
    let table = c.args.source.cells.now in
    let bound = c.args.source.bound.now in
    let ends = c.args.ends.now in
    let nets = c.as_slice-3.ensures.value in
    let shape : Shape = record {
      source = c.args.source;
      ports = c.as_slice.result;
      cells = c.as_slice-2.result;
      nets = c.as_slice-3.result;
      starts = c.as_slice-4.result;
      readers = c.as_slice-5.result;
      reads = c.as_slice-6.result;
      links = c.as_slice-7.result;
      places = c.args.wiring.now.places;
    } in
    ok_then (HasPins shape) (ArePins table bound ends)
    (λ pins h. record {
      listed = h.listed ∙ c.as_slice-5.ensures.value;
      read = subst (λ (ns : List Driver). All (λ (pin : Pin). ReadsNet table bound ns pin.reader pin.net) pins) nets h.read;
    })
    c.pins.result c.pins.ensures.ok
