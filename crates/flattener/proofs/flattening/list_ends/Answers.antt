use Rattle.std.proofs.Common.{◌≡◌, ◌∙◌, ◌≤◌, ◌++◌, ℕ, List, length, Option, Some, refl, ap, arith}
use Rattle.std.specs.Prelude.{slice_get}
use Rattle.rsfq_ids.specs.declared.circuit.PortBit.{PortBit}
use Rattle.rsfq_ids.specs.WellFormed.{drivers_of, readers_of}
use Rattle.bind_forms.specs.declared.bound.BoundPort.{BoundPort}
use Rattle.bind_forms.specs.WellFormed.{IsModule}
use Rattle.flat_places.specs.Circuit.{port_bits}
use Rattle.flat_names.proofs.Lists.{read_at}
use Rattle.flattener.specs.Ends.{input_places, output_places}
use Rattle.flattener.specs.Written.{piece_of}
use Rattle.flattener.proofs.Connecting.{few_port_bits, is_shape_of, few_cells_of, rows_of}
use Rattle.flattener.proofs.Resolving.{same_shape}
use Rattle.flattener.proofs.flattening.list_ends.Goals as goal
use Rattle.flat_places.proofs.Joined.{all_got}

pub port_bits-requires-clause-room : goal.port_bits-requires-clause-room
port_bits-requires-clause-room c =
    let bound = c.args.source.bound.now in
    let table = c.args.source.cells.now in
    let b = c.requires.source.is_bound in
    let top = c.index-as_slice-source.result in
    let there : slice_get bound.modules bound.top ≡ Some top = read_at bound.modules c.as_slice.result.now bound.top b.top top b.top_there c.as_slice.ensures c.index-as_slice-source.is in
    let m = all_got (IsModule table bound) bound.modules bound.top top b.modules there in
    let few = few_port_bits table bound top m there c.requires.within c.whole_is_listed.ensures.places in
    let same = ap (λ (ps : List BoundPort). length (port_bits ps)) c.as_slice-2.ensures in
    omega (arith, few, same)

pub list_drivers-requires-clause-rows : goal.list_drivers-requires-clause-rows
list_drivers-requires-clause-rows c =
    rows_of c.args.source.cells.now c.args.source.bound.now (piece_of c.args.wiring.now) c.as_slice-cells.result.now c.requires.written c.as_slice-cells.ensures.value

pub list_drivers-requires-clause-room : goal.list_drivers-requires-clause-room
list_drivers-requires-clause-room c =
    let bound = c.args.source.bound.now in
    let table = c.args.source.cells.now in
    let b = c.requires.source.is_bound in
    let top = c.index-as_slice-source.result in
    let there : slice_get bound.modules bound.top ≡ Some top = read_at bound.modules c.as_slice.result.now bound.top b.top top b.top_there c.as_slice.ensures c.index-as_slice-source.is in
    let m = all_got (IsModule table bound) bound.modules bound.top top b.modules there in
    let few = few_port_bits table bound top m there c.requires.within c.whole_is_listed.ensures.places in
    let ports : c.in_ok-ports.ports ≡ port_bits top.ports = c.in_ok-ports.ensures ∙ ap port_bits c.as_slice-2.ensures in
    let bits : c.as_slice-bits.result.now ≡ c.in_ok-ports.ports = c.as_slice-bits.ensures.value in
    let many : length c.in_ok-ports.ports ≤ 2000000 = (let same = ap length ports in omega (arith, few, same)) in
    let same = ap length bits in
    omega (arith, many, same)

pub list_readers-requires-clause-rows : goal.list_readers-requires-clause-rows
list_readers-requires-clause-rows c =
    rows_of c.args.source.cells.now c.args.source.bound.now (piece_of c.args.wiring.now) c.as_slice-cells.result.now c.requires.written c.as_slice-cells.ensures.value

pub list_readers-requires-clause-room : goal.list_readers-requires-clause-room
list_readers-requires-clause-room c =
    let bound = c.args.source.bound.now in
    let table = c.args.source.cells.now in
    let b = c.requires.source.is_bound in
    let top = c.index-as_slice-source.result in
    let there : slice_get bound.modules bound.top ≡ Some top = read_at bound.modules c.as_slice.result.now bound.top b.top top b.top_there c.as_slice.ensures c.index-as_slice-source.is in
    let m = all_got (IsModule table bound) bound.modules bound.top top b.modules there in
    let few = few_port_bits table bound top m there c.requires.within c.whole_is_listed.ensures.places in
    let ports : c.in_ok-ports.ports ≡ port_bits top.ports = c.in_ok-ports.ensures ∙ ap port_bits c.as_slice-2.ensures in
    let bits : c.as_slice-bits.result.now ≡ c.in_ok-ports.ports = c.as_slice-bits.ensures.value in
    let many : length c.in_ok-ports.ports ≤ 2000000 = (let same = ap length ports in omega (arith, few, same)) in
    let same = ap length bits in
    omega (arith, many, same)

pub returns : goal.returns
returns c =
    let bound = c.args.source.bound.now in
    let table = c.args.source.cells.now in
    let b = c.requires.source.is_bound in
    let top = c.index-as_slice-source.result in
    let there : slice_get bound.modules bound.top ≡ Some top = read_at bound.modules c.as_slice.result.now bound.top b.top top b.top_there c.as_slice.ensures c.index-as_slice-source.is in
    let m = all_got (IsModule table bound) bound.modules bound.top top b.modules there in
    let few = few_port_bits table bound top m there c.requires.within c.whole_is_listed.ensures.places in
    let ports : c.in_ok-ports.ports ≡ port_bits top.ports = c.in_ok-ports.ensures ∙ ap port_bits c.as_slice-2.ensures in
    let bits : c.as_slice-bits.result.now ≡ c.in_ok-ports.ports = c.as_slice-bits.ensures.value in
    let many : length c.in_ok-ports.ports ≤ 2000000 = (let same = ap length ports in omega (arith, few, same)) in
    let piece = piece_of c.args.wiring.now in
    let same = same_shape c.as_slice-bits.result.now c.in_ok-ports.ports c.as_slice-cells.result.now c.args.wiring.now.cells bits c.as_slice-cells.ensures.value in
    record {
      has_shape = is_shape_of table bound piece top c.in_ok-ports.ports c.args.wiring.now.cells c.requires.written c.whole_is_listed.ensures.cells there ports refl;
      few_cells = few_cells_of table bound piece c.requires.written c.whole_is_listed.ensures.cells (c.places_are_counted.ensures.cells 64 bound.top) c.requires.within;
      few_ports = many;
      nets = c.in_ok-nets.ensures ∙ ap (drivers_of table) same;
      readers = c.in_ok-readers.ensures ∙ ap (readers_of table) same;
      starts = c.in_ok-starts.ensures ∙ ap (λ (ps : List PortBit). input_places ps ++ c.as_slice-3.result.now) bits ∙ ap (λ (os : List (Option ℕ)). input_places c.in_ok-ports.ports ++ os) c.as_slice-3.ensures.value;
      reads = c.in_ok-reads.ensures ∙ ap (λ (ps : List PortBit). c.as_slice-4.result.now ++ output_places ps) bits ∙ ap (λ (os : List (Option ℕ)). os ++ output_places c.in_ok-ports.ports) c.as_slice-4.ensures.value;
    }
