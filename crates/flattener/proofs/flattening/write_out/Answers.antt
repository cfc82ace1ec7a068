use Rattle.std.proofs.Common.{◌≡◌, ◌∙◌, Some, sym, subst}
use Rattle.std.specs.Prelude.{slice_get}
use Rattle.flat_names.proofs.Lists.{read_at}
use Rattle.flattener.specs.Walk.{HasRoom}
use Rattle.flattener.specs.Written.{piece_of}
use Rattle.flattener.proofs.Writing.{whole_goes, whole_room, top_offsets}
use Rattle.flattener.proofs.flattening.write_out.Goals as goal

pub wire_up-requires-clause-offsets : goal.wire_up-requires-clause-offsets
wire_up-requires-clause-offsets c =
    let bound = c.args.source.bound.now in
    let b = c.requires.source.is_bound in
    let top = c.index-as_slice-source.result in
    let there : slice_get bound.modules bound.top ≡ Some top = read_at bound.modules c.as_slice.result.now bound.top b.top top b.top_there c.as_slice.ensures c.index-as_slice-source.is in
    top_offsets c.args.source.cells.now bound top (piece_of c.new-wiring.result) c.as_slice-6.result.now c.as_slice-7.result.now c.requires.within c.whole_is_listed.ensures.places there c.as_slice-6.ensures c.new-wiring.ensures
    (c.as_slice-7.ensures.value ∙ c.in_ok-offsets.ensures.offsets)

pub wire_up-requires-clause-room : goal.wire_up-requires-clause-room
wire_up-requires-clause-room c =
    let bound = c.args.source.bound.now in
    let b = c.requires.source.is_bound in
    let top = c.index-as_slice-source.result in
    let there : slice_get bound.modules bound.top ≡ Some top = read_at bound.modules c.as_slice.result.now bound.top b.top top b.top_there c.as_slice.ensures c.index-as_slice-source.is in
    let goes = whole_goes c.args.source.cells.now bound top (piece_of c.new-wiring.result) (piece_of c.place_wires.new.self) c.as_slice-6.result.now c.as_slice-7.result.now there c.as_slice-6.ensures c.new-wiring.ensures c.in_ok-offsets.ensures.places
    (c.as_slice-7.ensures.value ∙ c.in_ok-offsets.ensures.offsets) in
    subst HasRoom (sym goes) (whole_room c.args.source.cells.now bound c.requires.within c.whole_is_listed.ensures.places c.whole_is_listed.ensures.cells (c.places_are_counted.ensures.cells 64 bound.top))

pub returns : goal.returns
returns c =
    let bound = c.args.source.bound.now in
    let b = c.requires.source.is_bound in
    let top = c.index-as_slice-source.result in
    let there : slice_get bound.modules bound.top ≡ Some top = read_at bound.modules c.as_slice.result.now bound.top b.top top b.top_there c.as_slice.ensures c.index-as_slice-source.is in
    c.in_ok-wire_up.ensures
    ∙ whole_goes c.args.source.cells.now bound top (piece_of c.new-wiring.result) (piece_of c.place_wires.new.self) c.as_slice-6.result.now c.as_slice-7.result.now there c.as_slice-6.ensures c.new-wiring.ensures c.in_ok-offsets.ensures.places
    (c.as_slice-7.ensures.value ∙ c.in_ok-offsets.ensures.offsets)
