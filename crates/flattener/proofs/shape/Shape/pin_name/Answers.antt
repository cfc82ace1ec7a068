use Rattle.std.proofs.Common.{◌≡◌, ℕ, List, get_or, Some}
use Rattle.std.specs.Prelude.{slice_get}
use Rattle.std.proofs.lemmas.Option.{slice_get-get_or}
use Rattle.rsfq_ids.specs.declared.circuit.Reader.{Reader}
use Rattle.flat_places.specs.Names.{reader_name}
use Rattle.flat_names.proofs.Lists.{ok_then}
use Rattle.flattener.specs.Ends.{printed_reader}
use Rattle.flattener.proofs.Resolving.{pin_fits, pin_printed_as}
use Rattle.flattener.proofs.shape.Shape.pin_name.Goals as goal

pub reader_name-requires : goal.reader_name-requires
reader_name-requires c =
    let readers = c.args.self.readers.now in
    pin_fits c.args.self c.requires.shaped c.args.pin (get_or readers c.args.pin c.index-self-pin.result) (slice_get-get_or readers c.args.pin c.index-self-pin.result c.requires.there)

pub returns : goal.returns
returns c =
    let shape = c.args.self in
    let d = c.index-self-pin.result in
    ok_then (λ (name : List ℕ). name ≡ printed_reader shape.source.cells.now shape.ports.now shape.cells.now (get_or shape.readers.now c.args.pin d))
    (λ (name : List ℕ). (by : Reader) → slice_get shape.readers.now c.args.pin ≡ Some by → name ≡ reader_name shape.source.cells.now shape.source.bound.now by)
    (λ name is by e. pin_printed_as shape c.requires.shaped c.args.pin d by name c.requires.there is e) c.reader_name.result c.reader_name.ensures
