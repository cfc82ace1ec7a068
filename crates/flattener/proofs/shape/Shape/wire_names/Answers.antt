use Rattle.std.proofs.Common.{get_or}
use Rattle.std.proofs.lemmas.Option.{slice_get-get_or}
use Rattle.flattener.proofs.shape.Shape.wire_names.Goals as goal

pub found_name-requires-clause-there : goal.found_name-requires-clause-there
found_name-requires-clause-there c =
    let places = c.args.places.now in
    let at = c.loop-place.place-index in
    c.requires.there at (get_or places at 0) (slice_get-get_or places at 0 c.loop-place-test.true)
