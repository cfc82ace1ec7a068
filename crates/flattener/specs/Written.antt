-- What the walk has written out, as a piece.
use Rattle.flat_places.specs.Pieces.{Piece}
use Rattle.flattener.specs.declared.wiring.Wiring.{Wiring}

abbrev pub piece_of : Wiring → Piece
piece_of wiring = record { places = wiring.places; links = wiring.links.items; cells = wiring.cells; reads = wiring.reads.items; outputs = wiring.outputs.items }
