use Rattle.std.proofs.Common.{◌≡◌, ◌+◌, ◌*◌, drop}
use Rattle.std.specs.Option.{option_copied}
use Rattle.flat_places.specs.Pieces.{joined, pieces_from, inside_piece, instance_at}
use Rattle.flattener.specs.Written.{piece_of}
use Rattle.flattener.proofs.Picking.{picked}
use Rattle.flattener.proofs.wiring.+wire_up.Given as goal

abbrev pub decreases-wire_instance : goal.decreases-wire_instance
decreases-wire_instance l = 2 * l.levels

abbrev pub decreases-wire_up : goal.decreases-wire_up
decreases-wire_up l = 2 * l.levels + 1

abbrev pub invariant-wire_up-loop-place : goal.invariant-wire_up-loop-place
invariant-wire_up-loop-place l =
    joined (piece_of l.wiring) (pieces_from (instance_at l.walk.source.cells.now l.walk.source.bound.now l.levels (option_copied l.path) l.offsets) l.wiring.places (picked l.instances (drop l.place-index l.place-items)))
    ≡ joined (piece_of l.fn.wiring) (inside_piece l.walk.source.cells.now l.walk.source.bound.now l.levels l.at (option_copied l.path) l.offsets l.fn.wiring.places)
