use Rattle.cell_truth.proofs.Bits.{below_sixteen}
use Rattle.cell_truth.proofs.truth.Truth.at.Goals as goal

pub bit-requires : goal.bit-requires
bit-requires g c = below_sixteen g.row.PINS c.args.row c.requires.pins c.requires.row
