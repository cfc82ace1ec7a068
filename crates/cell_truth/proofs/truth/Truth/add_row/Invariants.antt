use Rattle.std.proofs.Common.{◌≡◌, take}
use Rattle.cell_truth.specs.Truth.{pin_literals}
use Rattle.cell_truth.proofs.truth.Truth.add_row.Given as goal

abbrev pub invariant-loop-pin : goal.invariant-loop-pin
invariant-loop-pin g l = l.clause ≡ pin_literals l.fn.row (take l.pin l.fn.inputs)
