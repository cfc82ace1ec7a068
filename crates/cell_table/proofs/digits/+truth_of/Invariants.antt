use Rattle.std.proofs.Common.{length}
use Rattle.cell_table.proofs.digits.+truth_of.Given as goal

abbrev pub decreases-truth_of : goal.decreases-truth_of
decreases-truth_of l = length l.digits.now
