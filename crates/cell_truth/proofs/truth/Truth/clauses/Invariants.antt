use Rattle.std.proofs.Common.{◌≡◌}
use Rattle.std.specs.List.{flat_map, range_with_len}
use Rattle.cell_truth.specs.Clause.{written}
use Rattle.cell_truth.specs.Truth.{row_clause}
use Rattle.cell_truth.proofs.truth.Truth.clauses.Given as goal

abbrev pub invariant-loop-row : goal.invariant-loop-row
invariant-loop-row g l = l.made ≡ flat_map (λ row. written (row_clause l.fn.self l.fn.inputs l.fn.output row)) (range_with_len 0 l.row)
