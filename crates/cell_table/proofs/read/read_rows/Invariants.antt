use Rattle.std.proofs.Common.{◌≡◌, ℕ, ◌+◌, ◌<◌, suc, [], None, map, length, get_or}
use Rattle.csv.specs.Records.{fields_of}
use Rattle.rsfq_ids.specs.declared.table.CellRow.{CellRow}
use Rattle.cell_table.specs.Cells.{StandsFor, first_names, row_fault}
use Rattle.cell_table.proofs.read.read_rows.Given as goal

abbrev pub invariant-loop-place : goal.invariant-loop-place
invariant-loop-place l = record {
  names : l.names ≡ first_names (map fields_of l.records) l.place;
  passed : (row : ℕ) → row < l.place + 1 → row_fault (map fields_of l.records) row ≡ None;
  count : length l.rows ≡ l.place;
  cells : (place : ℕ) (d : CellRow) → place < length l.rows → StandsFor (get_or (map fields_of l.records) (suc place) []) (get_or l.rows place d);
}
