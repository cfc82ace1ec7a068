use Rattle.std.proofs.Common.{rules}
use Rattle.table_fields.proofs.RowLists.{if_ok}
use Rattle.cell_table.proofs.ReadFacts.{table_digits, table_fits, table_plain}
use Rattle.cell_table.proofs.read.read_cells.Goals as goal

pub returns-clause-well_formed : goal.returns-clause-well_formed
returns-clause-well_formed c = if_ok c.read_rows.result (λ table cells. table_fits _ table cells) c.read_rows.ensures.cells

pub returns-clause-plain : goal.returns-clause-plain
returns-clause-plain c = if_ok c.read_rows.result (λ table cells. table_plain _ table cells) c.read_rows.ensures.cells

pub returns-clause-digits : goal.returns-clause-digits
returns-clause-digits c = if_ok c.read_rows.result (λ table cells. table_digits _ table cells) (search rules)
