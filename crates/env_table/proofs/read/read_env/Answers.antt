use Rattle.env_table.proofs.EnvFacts.{env_fits}
use Rattle.table_fields.proofs.RowLists.{if_ok}
use Rattle.env_table.proofs.read.read_env.Goals as goal

pub returns-clause-well_formed : goal.returns-clause-well_formed
returns-clause-well_formed c = if_ok c.read_lines.result (λ env lines. env_fits _ env lines) c.read_lines.ensures.lines
