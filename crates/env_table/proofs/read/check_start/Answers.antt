use Rattle.std.proofs.Common.{sym}
use Rattle.csv.specs.Records.{fields_of}
use Rattle.env_table.proofs.ReadFacts.{no_records}
use Rattle.env_table.proofs.read.check_start.Goals as goal

pub returns-then-is_empty-clause-fault : goal.returns-then-is_empty-clause-fault
returns-then-is_empty-clause-fault c real = no_records fields_of c.args.records.now (sym c.if-is_empty.ensures)
