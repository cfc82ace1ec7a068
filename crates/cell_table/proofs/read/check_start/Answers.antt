use Rattle.std.proofs.Common.{◌∙◌, ap, sym, arith, map, length}
use Rattle.std.proofs.lemmas.Bool.{eqb-false}
use Rattle.csv.specs.Records.{fields_of}
use Rattle.cell_table.specs.Cells.{head}
use Rattle.table_fields.specs.Records.{head_fault}
use Rattle.table_fields.proofs.RowLists.{read_at}
use Rattle.cell_table.proofs.ReadFacts.{head_refused, no_records}
use Rattle.cell_table.proofs.read.check_start.Goals as goal

pub returns-then-is_empty-clause-fault : goal.returns-then-is_empty-clause-fault
returns-then-is_empty-clause-fault c real = no_records fields_of c.args.records.now (sym c.if-is_empty.ensures)

pub returns-in-Ok-clause-passed : goal.returns-in-Ok-clause-passed
returns-in-Ok-clause-passed c =
    let other = eqb-false (length c.args.records.now) 0 (sym c.if-is_empty.ensures) in
    let is = read_at fields_of c.args.records.now 0 c.index-records-0.result (omega arith) c.index-records-0.is in
    ap (head_fault head) is ∙ c.in-Ok.ensures.passed

pub returns-in-Err-clause-fault : goal.returns-in-Err-clause-fault
returns-in-Err-clause-fault c real =
    let other = eqb-false (length c.args.records.now) 0 (sym c.if-is_empty.ensures) in
    let is = read_at fields_of c.args.records.now 0 c.index-records-0.result (omega arith) c.index-records-0.is in
    head_refused (map fields_of c.args.records.now) c.in-Err.why (ap (head_fault head) is ∙ c.in-Err.ensures.fault)
