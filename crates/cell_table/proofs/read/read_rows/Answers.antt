use Rattle.std.proofs.Common.{◌≡◌, ◌∙◌, ◌∷◌, suc, [], ap, sym, subst, arith, add-one, map, length, get_or, None, length-append}
use Rattle.std.proofs.lemmas.List.{length-map}
use Rattle.csv.specs.Records.{fields_of}
use Rattle.rsfq_ids.specs.declared.table.CellRow.{CellRow}
use Rattle.cell_table.specs.Cells.{StandsFor, row_fault}
use Rattle.table_fields.proofs.RowLists.{below_suc}
use Rattle.cell_table.proofs.ReadFacts.{each_push}
use Rattle.cell_table.proofs.read.read_rows.Goals as goal

pub returns-in-Err-clause-fault : goal.returns-in-Err-clause-fault
returns-in-Err-clause-fault c real = record {
  there = omega (arith, length-map c.args.records.now fields_of);
  cause = rw add-one (c.in-Err.ensures.fault real);
  first = c.loop-place.invariant.passed;
}

pub loop-place-preserved : goal.loop-place-preserved
loop-place-preserved c =
    let added = c.in-Ok.ensures.cell in
    let here : StandsFor (get_or (map fields_of c.args.records.now) (suc (length c.loop-place.rows)) []) added.0 =
    subst (λ n. StandsFor (get_or (map fields_of c.args.records.now) (suc n) []) added.0) (sym c.loop-place.invariant.count) added.2 in
    record {
      names = c.in-Ok.ensures.names;
      passed = below_suc (λ row. row_fault (map fields_of c.args.records.now) row ≡ None) c.loop-place.place c.loop-place.invariant.passed c.in-Ok.ensures.passed;
      count = ap length added.1 ∙ omega (arith, length-append c.loop-place.rows (added.0 ∷ []), c.loop-place.invariant.count);
      cells = rw added.1 (each_push (λ place (cell : CellRow). StandsFor (get_or (map fields_of c.args.records.now) (suc place) []) cell) c.loop-place.rows added.0 c.loop-place.invariant.cells here);
    }

pub returns-clause-cells : goal.returns-clause-cells
returns-clause-cells c = record {
  passed = λ row less. c.loop-place.invariant.passed row (omega (arith, length-map c.args.records.now fields_of));
  count = omega (arith, length-map c.args.records.now fields_of, c.loop-place.invariant.count);
  cells = c.loop-place.invariant.cells;
}
