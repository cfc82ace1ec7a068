use Rattle.std.proofs.Common.{◌<◌, length, sym, arith}
use Rattle.std.proofs.lemmas.Bool.{eqb-false}
use Rattle.cell_table.proofs.PinLists.{distinct_later, not_distinct}
use Rattle.cell_table.proofs.pins.+are_distinct.Goals as goal

pub returns : goal.returns
returns t c =
    let other = eqb-false (length c.args.names.now) 0 (sym c.if-is_empty.ensures) in
    let some : 0 < length c.args.names.now = omega arith in
    distinct_later c.args.names.now c.contains.result c.are_distinct.result some c.contains.ensures c.if-contains.false c.are_distinct.ensures

pub returns-then-contains : goal.returns-then-contains
returns-then-contains t c =
    let other = eqb-false (length c.args.names.now) 0 (sym c.if-is_empty.ensures) in
    let some : 0 < length c.args.names.now = omega arith in
    not_distinct c.args.names.now c.contains.result some c.contains.ensures c.if-contains.true
