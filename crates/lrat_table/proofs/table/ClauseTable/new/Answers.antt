use Rattle.std.proofs.Common.{◌∙◌, ◌+◌, ap, arith, take}
use Rattle.lrat_table.specs.Found.{Found, given_at, with_clause}
use Rattle.lrat_table.proofs.GivenSays.{given_more, whole}
use Rattle.lrat_table.proofs.table.ClauseTable.new.Goals as goal

pub loop-clause-preserved : goal.loop-clause-preserved
loop-clause-preserved c =
    let i = c.loop-clause.clause-index in
    let xs = c.as_slice-clause-items.result.now in
    let clause = c.as_slice.result.now in
    let number = c.loop-clause.invariant.id in
    record {
      id = omega arith;
      last = omega (arith, c.in_ok-add.ensures.last);
      table = c.in_ok-add.ensures.found
          ∙ (ap (λ (f : Found). with_clause f (c.loop-clause.id + 1) clause) c.loop-clause.invariant.table
          ∙ (ap (λ n. with_clause (given_at (take i xs)) (n + 1) clause) c.loop-clause.invariant.id
          ∙ given_more xs i clause c.loop-clause-test.true (rw c.as_slice.ensures c.clause-item.is)));
    }

pub returns-clause-found : goal.returns-clause-found
returns-clause-found c = c.loop-clause.invariant.table ∙ ap given_at (whole c.as_slice-clause-items.result.now c.loop-clause.clause-index (omega arith) ∙ c.as_slice-clause-items.ensures)
