use Rattle.std.proofs.Common.{◌∙◌, ◌<◌, ◌*◌, sym, arith}
use Rattle.proof_arena.specs.Log.{clauses_of}
use Rattle.rsfq_ids.specs.Formula.{opposite}
use Rattle.proof_arena.specs.Table.{falses_of}
use Rattle.proof_arena.proofs.Marked.{opposite-lt}
use Rattle.proof_arena.proofs.Readings.{hint_past, unit_over}
use Rattle.proof_arena.proofs.step.find_conflict.Goals as goal

pub returns-then-index-clauses-clause-found : goal.returns-then-index-clauses-clause-found
returns-then-index-clauses-clause-found c =
    hint_past (clauses_of c.args.log.now) (falses_of c.loop-hint.marks) c.args.hints.now c.loop-hint.hint-index c.hint-item.result c.loop-hint-test.true
    c.hint-item.is (omega arith)
    ∙ sym c.loop-hint.invariant.rest

pub make_false-requires : goal.make_false-requires
make_false-requires c =
    let within : c.in-Unit.lit < 2 * c.args.log.now.vars =
    unit_over (falses_of c.loop-hint.marks) c.args.log.now.vars c.clause.result.now c.in-Unit.lit c.clause.ensures.over c.in-Unit.ensures in
    let other : opposite c.in-Unit.lit < 2 * c.args.log.now.vars = opposite-lt c.in-Unit.lit c.args.log.now.vars within in
    omega arith
