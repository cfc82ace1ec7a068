use Rattle.std.proofs.Common.{◌∙◌, ◌+◌, ◌≡◌, ◌<◌, ap, sym, arith, take, drop, length, Some, None}
use Rattle.decimal_text.specs.Number.{number_up_to}
use Rattle.dimacs_text.proofs.PartLemmas.{rest_is}
use Rattle.dimacs_text.proofs.HeadSays.{no_vars, no_space, no_count, both_counts}
use Rattle.dimacs_text.proofs.head.read_sizes.Goals as goal

pub returns-in_err-vars-clause-head : goal.returns-in_err-vars-clause-head
returns-in_err-vars-clause-head c =
    c.from_residual.ensures
    ∙ sym (no_vars c.args.sizes.now c.field_end-space.result c.field_end-space.ensures.end c.in_err-vars.ensures.number)

pub returns-in_err-clauses-clause-head : goal.returns-in_err-clauses-clause-head
returns-in_err-clauses-clause-head c =
    let apart = c.if-space-sizes.false in
    let within = c.field_end-space.ensures.within in
    c.from_residual-in_err-clauses.ensures
    ∙ sym (no_count c.args.sizes.now c.field_end-space.result c.in_ok-vars.vars c.field_end-space.ensures.end
    c.in_ok-vars.ensures.number (omega arith)
    (rw (rest_is c.args.sizes.now (c.field_end-space.result + 1)) at c.in_err-clauses.ensures.number))

pub returns-clause-head : goal.returns-clause-head
returns-clause-head c =
    let apart = c.if-space-sizes.false in
    let within = c.field_end-space.ensures.within in
    sym (both_counts c.args.sizes.now c.field_end-space.result c.in_ok-vars.vars c.in_ok-clauses.clauses c.field_end-space.ensures.end
    c.in_ok-vars.ensures.number (omega arith)
    (rw (rest_is c.args.sizes.now (c.field_end-space.result + 1)) at c.in_ok-clauses.ensures.number))
