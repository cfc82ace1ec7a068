use Rattle.std.specs.Option.{option_copied}
use Rattle.std.proofs.lemmas.Result.{err_from_is_err_and}
use Rattle.loading.proofs.Alone.{no_tree, no_bound, no_circuit, one_circuit}
use Rattle.loading.proofs.Agreeing.{tree_agrees, bind_agrees, flat_agrees, none_refused}
use Rattle.loading.proofs.load.load_circuit.Goals as goal

pub returns-in_err-source-clause-none : goal.returns-in_err-source-clause-none
returns-in_err-source-clause-none c =
    let p = err_from_is_err_and c.from_residual.result c.from_residual.ensures.1 in
    rw (p.1, p.2) (λ named flat has. no_tree c.args.text.now _ has.has_bound.tree c.in_err-source.ensures.err named has.has_bound.has_tree)

pub returns-in_err-bound-clause-none : goal.returns-in_err-bound-clause-none
returns-in_err-bound-clause-none c =
    let p = err_from_is_err_and c.from_residual-in_err-bound.result c.from_residual-in_err-bound.ensures.1 in
    rw p.1 (λ named flat has. no_bound _ _ _ _ _ p.0 flat c.in_ok-source.ensures.only c.in_err-bound.ensures.fault p.2 named has)

pub returns-in_err-flat-clause-none : goal.returns-in_err-flat-clause-none
returns-in_err-flat-clause-none c =
    let p = err_from_is_err_and c.from_residual-in_err-flat.result c.from_residual-in_err-flat.ensures.1 in
    rw p.1 (λ named flat has. no_circuit _ _ _ _ _ _ p.0 flat c.in_ok-source.ensures.only c.in_ok-bound.ensures.only c.in_err-flat.ensures.none p.2 named has)

pub returns-clause-only : goal.returns-clause-only
returns-clause-only c other has =
    one_circuit _ _ _ _ _ _ other c.in_ok-source.ensures.only c.in_ok-bound.ensures.only c.in_ok-flat.ensures.only has

pub returns-in_err-source-clause-agree : goal.returns-in_err-source-clause-agree
returns-in_err-source-clause-agree c =
    let p = err_from_is_err_and c.from_residual.result c.from_residual.ensures.1 in
    rw (p.1, p.2) (λ named other known is. tree_agrees c.args.cells.now (option_copied c.args.top) c.args.text.now _ c.in_err-source.ensures.err named (c.in_err-source.ensures.agree named) other known is)

pub returns-in_err-bound-clause-agree : goal.returns-in_err-bound-clause-agree
returns-in_err-bound-clause-agree c =
    let p = err_from_is_err_and c.from_residual-in_err-bound.result c.from_residual-in_err-bound.ensures.1 in
    rw p.1 (λ named other known is. bind_agrees c.fault_is_one.ensures c.args.cells.now (option_copied c.args.top) c.args.text.now _ _ p.0 c.in_ok-source.ensures.tree c.in_ok-source.ensures.only c.in_err-bound.ensures.fault p.2 named other known is)

pub returns-in_err-flat-clause-agree : goal.returns-in_err-flat-clause-agree
returns-in_err-flat-clause-agree c =
    let p = err_from_is_err_and c.from_residual-in_err-flat.result c.from_residual-in_err-flat.ensures.1 in
    rw p.1 (λ named other known is. flat_agrees c.args.cells.now (option_copied c.args.top) c.args.text.now _ _ _ p.0
    (record { has = c.in_ok-source.ensures.tree; only = c.in_ok-source.ensures.only; clean = c.in_ok-bound.ensures.clean; one = c.in_ok-bound.ensures.only }) c.in_err-flat.ensures.agree p.2 named other known is)

pub returns-clause-unrefused : goal.returns-clause-unrefused
returns-clause-unrefused c other known is =
    none_refused c.args.cells.now (option_copied c.args.top) c.args.text.now _ _
    (record { has = c.in_ok-source.ensures.tree; only = c.in_ok-source.ensures.only; clean = c.in_ok-bound.ensures.clean; one = c.in_ok-bound.ensures.only }) c.in_ok-flat.ensures.unrefused other known is
