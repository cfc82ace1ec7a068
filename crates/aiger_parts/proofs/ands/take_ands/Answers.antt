use Rattle.std.proofs.Common.{◌+◌, ◌*◌, ℕ, List, Result}
use Rattle.std.proofs.lemmas.Result.{err_from_is_err_and}
use Rattle.golden_aig.specs.declared.graph.And.{And}
use Rattle.aiger_parts.specs.declared.fault.Stop.{Stop}
use Rattle.aiger_parts.specs.Reading.{many_at, and_at}
use Rattle.aiger_parts.proofs.Loop.{goes_on, ends, is_done}
use Rattle.aiger_parts.proofs.ands.take_ands.Goals as goal

one : ℕ → ℕ → List ℕ → Result (And × List ℕ) Stop
one = λ inputs place. and_at (2 * (inputs + place + 1))

pub returns-in_err-and : goal.returns-in_err-and
unfolding one
returns-in_err-and c =
    let p = err_from_is_err_and c.from_residual.result c.from_residual.ensures.1 in
    rw (p.1, p.2) (ends (one c.args.inputs) c.in_err-and.field-0.0 c.loop-place.ands c.args.count c.loop-place.place c.loop-place.rest.now
    (many_at (one c.args.inputs) 0 c.args.count c.args.bytes.now) c.loop-place-test.true c.in_err-and.ensures c.loop-place.invariant)

pub loop-place-preserved : goal.loop-place-preserved
unfolding one
loop-place-preserved c =
    rw c.in_ok-push.ensures.ok (goes_on (one c.args.inputs) c.loop-place.ands c.args.count c.loop-place.place c.loop-place.rest.now c.in_ok-and.and c.in_ok-and.behind.now
    (many_at (one c.args.inputs) 0 c.args.count c.args.bytes.now) c.loop-place-test.true c.in_ok-and.ensures c.loop-place.invariant)

pub returns : goal.returns
unfolding one
returns c =
    is_done (one c.args.inputs) c.loop-place.ands c.args.count c.loop-place.place c.loop-place.rest.now (many_at (one c.args.inputs) 0 c.args.count c.args.bytes.now) c.loop-place-test.false c.loop-place.invariant
